-- Taking fronts of what is left, one after another.
use Rattle.std.proofs.Common.{◌≡◌, ℕ, List, [], ◌++◌, sym, ◌∙◌, ap, append_assoc, ◌+◌, ◌≤◌, take, drop, length, length-append}
use Rattle.std.proofs.lemmas.List.{length-take-le, take-append-drop, drop-drop}
use Rattle.std.proofs.Math.Seq.{take-append_seam}
use Rattle.smol_edge.specs.Source.{Reading, Takes, TakesFront}

-- one front and then another are both together
pub Takes-then : (xs ys : List ℕ) (a b c : Reading) → Takes xs a b → Takes ys b c → Takes (xs ++ ys) a c
Takes-then xs ys a b c first second = record {
  contents = second.contents ∙ first.contents;
  asked = second.asked ∙ first.asked;
  left = first.left ∙ ap (λ rest. xs ++ rest) second.left ∙ sym (append_assoc xs ys c.left);
}

-- bytes and then a front of the rest are a longer front
pub TakesFront-after : (xs : List ℕ) (a b c : Reading) (P Q : ℕ → Type 0) → ((n : ℕ) → P n → Q (length xs + n)) → Takes xs a b → TakesFront P b c → TakesFront Q a c
TakesFront-after xs a b c P Q longer first second = record {
  front = xs ++ second.front;
  takes = Takes-then xs second.front a b c first second.takes;
  length_is = rw length-append (longer (length second.front) second.length_is);
}

-- the bytes from a place on are the front that was copied and the bytes from behind it on
pub drop-split : (bytes copied tail : List ℕ) (place n : ℕ) → n ≤ length (drop place bytes) → copied ≡ take n (drop place bytes) → drop place bytes ≡ take n (copied ++ tail) ++ drop (place + n) bytes
drop-split bytes copied tail place n within is =
    let whole : length copied ≡ n = rw is (length-take-le n (drop place bytes) within) in
    let front : take n (copied ++ tail) ≡ copied =
    ap (λ k. take k (copied ++ tail)) (sym whole) ∙ take-append_seam copied tail in
    let behind : drop (place + n) bytes ≡ drop n (drop place bytes) = sym (drop-drop n place bytes) in
    rw (front, is, behind) (sym (take-append-drop n (drop place bytes)))
