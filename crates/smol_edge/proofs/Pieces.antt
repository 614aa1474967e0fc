-- What outlets get of lists of pieces, and appending twice.
use Rattle.std.proofs.Common.{◌≡◌, ℕ, ◌+◌, ◌==◌, if◌then◌else◌, true, false, List, [], ◌∷◌, ◌++◌, take, drop, refl, sym, ◌∙◌, ap, subst, append_assoc}
use Rattle.std.proofs.lemmas.List.{append-nil}
use Rattle.std.proofs.Math.Seq.{take-add}
use Rattle.smol_edge.specs.Outlets.{Written, Piece, bytes_on, Appends}

-- pieces after pieces: each outlet gets its part of both
pub bytes_on-append : (outlet : ℕ) (xs ys : List Piece) → bytes_on outlet (xs ++ ys) ≡ bytes_on outlet xs ++ bytes_on outlet ys
bytes_on-append outlet [] ys = refl
bytes_on-append outlet (x ∷ xs) ys = rw (bytes_on-append outlet xs ys, append_assoc) refl

-- one piece cut in two is the same for each outlet
pub bytes_on-cut : (outlet place : ℕ) (xs ys : List ℕ) → bytes_on outlet ((place, xs ++ ys) ∷ []) ≡ bytes_on outlet ((place, xs) ∷ (place, ys) ∷ [])
bytes_on-cut outlet place xs ys =
    elim (place == outlet) as
    (λ b. (if b then xs ++ ys else []) ++ [] ≡ (if b then xs else []) ++ ((if b then ys else []) ++ []))
    [ true ↦ append_assoc xs ys [] | false ↦ refl ]

-- appending nothing
pub Appends-nothing : (w : Written) → Appends [] w w
Appends-nothing w = record { names = refl; bytes = λ outlet. sym (append-nil (w.bytes outlet)) }

-- pieces and then further pieces are all of them together
pub Appends-then : (xs ys : List Piece) (a b c : Written) → Appends xs a b → Appends ys b c → Appends (xs ++ ys) a c
Appends-then xs ys a b c first second = record {
  names = second.names ∙ first.names;
  bytes = λ outlet.
      second.bytes outlet ∙ ap (λ front. front ++ bytes_on outlet ys) (first.bytes outlet)
      ∙ append_assoc (a.bytes outlet) (bytes_on outlet xs) (bytes_on outlet ys)
      ∙ ap (λ back. a.bytes outlet ++ back) (sym (bytes_on-append outlet xs ys));
}

-- bytes and then further bytes to one outlet are one piece
pub Appends-joined : (place : ℕ) (xs ys : List ℕ) (a b c : Written) → Appends ((place, xs) ∷ []) a b → Appends ((place, ys) ∷ []) b c → Appends ((place, xs ++ ys) ∷ []) a c
Appends-joined place xs ys a b c first second =
    let both = Appends-then ((place, xs) ∷ []) ((place, ys) ∷ []) a b c first second in
    record {
      names = both.names;
      bytes = λ outlet. both.bytes outlet ∙ ap (λ back. a.bytes outlet ++ back) (sym (bytes_on-cut outlet place xs ys));
    }

-- a front of the bytes and then a front of the rest are one longer front
pub Appends-further : (place n m : ℕ) (bytes : List ℕ) (a b c : Written) → Appends ((place, take n bytes) ∷ []) a b → Appends ((place, take m (drop n bytes)) ∷ []) b c → Appends ((place, take (n + m) bytes) ∷ []) a c
Appends-further place n m bytes a b c first second =
    subst (λ (front : List ℕ). Appends ((place, front) ∷ []) a c) (sym (take-add n m bytes))
    (Appends-joined place (take n bytes) (take m (drop n bytes)) a b c first second)
