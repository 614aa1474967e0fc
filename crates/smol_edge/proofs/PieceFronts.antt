-- Fronts of lists of pieces, and appending them.
use Rattle.std.proofs.Common.{◌≡◌, ℕ, ◌+◌, ◌-◌, ◌≤◌, ◌==◌, if◌then◌else◌, true, false, List, [], ◌∷◌, ◌++◌, length, take, refl, sym, ◌∙◌, ap, arith, inl, inr}
use Rattle.std.specs.List.{sum_by}
use Rattle.std.proofs.lemmas.List.{append-nil, take_all, take-append-le}
use Rattle.std.proofs.lemmas.Bool.{cases_lt}
use Rattle.std.proofs.lemmas.List.Sums.{sum_by-cons}
use Rattle.std.proofs.Math.Seq.{take-append-add}
use Rattle.smol_edge.specs.Outlets.{Written, Piece, bytes_on, front_of, Appends, AppendsFrontOf}
use Rattle.smol_edge.proofs.Pieces.{Appends-then, Appends-nothing}

-- how many bytes the pieces have
abbrev pub byte_count : List Piece → ℕ
byte_count pieces = sum_by (λ piece. length piece.1) pieces

-- a front of two lists of pieces is one of the first list, and of the second as far as the count goes beyond the first
pub front_of-append : (count : ℕ) (xs ys : List Piece) → front_of count (xs ++ ys) ≡ front_of count xs ++ front_of (count - byte_count xs) ys
front_of-append count [] ys =
    let all : count - byte_count [] ≡ count = omega arith in
    rw all refl
front_of-append count (x ∷ xs) ys =
    let rest : count - length x.1 - byte_count xs ≡ count - byte_count (x ∷ xs) =
    omega (arith, sum_by-cons (λ (piece : Piece). length piece.1) x xs) in
    ap (λ front. (x.0, take count x.1) ∷ front)
    (front_of-append (count - length x.1) xs ys
    ∙ ap (λ left. front_of (count - length x.1) xs ++ front_of left ys) rest)

-- a front of as many bytes as there are, or more, is all of them
pub front_of-all : (count : ℕ) (xs : List Piece) → byte_count xs ≤ count → front_of count xs ≡ xs
front_of-all count [] all = refl
front_of-all count (x ∷ xs) all =
    let sum = sum_by-cons (λ (piece : Piece). length piece.1) x xs in
    let here : length x.1 ≤ count = omega arith in
    let there : byte_count xs ≤ count - length x.1 = omega arith in
    rw (take_all count x.1 here, front_of-all (count - length x.1) xs there) refl

-- a front of no bytes has none for any outlet
pub bytes_on-front_of-zero : (outlet : ℕ) (xs : List Piece) → bytes_on outlet (front_of 0 xs) ≡ []
bytes_on-front_of-zero outlet [] = refl
bytes_on-front_of-zero outlet (x ∷ xs) =
    let none : 0 - length x.1 ≡ 0 = omega arith in
    rw (none, bytes_on-front_of-zero outlet xs)
    (elim (x.0 == outlet) as (λ b. (if b then take 0 x.1 else []) ++ [] ≡ []) [ true ↦ refl | false ↦ refl ])

-- a front of the bytes, and behind all of them a front of the rest, are a front of both
front_joined : (count n : ℕ) (bytes rest front : List ℕ) → front ≡ take n rest → (count ≤ length bytes → front ≡ []) → (m : ℕ) × (take count bytes ++ front ≡ take m (bytes ++ rest))
front_joined count n bytes rest front is stops =
    elim (cases_lt (length bytes) count) [
      | inl beyond ↦ let all : length bytes ≤ count = omega arith in
          (length bytes + n, rw (take_all count bytes all, is) (sym (take-append-add bytes rest n)))
      | inr within ↦ (count, rw (stops within, append-nil (take count bytes)) (sym (take-append-le count bytes rest within)))
    ]

-- a front of the pieces is a front of what each outlet gets of them
pub bytes_on-front_of : (outlet count : ℕ) (xs : List Piece) → (n : ℕ) × (bytes_on outlet (front_of count xs) ≡ take n (bytes_on outlet xs))
bytes_on-front_of outlet count [] = (0, refl)
bytes_on-front_of outlet count (x ∷ xs) =
    let further = bytes_on-front_of outlet (count - length x.1) xs in
    elim (x.0 == outlet) as
    (λ b. (n : ℕ) × ((if b then take count x.1 else []) ++ bytes_on outlet (front_of (count - length x.1) xs) ≡ take n ((if b then x.1 else []) ++ bytes_on outlet xs))) [
      | true ↦ front_joined count further.0 x.1 (bytes_on outlet xs) (bytes_on outlet (front_of (count - length x.1) xs)) further.1
          (λ within. let none : count - length x.1 ≡ 0 = omega arith in rw none (bytes_on-front_of-zero outlet xs))
      | false ↦ further
    ]

-- what is appended counts by what each outlet gets of it
pub Appends-same : (xs ys : List Piece) (a b : Written) → ((outlet : ℕ) → bytes_on outlet xs ≡ bytes_on outlet ys) → Appends xs a b → Appends ys a b
Appends-same xs ys a b same appends = record {
  names = appends.names;
  bytes = λ outlet. appends.bytes outlet ∙ ap (λ back. a.bytes outlet ++ back) (same outlet);
}

-- all the pieces are a front of them
pub AppendsFrontOf-all : (xs : List Piece) (a b : Written) → Appends xs a b → AppendsFrontOf xs a b
AppendsFrontOf-all xs a b appends = record {
  count = byte_count xs;
  appends = rw (front_of-all (byte_count xs) xs (omega arith)) appends;
}

-- nothing is a front of any pieces
pub AppendsFrontOf-nothing : (xs : List Piece) (a b : Written) → Appends [] a b → AppendsFrontOf xs a b
AppendsFrontOf-nothing xs a b nothing = record {
  count = 0;
  appends = Appends-same [] (front_of 0 xs) a b (λ outlet. sym (bytes_on-front_of-zero outlet xs)) nothing;
}

-- pieces and then a front of further pieces are a front of all of them
pub AppendsFrontOf-after : (xs ys : List Piece) (a b c : Written) → Appends xs a b → AppendsFrontOf ys b c → AppendsFrontOf (xs ++ ys) a c
AppendsFrontOf-after xs ys a b c first second =
    let count : ℕ = byte_count xs + second.count in
    let left : count - byte_count xs ≡ second.count = omega arith in
    let all : byte_count xs ≤ count = omega arith in
    record {
      count = count;
      appends =
          rw (front_of-append count xs ys, left, front_of-all count xs all)
          (Appends-then xs (front_of second.count ys) a b c first second.appends);
    }

-- a front of pieces is a front of more of them
pub AppendsFrontOf-longer : (xs ys : List Piece) (a b : Written) → AppendsFrontOf xs a b → AppendsFrontOf (xs ++ ys) a b
AppendsFrontOf-longer xs ys a b front =
    elim (cases_lt (byte_count xs) front.count) [
      | inl beyond ↦ let all : byte_count xs ≤ front.count = omega arith in
          let whole = rw (front_of-all front.count xs all) at front.appends in
          AppendsFrontOf-after xs ys a b b whole (AppendsFrontOf-nothing ys b b (Appends-nothing b))
      | inr within ↦ let none : front.count - byte_count xs ≡ 0 = omega arith in
          let stays = Appends-same [] (front_of 0 ys) b b (λ outlet. sym (bytes_on-front_of-zero outlet ys)) (Appends-nothing b) in
          record {
            count = front.count;
            appends = rw (front_of-append front.count xs ys, none) (Appends-then (front_of front.count xs) (front_of 0 ys) a b b front.appends stays);
          }
    ]

-- a front of the pieces is a front of what each outlet gets of them
pub AppendsFrontOf-bytes : (xs : List Piece) (a b : Written) → AppendsFrontOf xs a b → (outlet : ℕ) → (n : ℕ) × (b.bytes outlet ≡ a.bytes outlet ++ take n (bytes_on outlet xs))
AppendsFrontOf-bytes xs a b front outlet =
    let on = bytes_on-front_of outlet front.count xs in
    (on.0, front.appends.bytes outlet ∙ ap (λ back. a.bytes outlet ++ back) on.1)
