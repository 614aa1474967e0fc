-- The first piece of a line in which names are replaced, and the pieces behind it.
use Rattle.std.proofs.Common.{◌≡◌, ℕ, suc, ◌+◌, ◌-◌, ◌<◌, ◌≤◌, Bool, true, false, List, [], ◌∷◌, ◌++◌, length, take, drop, map, filter, get_or, nat_le, Ok, Err, refl, sym, ap, inl, inr, add-one, ◌∙◌, append_assoc, length-append, arith, if◌then◌else◌}
use Rattle.std.specs.List.{slice_split, position_or_len}
use Rattle.std.proofs.lemmas.Bool.{cases_lt}
use Rattle.std.proofs.lemmas.Bool.Decides.{nat_tests}
use Rattle.std.proofs.lemmas.List.{append-nil, length-drop, drop-drop, take_all}
use Rattle.std.proofs.Math.Numerals.{one-add}
use Rattle.smol_text.specs.Lines.{separates}
use Rattle.smol_macro.specs.declared.expand_fault.MacroKind.TheVariants.{TooLong}
use Rattle.smol_macro.specs.Refusal.{at}
use Rattle.smol_macro.specs.Given.{within as fits}
use Rattle.smol_macro.specs.Meanings.{Meanings, meant, spliced, replaced}

-- a list that is cut: its first piece, the separator behind it and the rest
abbrev IsCut : (ℕ → Bool) → List ℕ → Type 0
IsCut p xs =
    let n = position_or_len p xs in
    (slice_split p xs ≡ take n xs ∷ slice_split p (drop (suc n) xs)) × (filter p xs ≡ get_or xs n 0 ∷ filter p (drop (suc n) xs))

cut_of : (p : ℕ → Bool) (x : ℕ) (xs : List ℕ) (passes : Bool) → p x ≡ passes → (position_or_len p xs < length xs → IsCut p xs) → position_or_len p (x ∷ xs) < length (x ∷ xs) → IsCut p (x ∷ xs)
cut_of p x xs true is h within = (rw is refl, rw is refl)
cut_of p x xs false is h within =
    let n : position_or_len p (x ∷ xs) ≡ 1 + position_or_len p xs = rw is refl in
    let more = h (omega (arith, n, within)) in
    (rw (is, more.0, one-add) refl, rw (is, more.1, one-add) refl)

cut : (p : ℕ → Bool) (xs : List ℕ) → position_or_len p xs < length xs → IsCut p xs
cut p [] within = absurd (omega arith)
cut p (x ∷ xs) within = cut_of p x xs (p x) refl (cut p xs) within

-- one that isn't cut
abbrev IsWhole : (ℕ → Bool) → List ℕ → Type 0
IsWhole p xs = (slice_split p xs ≡ xs ∷ []) × (filter p xs ≡ [])

whole_of : (p : ℕ → Bool) (x : ℕ) (xs : List ℕ) (passes : Bool) → p x ≡ passes → (length xs ≤ position_or_len p xs → IsWhole p xs) → length (x ∷ xs) ≤ position_or_len p (x ∷ xs) → IsWhole p (x ∷ xs)
whole_of p x xs true is h past =
    let n : position_or_len p (x ∷ xs) ≡ 0 = rw is refl in
    absurd (omega (arith, n, past))
whole_of p x xs false is h past =
    let n : position_or_len p (x ∷ xs) ≡ 1 + position_or_len p xs = rw is refl in
    let more = h (omega (arith, n, past)) in
    (rw (is, more.0) refl, rw (is, more.1) refl)

whole : (p : ℕ → Bool) (xs : List ℕ) → length xs ≤ position_or_len p xs → IsWhole p xs
whole p [] past = (refl, refl)
whole p (x ∷ xs) past = whole_of p x xs (p x) refl (whole p xs) past

replaced-cut : (defined : Meanings) (xs : List ℕ) → position_or_len separates xs < length xs → (let n = position_or_len separates xs in replaced defined xs ≡ meant defined (take n xs) ++ get_or xs n 0 ∷ replaced defined (drop (suc n) xs))
replaced-cut defined xs within =
    let c = cut separates xs within in
    ap (λ t. spliced (map (meant defined) t) (filter separates xs)) c.0
    ∙ ap (λ t. spliced (map (meant defined) (take (position_or_len separates xs) xs ∷ slice_split separates (drop (suc (position_or_len separates xs)) xs))) t) c.1

replaced-whole : (defined : Meanings) (xs : List ℕ) → length xs ≤ position_or_len separates xs → replaced defined xs ≡ meant defined xs
replaced-whole defined xs past =
    let w = whole separates xs past in
    ap (λ t. spliced (map (meant defined) t) (filter separates xs)) w.0
    ∙ ap (λ t. spliced (map (meant defined) (xs ∷ [])) t) w.1
    ∙ append-nil (meant defined xs)

-- what a line comes to begins with what its first piece is replaced by
front : (defined : Meanings) (xs : List ℕ) → (more : List ℕ) × (replaced defined xs ≡ meant defined (take (position_or_len separates xs) xs) ++ more)
front defined xs =
    let n = position_or_len separates xs in
    elim (cases_lt n (length xs)) [
      | inl less ↦ (get_or xs n 0 ∷ replaced defined (drop (suc n) xs), replaced-cut defined xs less)
      | inr past ↦
          let all : take n xs ≡ xs = take_all n xs past in
          ([], replaced-whole defined xs past ∙ sym (append-nil (meant defined xs)) ∙ ap (λ t. meant defined t ++ []) (sym all))
    ]

not_within : (n most : ℕ) → most < n → nat_le n most ≡ false
not_within n most more = grind (arith, nat_tests)

-- a line that has more than 4 MiB with its next piece is too long
pub too_long : (defined : Meanings) (line rest part : List ℕ) (size : ℕ) → line ++ replaced defined rest ≡ replaced defined part → size ≡ position_or_len separates rest → 4194304 < length line + length (meant defined (take size rest)) → fits (replaced defined part) ≡ Err (at 0 TooLong)
too_long defined line rest part size same is_size long =
    let piece = meant defined (take size rest) in
    let f = front defined rest in
    let begins : replaced defined rest ≡ piece ++ f.0 = f.1 ∙ ap (λ k. meant defined (take k rest) ++ f.0) (sym is_size) in
    let whole_line : replaced defined part ≡ line ++ (piece ++ f.0) = sym same ∙ ap (λ t. line ++ t) begins in
    let size_is : length (replaced defined part) ≡ length line + (length piece + length f.0) = ap length whole_line ∙ length-append line (piece ++ f.0) ∙ ap (λ k. length line + k) (length-append piece f.0) in
    ap (λ b. if b then Ok (replaced defined part) else Err (at 0 TooLong)) (not_within (length (replaced defined part)) 4194304 (omega (arith, size_is, long)))

-- the last piece
pub last_piece : (defined : Meanings) (line rest part : List ℕ) (size : ℕ) → line ++ replaced defined rest ≡ replaced defined part → size ≡ position_or_len separates rest → length rest ≤ size → line ++ meant defined (take size rest) ≡ replaced defined part
last_piece defined line rest part size same is_size past =
    let all : take size rest ≡ rest = take_all size rest past in
    ap (λ t. line ++ meant defined t) all
    ∙ ap (λ t. line ++ t) (sym (replaced-whole defined rest (omega (arith, is_size, past))))
    ∙ same

-- a piece that others follow
pub next_piece : (defined : Meanings) (line with_piece longer rest part : List ℕ) (size : ℕ) → line ++ replaced defined rest ≡ replaced defined part → size ≡ position_or_len separates rest → size < length rest → with_piece ≡ line ++ meant defined (take size rest) → longer ≡ with_piece ++ get_or rest size 0 ∷ [] → longer ++ replaced defined (take (length (take (length rest - size) (drop size rest)) - 1) (drop 1 (take (length rest - size) (drop size rest)))) ≡ replaced defined part
next_piece defined line with_piece longer rest part size same is_size less is_piece is_longer =
    let piece = meant defined (take size rest) in
    let b = get_or rest size 0 in
    let ys = drop size rest in
    let tail = replaced defined (drop 1 ys) in
    let all : take (length rest - size) ys ≡ ys = take_all (length rest - size) ys (omega (arith, length-drop size rest)) in
    let rest_all : take (length ys - 1) (drop 1 ys) ≡ drop 1 ys = take_all (length ys - 1) (drop 1 ys) (omega (arith, length-drop 1 ys)) in
    let same_tail : drop (suc size) rest ≡ drop 1 ys = ap (λ k. drop k rest) (sym (add-one size)) ∙ sym (drop-drop 1 size rest) in
    let step : replaced defined rest ≡ piece ++ b ∷ tail =
    replaced-cut defined rest (omega (arith, is_size, less))
    ∙ ap (λ k. meant defined (take k rest) ++ get_or rest k 0 ∷ replaced defined (drop (suc k) rest)) (sym is_size)
    ∙ ap (λ t. piece ++ b ∷ replaced defined t) same_tail in
    ap (λ t. longer ++ replaced defined (take (length t - 1) (drop 1 t))) all
    ∙ ap (λ t. longer ++ replaced defined t) rest_all
    ∙ ap (λ t. t ++ tail) (is_longer ∙ ap (λ t. t ++ b ∷ []) is_piece)
    ∙ append_assoc (line ++ piece) (b ∷ []) tail
    ∙ append_assoc line piece (b ∷ tail)
    ∙ ap (λ t. line ++ t) (sym step)
    ∙ same
