-- The words of a part of a line whose bytes are allowed are text: their bytes are below 128.
use Rattle.std.proofs.Common.{◌≡◌, ℕ, ◌<◌, Bool, true, false, not, ◌&&◌, List, [], ◌∷◌, Some, None, refl, subst, arith, if◌then◌else◌}
use Rattle.std.specs.Prelude.{codes}
use Rattle.std.specs.List.{slice_split, onto_first, list_all, All}
use Rattle.std.specs.Str.{IsAscii, IsUtf8, bytes_eq}
use Rattle.std.proofs.lemmas.Bool.{cond_both}
use Rattle.std.proofs.lemmas.Bool.Decides.{nat_tests}
use Rattle.std.proofs.lemmas.Str.{IsUtf8-from_ascii}
use Rattle.std.proofs.lemmas.Str.Ascii.{IsAscii-nil, IsAscii-cons}
use Rattle.std.proofs.lemmas.List.Elements.{All-nil, All-cons, All-head, All-tail, All-filter}
use Rattle.smol_text.specs.Lines.{separates, has_bytes, words_in}
use Rattle.smol_text.specs.Reading.{is_allowed}
use Rattle.smol_macro.specs.Conditions.{left_out}
use Rattle.smol_macro.specs.Expanding.{Walked, file_words}

both_true : (a b : Bool) → (a && b) ≡ true → (a ≡ true) × (b ≡ true)
both_true true b is = (refl, is)
both_true false b is = absurd cc

allowed_is_ascii : (b : ℕ) → is_allowed b ≡ true → b < 128
allowed_is_ascii b allowed = grind (arith, nat_tests)

ascii-onto_first : (b : ℕ) (pieces : List (List ℕ)) → b < 128 → All IsAscii pieces → All IsAscii (onto_first b pieces)
ascii-onto_first b [] low h = All-cons IsAscii (b ∷ []) [] (IsAscii-cons b [] low IsAscii-nil) (All-nil IsAscii)
ascii-onto_first b (piece ∷ pieces) low h =
    All-cons IsAscii (b ∷ piece) pieces (IsAscii-cons b piece low (All-head IsAscii piece pieces h)) (All-tail IsAscii piece pieces h)

ascii-pieces : (part : List ℕ) → list_all is_allowed part ≡ true → All IsAscii (slice_split separates part)
ascii-pieces [] allowed = All-cons IsAscii [] [] IsAscii-nil (All-nil IsAscii)
ascii-pieces (b ∷ bs) allowed =
    let both = both_true (is_allowed b) (list_all is_allowed bs) allowed in
    let after = ascii-pieces bs both.1 in
    cond_both (separates b) ([] ∷ slice_split separates bs) (onto_first b (slice_split separates bs)) (λ ps. All IsAscii ps)
    (λ _. All-cons IsAscii [] (slice_split separates bs) IsAscii-nil after)
    (λ _. ascii-onto_first b (slice_split separates bs) (allowed_is_ascii b both.0) after)

pub words_are_ascii : (part : List ℕ) → list_all is_allowed part ≡ true → All IsAscii (words_in part)
unfolding words_in
words_are_ascii part allowed = All-filter has_bytes IsAscii (slice_split separates part) (ascii-pieces part allowed)

-- the one word of a part is text
pub only_is_text : (words : List (List ℕ)) (word : List ℕ) → All IsAscii words → words ≡ word ∷ [] → IsUtf8 word
only_is_text words word ascii is = IsUtf8-from_ascii word (All-head IsAscii word [] (subst (λ w. All IsAscii w) is ascii))

-- the words behind `read_file` are so, where those of the line are
asked_of : (asks : Bool) (first : List ℕ) (words rest : List (List ℕ)) → Some rest ≡ (if asks then Some words else None) → All IsAscii (first ∷ words) → All IsAscii rest
asked_of true first words rest is ascii =
    let same : words ≡ rest = cc in
    subst (λ w. All IsAscii w) same (All-tail IsAscii first words ascii)
asked_of false first words rest is ascii = absurd cc

pub asked_are_ascii : (walked : Walked) (words rest : List (List ℕ)) → Some rest ≡ file_words walked words → All IsAscii words → All IsAscii rest
asked_are_ascii walked [] rest is ascii = absurd cc
asked_are_ascii walked (first ∷ words) rest is ascii =
    asked_of (not (left_out walked.open_ones) && bytes_eq first (codes "read_file")) first words rest is ascii
