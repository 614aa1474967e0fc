-- The lines of the text that is made are plain, and their words are read back.
use Rattle.std.proofs.Common.{◌≡◌, ◌<◌, ◌≤◌, ◌==◌, ◌++◌, ℕ, Bool, true, false, not, leb, List, [], ◌∷◌, length, Ok, refl, sym, ap, ◌∙◌, arith, append_assoc, append-nil, length-append}
use Rattle.std.specs.Prelude.{codes, nat_le, nat_lt}
use Rattle.std.specs.Fmt.{decimal}
use Rattle.std.specs.List.{list_all}
use Rattle.std.specs.Str.{bytes_eq}
use Rattle.std.proofs.lemmas.Bool.{and_parts, leb-true, le-leb, lt-ltb, ne_eqb}
use Rattle.std.proofs.lemmas.Fmt.{decimal_nonempty, digits_decimal, digits_value-decimal, length-decimal-le}
use Rattle.smol_num.specs.Digits.{digits_value, is_count, is_digit}
use Rattle.smol_num.proofs.DigitsLemmas.{digits_model}
use Rattle.smol_line.specs.Numbers.{count_in}
use Rattle.smol_text.specs.Lines.{has_bytes, separates, words_in}
use Rattle.smol_run.specs.Generated.{mol_line}
use Rattle.smol_run.proofs.PlainText.{is_clean, IsPlain, split_at, split_last}

-- the digits of a number of molecules
decimal_digits : (m : ℕ) → m ≤ 1000000 → list_all is_digit (decimal m) ≡ true
decimal_digits m few = digits_decimal digits_model m (omega arith)

decimal_value : (m : ℕ) → m ≤ 1000000 → digits_value (decimal m) ≡ m
decimal_value m few = digits_value-decimal digits_model m (omega arith)

decimal_has_bytes : (m : ℕ) → m ≤ 1000000 → has_bytes (decimal m) ≡ true
decimal_has_bytes m few = some (decimal m) (decimal_nonempty m (omega arith))
  where
    some : (bytes : List ℕ) → 0 < length bytes → has_bytes bytes ≡ true
    some [] none = absurd (omega arith)
    some (b ∷ bs) more = refl

decimal_length : (m : ℕ) → m ≤ 1000000 → length (decimal m) ≤ 20
decimal_length m few = length-decimal-le 20 m (omega arith) (omega arith) (omega arith)

-- they are a count
decimal_counts : (m : ℕ) → m ≤ 1000000 → is_count (decimal m) ≡ true
decimal_counts m few =
    let some : nat_lt 0 (length (decimal m)) ≡ true = lt-ltb 0 (length (decimal m)) (decimal_nonempty m (omega arith)) in
    let within : nat_le (length (decimal m)) 20 ≡ true = le-leb (length (decimal m)) 20 (decimal_length m few) in
    rw (some, within, decimal_digits m few) refl

-- a number that is written is read
pub count_in-decimal : (least most m : ℕ) → least ≤ m → m ≤ most → m ≤ 1000000 → count_in least most (decimal m) ≡ Ok m
count_in-decimal least most m low high few =
    let below : nat_le m most ≡ true = le-leb m most high in
    let above : nat_le least m ≡ true = le-leb least m low in
    rw (decimal_counts m few, decimal_value m few, below, above) refl

-- a byte that separates no words
abbrev pub is_seen : ℕ → Bool
is_seen b = not (separates b)

seen-separates : (b : ℕ) → is_seen b ≡ true → separates b ≡ false
seen-separates b seen = not_true (separates b) seen
  where
    not_true : (test : Bool) → not test ≡ true → test ≡ false
    not_true true is = absurd (cc)
    not_true false is = refl

-- a digit separates no words, and is clean
digit_range : (b : ℕ) → is_digit b ≡ true → (48 ≤ b) × (b ≤ 57)
digit_range b digit =
    let parts = and_parts (leb 48 b) (leb b 57) digit in
    (leb-true 48 b parts.0, leb-true b 57 parts.1)

digit-other : (b other : ℕ) → is_digit b ≡ true → other < 48 → (b == other) ≡ false
digit-other b other digit small = let range = digit_range b digit in ne_eqb b other (λ is. absurd (omega arith))

digit-separates : (b : ℕ) → is_digit b ≡ true → separates b ≡ false
digit-separates b digit = rw (digit-other b 9 digit (omega arith), digit-other b 13 digit (omega arith), digit-other b 32 digit (omega arith)) refl

digit-clean : (b : ℕ) → is_digit b ≡ true → is_clean b ≡ true
digit-clean b digit =
    let range = digit_range b digit in
    let low : nat_le 32 b ≡ true = le-leb 32 b (omega arith) in
    let high : nat_le b 126 ≡ true = le-leb b 126 (omega arith) in
    rw (digit-other b 9 digit (omega arith), digit-other b 13 digit (omega arith), digit-other b 35 digit (omega arith), low, high) refl

digits_clean : (ds rest : List ℕ) → list_all is_digit ds ≡ true → list_all is_clean rest ≡ true → list_all is_clean (ds ++ rest) ≡ true
digits_clean [] rest digits clean = clean
digits_clean (d ∷ ds) rest digits clean =
    let parts = and_parts (is_digit d) (list_all is_digit ds) digits in
    rw (digit-clean d parts.0, digits_clean ds rest parts.1 clean) refl

-- the words of a line whose second word is a number behind which nothing is
two_words : (first : List ℕ) (m : ℕ) → list_all is_seen first ≡ true → has_bytes first ≡ true → m ≤ 1000000
    → words_in (first ++ 32 ∷ decimal m) ≡ first ∷ decimal m ∷ []
unfolding words_in
two_words first m seen some few =
    rw (
      split_at is_seen separates first 32 (decimal m) seen-separates seen refl,
      split_last is_digit separates (decimal m) digit-separates (decimal_digits m few),
      some,
      decimal_has_bytes m few,
    ) refl

-- the line of the seed
pub seed_words : (n : ℕ) → n ≤ 1000000 → words_in (codes "random_seed " ++ decimal n) ≡ codes "random_seed" ∷ decimal n ∷ []
seed_words n few = two_words (codes "random_seed") n refl refl few

-- a line of molecules, from its front
pub mol_line-is : (m : ℕ) (species : List ℕ) → mol_line m species ≡ codes "mol" ++ 32 ∷ (decimal m ++ 32 ∷ (species ++ 32 ∷ codes "u u u"))
mol_line-is m species = ap (λ back. codes "mol " ++ back) (regrouped (decimal m) (codes " ") species (codes " u u u"))
  where
    regrouped : (a b c d : List ℕ) → a ++ b ++ c ++ d ≡ a ++ (b ++ (c ++ d))
    regrouped a b c d = simp append_assoc

-- the words of a line whose second word is a number, with a word behind it and three coordinates that are drawn
placed_words : (first : List ℕ) (m : ℕ) (third : List ℕ) → list_all is_seen first ≡ true → has_bytes first ≡ true → list_all is_seen third ≡ true
    → has_bytes third ≡ true → m ≤ 1000000
    → words_in (first ++ 32 ∷ (decimal m ++ 32 ∷ (third ++ 32 ∷ codes "u u u"))) ≡ first ∷ decimal m ∷ third ∷ codes "u" ∷ codes "u" ∷ codes "u" ∷ []
unfolding words_in
placed_words first m third seen some third_seen third_some few =
    rw (
      split_at is_seen separates first 32 (decimal m ++ 32 ∷ (third ++ 32 ∷ codes "u u u")) seen-separates seen refl,
      split_at is_digit separates (decimal m) 32 (third ++ 32 ∷ codes "u u u") digit-separates (decimal_digits m few) refl,
      split_at is_seen separates third 32 (codes "u u u") seen-separates third_seen refl,
      some,
      decimal_has_bytes m few,
      third_some,
    ) refl

pub mol_words : (m : ℕ) (species : List ℕ) → list_all is_seen species ≡ true → has_bytes species ≡ true → m ≤ 1000000
    → words_in (mol_line m species) ≡ codes "mol" ∷ decimal m ∷ species ∷ codes "u" ∷ codes "u" ∷ codes "u" ∷ []
mol_words m species seen some few = ap words_in (mol_line-is m species) ∙ placed_words (codes "mol") m species refl refl seen some few

-- both are plain
pub seed_plain : (n : ℕ) → n ≤ 1000000 → IsPlain (codes "random_seed " ++ decimal n)
seed_plain n few = record {
  short = let digits = decimal_length n few in omega (arith, length-append (codes "random_seed ") (decimal n));
  clean = ap (list_all is_clean) (sym (append-nil (decimal n))) ∙ digits_clean (decimal n) [] (decimal_digits n few) refl;
  stands = rw (seed_words n few) refl;
}

pub mol_plain : (m : ℕ) (species : List ℕ) → list_all is_seen species ≡ true → has_bytes species ≡ true → list_all is_clean (species ++ 32 ∷ codes "u u u") ≡ true → length species ≤ 64
    → m ≤ 1000000 → IsPlain (mol_line m species)
mol_plain m species seen some clean within few = record {
  short = let digits = decimal_length m few in omega (arith, ap length (mol_line-is m species), length-append (decimal m) (32 ∷ (species ++ 32 ∷ codes "u u u")), length-append species (32 ∷ codes "u u u"));
  clean = ap (list_all is_clean) (mol_line-is m species) ∙ digits_clean (decimal m) (32 ∷ (species ++ 32 ∷ codes "u u u")) (decimal_digits m few) clean;
  stands = rw (mol_words m species seen some few) refl;
}

-- a number is no other word
pub decimal-no_time : (m : ℕ) → m ≤ 1000000 → bytes_eq (decimal m) (codes "time") ≡ false
decimal-no_time m few = other (decimal m) (decimal_digits m few) (decimal_nonempty m (omega arith))
  where
    other : (ds : List ℕ) → list_all is_digit ds ≡ true → 0 < length ds → bytes_eq ds (codes "time") ≡ false
    other [] digits some = absurd (omega arith)
    other (d ∷ ds) digits some =
        let range = digit_range d (and_parts (is_digit d) (list_all is_digit ds) digits).0 in
        let first : (d == 116) ≡ false = ne_eqb d 116 (λ is. absurd (omega arith)) in
        rw first refl
