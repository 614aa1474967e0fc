-- What `decimal_of` answers, in the words of the grammar.
use Rattle.std.proofs.Common.{◌≡◌, ◌⊎◌, ℕ, ◌+◌, ◌<◌, ◌≤◌, ◌==◌, ◌++◌, ◌&&◌, ◌||◌, not, Bool, true, false, cond, leb, ltb, List, [], ◌∷◌, length, take, drop, get_or, Err, sym, refl, ap, ◌∙◌, subst, inl, inr, arith, append-nil}
use Rattle.std.specs.List.{list_all, list_any, position_or_len, before_first, after_first}
use Rattle.std.proofs.lemmas.Bool.{and_parts, and_from, or_cases, eqb-true, ne_eqb, cases_Bool, cases_eq, ltb-false, ltb-true, leb-true, le-leb, lt-ltb}
use Rattle.std.proofs.lemmas.List.{take_all, take_at, drop_at, drop_all, drop-drop, length-append}
use Rattle.std.proofs.lemmas.List.Folds.{list_all-append}
use Rattle.std.proofs.lemmas.List.Sums.{split_at_first, passes_at_first}
use Rattle.smol_num.specs.declared.num_fault.NumFault.TheVariants.{NotNumber}
use Rattle.smol_num.specs.Digits.{is_digit, digits_value}
use Rattle.smol_num.specs.Decimal.{is_sign, is_point, is_mark, is_negative, without_sign, mantissa, whole_part, fraction, exponent, is_mantissa, is_exponent, is_decimal, raised_by, lowered_by, decimal_of}
use Rattle.smol_num.specs.Grammar.{Numeral, SpellsSign, SpellsDigits, SpellsNoExponent, SpellsExponent, Spells, number_of}
use Rattle.smol_num.proofs.Places.{ltb-position_or_len}
use Rattle.smol_num.proofs.DecimalLemmas.{decimal_of-other, decimal_of-parts}
use Rattle.smol_num.proofs.ReadBack.{is_plain, nowhere, plain-no_mark, plain-no_sign, plain-digits, Parts, Parts-digits, Parts-point}

-- ---- a word that spells a numeral is its number

-- it begins with no sign
record HasNoSign (text : List ℕ) : Type 0 where
  not_negative : is_negative text ≡ false
  unsigned : without_sign text ≡ text

HasNoSign-plain : (front back : List ℕ) → list_all is_plain front ≡ true → 0 < length front → HasNoSign (front ++ back)
HasNoSign-plain [] back all some = absurd (omega arith)
HasNoSign-plain (b ∷ bs) back all some =
    let none = plain-no_sign b (and_parts (is_plain b) (list_all is_plain bs) all).0 in
    record { not_negative = none.1; unsigned = ap (λ t. cond t (bs ++ back) (b ∷ (bs ++ back))) none.0 }

-- a sign before a text without one
record Unsigns (negative : Bool) (word text : List ℕ) : Type 0 where
  negative_is : is_negative word ≡ negative
  text_is : without_sign word ≡ text

Unsigns-sign : (negative : Bool) (sign text : List ℕ) → SpellsSign negative sign → HasNoSign text → Unsigns negative (sign ++ text) text
Unsigns-sign true sign text spelled plain = subst (λ s. Unsigns true (s ++ text) text) (sym spelled) (record { negative_is = refl; text_is = refl })
Unsigns-sign false sign text (inl none) plain =
    subst (λ s. Unsigns false (s ++ text) text) (sym none) (record { negative_is = plain.not_negative; text_is = plain.unsigned })
Unsigns-sign false sign text (inr plus) plain = subst (λ s. Unsigns false (s ++ text) text) (sym plus) (record { negative_is = refl; text_is = refl })

-- the digits around a point
Parts-spelled : (whole part text : List ℕ) → list_all is_digit (whole ++ part) ≡ true → SpellsDigits whole part text → Parts whole part text
Parts-spelled whole part text all (inl point) =
    let parts = and_parts (list_all is_digit whole) (list_all is_digit part) (sym (list_all-append is_digit whole part) ∙ all) in
    subst (λ t. Parts whole part t) (sym point) (Parts-point whole part parts.0 parts.1)
Parts-spelled whole part text all (inr none) =
    let parts = and_parts (list_all is_digit whole) (list_all is_digit part) (sym (list_all-append is_digit whole part) ∙ all) in
    subst (λ t. Parts whole part t) (append-nil whole ∙ sym none.0) (subst (λ p. Parts whole p (whole ++ [])) (sym none.1) (Parts-digits whole parts.0))

length-spelled : (whole part text : List ℕ) → 0 < length (whole ++ part) → SpellsDigits whole part text → 0 < length text
length-spelled whole part text some (inl point) = rw point (omega (arith, length-append whole (46 ∷ part)))
length-spelled whole part text some (inr none) =
    let same : whole ++ part ≡ text = ap (λ p. whole ++ p) none.1 ∙ append-nil whole ∙ sym none.0 in
    subst (λ t. 0 < length t) same some

-- the first mark ends the mantissa
position-mark : (front : List ℕ) (mark : ℕ) (back : List ℕ) → list_all is_plain front ≡ true → is_mark mark ≡ true → (position_or_len is_mark (front ++ mark ∷ back) ≡ length front) × (list_any is_mark (front ++ mark ∷ back) ≡ true)
position-mark [] mark back all marks = (ap (λ t. cond (not t) (1 + position_or_len is_mark back) 0) marks, ap (λ t. t || list_any is_mark back) marks)
position-mark (b ∷ bs) mark back all marks =
    let parts = and_parts (is_plain b) (list_all is_plain bs) all in
    let none = plain-no_mark b parts.0 in
    let rest = position-mark bs mark back parts.1 marks in (
      ap (λ t. cond (not t) (1 + position_or_len is_mark (bs ++ mark ∷ back)) 0) none ∙ ap (λ n. 1 + n) rest.0 ∙ omega arith,
      ap (λ t. t || list_any is_mark (bs ++ mark ∷ back)) none ∙ rest.1,
    )

-- what an unsigned text is cut into at its mark
record CutAtMark (marked : Bool) (front back text : List ℕ) : Type 0 where
  front_is : before_first is_mark text ≡ front
  back_is : after_first is_mark text ≡ back
  marked_is : list_any is_mark text ≡ marked

CutAtMark-none : (front : List ℕ) → list_all is_plain front ≡ true → CutAtMark false front [] (front ++ [])
CutAtMark-none front all =
    let found = nowhere is_mark is_plain front plain-no_mark all in
    subst (λ t. CutAtMark false front [] t) (sym (append-nil front))
    (record {
      front_is = ap (λ k. take k front) found.0 ∙ take_all (length front) front (omega arith);
      back_is = ap (λ k. drop (k + 1) front) found.0 ∙ drop_all (length front + 1) front (omega arith);
      marked_is = found.1;
    })

CutAtMark-mark : (front : List ℕ) (mark : ℕ) (back : List ℕ) → list_all is_plain front ≡ true → is_mark mark ≡ true → CutAtMark true front back (front ++ mark ∷ back)
CutAtMark-mark front mark back all marks =
    let found = position-mark front mark back all marks in
    record {
      front_is = ap (λ k. take k (front ++ mark ∷ back)) found.0 ∙ take_at front (mark ∷ back) (length front) refl;
      back_is = ap (λ k. drop (k + 1) (front ++ mark ∷ back)) found.0 ∙ sym (drop-drop 1 (length front) (front ++ mark ∷ back)) ∙ ap (drop 1) (drop_at front (mark ∷ back) (length front) refl);
      marked_is = found.1;
    }

is_mark-spelled : (mark : ℕ) → (mark ≡ 101) ⊎ (mark ≡ 69) → is_mark mark ≡ true
is_mark-spelled mark (inl small) = subst (λ b. is_mark b ≡ true) (sym small) refl
is_mark-spelled mark (inr large) = subst (λ b. is_mark b ≡ true) (sym large) refl

-- a word of a sign, a mantissa and an exponent in their forms is the number of its parts
module _ (numeral : Numeral) (word : List ℕ) (places : ℕ) (text front back : List ℕ) (marked : Bool) (unsigns : Unsigns numeral.negative word text) (cut : CutAtMark marked front back text) (parts : Parts numeral.whole numeral.fraction front) (some : 0 < length (numeral.whole ++ numeral.fraction)) (all : list_all is_digit (numeral.whole ++ numeral.fraction) ≡ true) where
  front_is : mantissa word ≡ front
  front_is = ap (before_first is_mark) unsigns.text_is ∙ cut.front_is

  whole_is : whole_part word ≡ numeral.whole
  whole_is = ap (before_first is_point) front_is ∙ parts.before

  fraction_is : fraction word ≡ numeral.fraction
  fraction_is = ap (after_first is_point) front_is ∙ parts.after

  back_is : exponent word ≡ back
  back_is = ap (after_first is_mark) unsigns.text_is ∙ cut.back_is

  number-in_form : (not marked || is_exponent back) ≡ true → cond numeral.exponent_negative 0 numeral.exponent ≡ raised_by back → cond numeral.exponent_negative numeral.exponent 0 ≡ lowered_by back → decimal_of word places ≡ number_of numeral places
  number-in_form in_form is_raised is_lowered =
      let digits : is_mantissa (mantissa word) ≡ true =
      ap (λ w. ltb 0 (length (w ++ fraction word)) && list_all is_digit (w ++ fraction word)) whole_is
      ∙ ap (λ f. ltb 0 (length (numeral.whole ++ f)) && list_all is_digit (numeral.whole ++ f)) fraction_is
      ∙ and_from (ltb 0 (length (numeral.whole ++ numeral.fraction))) (list_all is_digit (numeral.whole ++ numeral.fraction)) (lt-ltb 0 (length (numeral.whole ++ numeral.fraction)) some) all in
      let found : is_decimal word ≡ true =
      and_from (is_mantissa (mantissa word)) (not (list_any is_mark (without_sign word)) || is_exponent (exponent word)) digits
      (ap (λ t. not t || is_exponent (exponent word)) (ap (list_any is_mark) unsigns.text_is ∙ cut.marked_is) ∙ ap (λ e. not marked || is_exponent e) back_is ∙ in_form) in
      sym (decimal_of-parts word places numeral.negative numeral.whole numeral.fraction (cond numeral.exponent_negative 0 numeral.exponent) (cond numeral.exponent_negative numeral.exponent 0) found
      (sym unsigns.negative_is) (sym whole_is) (sym fraction_is) (is_raised ∙ sym (ap raised_by back_is)) (is_lowered ∙ sym (ap lowered_by back_is)))

-- an exponent in its form
is_exponent-spelled : (negative : Bool) (size : ℕ) (sign digits : List ℕ) → SpellsSign negative sign → 1 ≤ length digits → length digits ≤ 3 → list_all is_digit digits ≡ true → size ≡ digits_value digits → (is_exponent (sign ++ digits) ≡ true) × (cond negative 0 size ≡ raised_by (sign ++ digits)) × (cond negative size 0 ≡ lowered_by (sign ++ digits))
is_exponent-spelled negative size sign digits spelled some few all is_size =
    let no_sign : HasNoSign digits = subst HasNoSign (append-nil digits) (HasNoSign-plain digits [] (plain-digits digits all) some) in
    let unsigns = Unsigns-sign negative sign digits spelled no_sign in (
      ap (λ d. ltb 0 (length d) && leb (length d) 3 && list_all is_digit d) unsigns.text_is
          ∙ and_from (ltb 0 (length digits) && leb (length digits) 3) (list_all is_digit digits)
          (and_from (ltb 0 (length digits)) (leb (length digits) 3) (lt-ltb 0 (length digits) some) (le-leb (length digits) 3 few)) all,
      ap (λ n. cond negative 0 n) is_size ∙ sym (ap (λ n. cond n 0 (digits_value (without_sign (sign ++ digits)))) unsigns.negative_is ∙ ap (λ d. cond negative 0 (digits_value d)) unsigns.text_is),
      ap (λ n. cond negative n 0) is_size ∙ sym (ap (λ n. cond n (digits_value (without_sign (sign ++ digits))) 0) unsigns.negative_is ∙ ap (λ d. cond negative (digits_value d) 0) unsigns.text_is),
    )

by_exponent : (numeral : Numeral) (places : ℕ) (sign front back : List ℕ) → SpellsSign numeral.negative sign → SpellsDigits numeral.whole numeral.fraction front → (SpellsNoExponent numeral.exponent_negative numeral.exponent back ⊎ SpellsExponent numeral.exponent_negative numeral.exponent back) → 0 < length (numeral.whole ++ numeral.fraction) → list_all is_digit (numeral.whole ++ numeral.fraction) ≡ true → decimal_of (sign ++ (front ++ back)) places ≡ number_of numeral places
by_exponent numeral places sign front back sign_is front_is (inl none) some all =
    let parts = Parts-spelled numeral.whole numeral.fraction front all front_is in
    let no_sign = HasNoSign-plain front [] parts.plain (length-spelled numeral.whole numeral.fraction front some front_is) in
    let zero_up : cond numeral.exponent_negative 0 numeral.exponent ≡ 0 = ap (λ n. cond n 0 numeral.exponent) none.negative_is ∙ none.size_is in
    let zero_down : cond numeral.exponent_negative numeral.exponent 0 ≡ 0 = ap (λ n. cond n numeral.exponent 0) none.negative_is in
    subst (λ b. decimal_of (sign ++ (front ++ b)) places ≡ number_of numeral places) (sym none.text_is)
    (number-in_form numeral (sign ++ (front ++ [])) places (front ++ []) front [] false (Unsigns-sign numeral.negative sign (front ++ []) sign_is no_sign) (CutAtMark-none front parts.plain) parts some all refl zero_up zero_down)
by_exponent numeral places sign front back sign_is front_is (inr marked) some all =
    let parts = Parts-spelled numeral.whole numeral.fraction front all front_is in
    let rest = marked.sign ++ marked.digits in
    let no_sign = HasNoSign-plain front (marked.mark ∷ rest) parts.plain (length-spelled numeral.whole numeral.fraction front some front_is) in
    let exponent_is = is_exponent-spelled numeral.exponent_negative numeral.exponent marked.sign marked.digits marked.sign_is marked.some marked.few marked.all_digits marked.size_is in
    subst (λ b. decimal_of (sign ++ (front ++ b)) places ≡ number_of numeral places) (sym marked.text_is)
    (number-in_form numeral (sign ++ (front ++ marked.mark ∷ rest)) places (front ++ marked.mark ∷ rest) front rest true (Unsigns-sign numeral.negative sign (front ++ marked.mark ∷ rest) sign_is no_sign) (CutAtMark-mark front marked.mark rest parts.plain (is_mark-spelled marked.mark marked.mark_is)) parts some all exponent_is.0 exponent_is.1 exponent_is.2)

pub decimal_of-spelled : (numeral : Numeral) (word : List ℕ) (places : ℕ) → Spells numeral word → decimal_of word places ≡ number_of numeral places
decimal_of-spelled numeral word places spells =
    ap (λ w. decimal_of w places) spells.word_is
    ∙ by_exponent numeral places spells.sign spells.mantissa spells.exponent spells.sign_is spells.mantissa_is spells.exponent_is spells.some spells.all_digits

-- ---- a decimal spells a numeral

-- the sign that a word begins with
record SignOf (word : List ℕ) : Type 0 where
  sign : List ℕ
  word_is : word ≡ sign ++ without_sign word
  sign_is : SpellsSign (is_negative word) sign

SignOf-word : (word : List ℕ) → SignOf word
SignOf-word [] = record { sign = []; word_is = refl; sign_is = inl refl }
SignOf-word (b ∷ bs) =
    elim (cases_eq b 45) [
      | inl minus ↦ subst (λ x. SignOf (x ∷ bs)) (sym minus) (record { sign = 45 ∷ []; word_is = refl; sign_is = refl })
      | inr no_minus ↦
          let not_negative : (b == 45) ≡ false = ne_eqb b 45 no_minus in
          elim (cases_eq b 43) [
            | inl plus ↦ subst (λ x. SignOf (x ∷ bs)) (sym plus) (record { sign = 43 ∷ []; word_is = refl; sign_is = inr refl })
            | inr no_plus ↦
                let no_sign : is_sign b ≡ false = ap (λ t. t || b == 45) (ne_eqb b 43 no_plus) ∙ not_negative in
                record {
                  sign = [];
                  word_is = sym (ap (λ t. cond t bs (b ∷ bs)) no_sign);
                  sign_is = subst (λ t. SpellsSign t []) (sym not_negative) (inl refl);
                }
          ]
    ]

-- a text is what stands before the first place that passes, that place, and what stands after it
record CutAt (p : ℕ → Bool) (text : List ℕ) : Type 0 where
  at : ℕ
  passes : p at ≡ true
  text_is : text ≡ before_first p text ++ at ∷ after_first p text

-- or it has no such place
record Uncut (p : ℕ → Bool) (text : List ℕ) : Type 0 where
  text_is : text ≡ before_first p text
  none : after_first p text ≡ []

CutAt-any : (p : ℕ → Bool) (text : List ℕ) → list_any p text ≡ true → CutAt p text
CutAt-any p text any =
    let within = ltb-true (position_or_len p text) (length text) (ltb-position_or_len p text ∙ any) in
    record {
      at = get_or text (position_or_len p text) 0;
      passes = passes_at_first p text 0 within;
      text_is = split_at_first p text 0 within;
    }

Uncut-none : (p : ℕ → Bool) (text : List ℕ) → list_any p text ≡ false → Uncut p text
Uncut-none p text none =
    let past = ltb-false (position_or_len p text) (length text) (ltb-position_or_len p text ∙ none) in
    record {
      text_is = sym (take_all (position_or_len p text) text past);
      none = drop_all (position_or_len p text + 1) text (omega arith);
    }

SpellsDigits-mantissa : (text : List ℕ) → SpellsDigits (before_first is_point text) (after_first is_point text) text
SpellsDigits-mantissa text =
    elim (cases_Bool (list_any is_point text)) [
      | inl any ↦
          let cut = CutAt-any is_point text any in
          inl (cut.text_is ∙ ap (λ b. before_first is_point text ++ b ∷ after_first is_point text) (eqb-true cut.at 46 cut.passes))
      | inr none ↦
          let uncut = Uncut-none is_point text none in
          inr (uncut.text_is, uncut.none)
    ]

-- the numeral of a decimal
abbrev numeral_of : List ℕ → Numeral
numeral_of word = record {
  negative = is_negative word;
  whole = whole_part word;
  fraction = fraction word;
  exponent_negative = is_negative (exponent word);
  exponent = digits_value (without_sign (exponent word));
}

mark-spelled : (mark : ℕ) → is_mark mark ≡ true → (mark ≡ 101) ⊎ (mark ≡ 69)
mark-spelled mark marks =
    elim (or_cases (mark == 101) (mark == 69) marks) [ inl small ↦ inl (eqb-true mark 101 small) | inr large ↦ inr (eqb-true mark 69 large) ]

-- the exponent part of an unsigned text, behind its mantissa
record ExponentOf (word : List ℕ) : Type 0 where
  text : List ℕ
  unsigned_is : without_sign word ≡ mantissa word ++ text
  text_is : SpellsNoExponent (is_negative (exponent word)) (digits_value (without_sign (exponent word))) text ⊎ SpellsExponent (is_negative (exponent word)) (digits_value (without_sign (exponent word))) text

ExponentOf-word : (word : List ℕ) → (not (list_any is_mark (without_sign word)) || is_exponent (exponent word)) ≡ true → ExponentOf word
ExponentOf-word word in_form =
    elim (cases_Bool (list_any is_mark (without_sign word))) [
      | inl any ↦
          let cut = CutAt-any is_mark (without_sign word) any in
          let back = exponent word in
          let sign = SignOf-word back in
          let formed : is_exponent back ≡ true = sym (ap (λ t. not t || is_exponent back) any) ∙ in_form in
          let parts = and_parts (ltb 0 (length (without_sign back)) && leb (length (without_sign back)) 3) (list_all is_digit (without_sign back)) formed in
          let sizes = and_parts (ltb 0 (length (without_sign back))) (leb (length (without_sign back)) 3) parts.0 in
          record {
            text = cut.at ∷ back;
            unsigned_is = cut.text_is;
            text_is = inr (record {
              mark = cut.at;
              sign = sign.sign;
              digits = without_sign back;
              text_is = ap (λ t. cut.at ∷ t) sign.word_is;
              mark_is = mark-spelled cut.at cut.passes;
              sign_is = sign.sign_is;
              some = ltb-true 0 (length (without_sign back)) sizes.0;
              few = leb-true (length (without_sign back)) 3 sizes.1;
              all_digits = parts.1;
              size_is = refl;
            });
          }
      | inr none ↦
          let uncut = Uncut-none is_mark (without_sign word) none in
          record {
            text = [];
            unsigned_is = uncut.text_is ∙ sym (append-nil (mantissa word));
            text_is = inl (record {
              text_is = refl;
              negative_is = ap is_negative uncut.none;
              size_is = ap (λ t. digits_value (without_sign t)) uncut.none;
            });
          }
    ]

Spells-numeral_of : (word : List ℕ) → is_decimal word ≡ true → Spells (numeral_of word) word
Spells-numeral_of word found =
    let halves = and_parts (is_mantissa (mantissa word)) (not (list_any is_mark (without_sign word)) || is_exponent (exponent word)) found in
    let digits = and_parts (ltb 0 (length (whole_part word ++ fraction word))) (list_all is_digit (whole_part word ++ fraction word)) halves.0 in
    let sign = SignOf-word word in
    let back = ExponentOf-word word halves.1 in
    record {
      sign = sign.sign;
      mantissa = mantissa word;
      exponent = back.text;
      word_is = sign.word_is ∙ ap (λ t. sign.sign ++ t) back.unsigned_is;
      sign_is = sign.sign_is;
      mantissa_is = SpellsDigits-mantissa (mantissa word);
      exponent_is = back.text_is;
      some = ltb-true 0 (length (whole_part word ++ fraction word)) digits.0;
      all_digits = digits.1;
    }

-- a word is no number, or it spells a numeral
pub decimal_of-unspelled : (word : List ℕ) (places : ℕ) → (decimal_of word places ≡ Err NotNumber) ⊎ ((numeral : Numeral) × Spells numeral word)
decimal_of-unspelled word places =
    elim (cases_Bool (is_decimal word)) [
      | inl found ↦ inr (numeral_of word, Spells-numeral_of word found)
      | inr other ↦ inl (decimal_of-other word places other)
    ]
