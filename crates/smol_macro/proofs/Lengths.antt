-- One more line fits the text, or makes it too long.
use Rattle.std.proofs.Common.{◌≡◌, ℕ, ◌+◌, ◌<◌, ◌≤◌, ◌++◌, List, length, nat_le, true, false, Ok, Err, sym, ap, ◌∙◌, append_assoc, length-append, arith, if◌then◌else◌}
use Rattle.std.proofs.lemmas.Bool.Decides.{nat_tests}
use Rattle.smol_macro.specs.declared.expand_fault.MacroKind.TheVariants.{TooLong}
use Rattle.smol_macro.specs.Refusal.{at}
use Rattle.smol_macro.specs.Given.{Given, feed_before, text_with, with_line}

-- the length of the text with one more line
pub length-text_with : (given : Given) (feed line : List ℕ) → feed ≡ feed_before given.lines → length (text_with given line) ≡ length given.text + length feed + length line
length-text_with given feed line is =
    rw (← is, length-append, length-append) (omega arith)

pub not_within : (n most : ℕ) → most < n → nat_le n most ≡ false
not_within n most more = grind (arith, nat_tests)

pub is_within : (n most : ℕ) → n ≤ most → nat_le n most ≡ true
is_within n most less = grind (arith, nat_tests)

pub with_line-long : (given : Given) (feed line : List ℕ) → feed ≡ feed_before given.lines → 4194304 < length given.text + length feed + length line → with_line given line ≡ Err (at 0 TooLong)
with_line-long given feed line is long =
    let whole = length-text_with given feed line is in
    ap (λ b. if b then Ok (record { text = text_with given line; lines = given.lines + 1 }) else Err (at 0 TooLong)) (not_within (length (text_with given line)) 4194304 (omega arith))

pub with_line-fits : (given : Given) (feed line text : List ℕ) → feed ≡ feed_before given.lines → length given.text + length feed + length line ≤ 4194304 → text ≡ (given.text ++ feed) ++ line → with_line given line ≡ Ok (record { text = text; lines = given.lines + 1 })
with_line-fits given feed line text is fits whole_text =
    let whole = length-text_with given feed line is in
    ap (λ b. if b then Ok (record { text = text_with given line; lines = given.lines + 1 }) else Err (at 0 TooLong)) (is_within (length (text_with given line)) 4194304 (omega arith))
    ∙ ap (λ t. Ok (record { text = t; lines = given.lines + 1 })) (ap (λ f. given.text ++ (f ++ line)) (sym is) ∙ sym (append_assoc given.text feed line) ∙ sym whole_text)
