-- The outermost condition is the last one of those that are open.
use Rattle.std.proofs.Common.{◌≡◌, List, [], ◌∷◌, ◌++◌, reverse, Option, Some, None, refl, sym, ap, ◌∙◌}
use Rattle.std.proofs.lemmas.List.{reverse-append}
use Rattle.smol_macro.specs.declared.conditions.Condition.{Condition}
use Rattle.smol_macro.specs.Conditions.{conditions_in, outermost}
use Rattle.std.specs.List.{slice_get}

outermost-last : (inner : List Condition) (last : Condition) → outermost (inner ++ last ∷ []) ≡ Some last.line
outermost-last [] last = refl
outermost-last (c ∷ []) last = refl
outermost-last (c ∷ d ∷ cs) last = outermost-last (d ∷ cs) last

-- the first of those that are kept around the innermost one
pub outermost-first : (innermost first : Condition) (others : List Condition) → outermost (innermost ∷ reverse (first ∷ others)) ≡ Some first.line
outermost-first innermost first others =
    ap (λ t. outermost (innermost ∷ t)) (reverse-append (first ∷ []) others)
    ∙ outermost-last (innermost ∷ reverse others) first

-- the same, by what is kept
pub outermost-kept : (kept : Option Condition) (innermost first : Condition) (outer : List Condition) → kept ≡ Some innermost → Some first ≡ slice_get outer 0 → Some first.line ≡ outermost (conditions_in kept outer)
outermost-kept kept innermost first [] is found = absurd (let no : Some first ≡ None = found in cc)
outermost-kept kept innermost first (c ∷ cs) is found =
    let same : first ≡ c = cc in
    ap (λ f. Some f.line) same ∙ sym (outermost-first innermost c cs) ∙ ap (λ k. outermost (conditions_in k (c ∷ cs))) (sym is)
