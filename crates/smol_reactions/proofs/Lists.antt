-- Lists with a thing changed, and lists of numbered things.
use Rattle.std.proofs.Common.{◌≡◌, ◌≢◌, ℕ, zero, suc, ◌+◌, ◌<◌, ◌≤◌, List, [], ◌∷◌, ◌++◌, length, map, get_or, set, refl, ap, ◌∙◌, arith, subst, All}
use Rattle.std.proofs.lemmas.List.Elements.{All-nil, All-cons, All-head, All-tail}
use Rattle.smol_reactions.specs.Numbered.{numbered, changed}

-- a change is a write of what is made of the thing
pub changed_is : {X : Type 0} (change : X → X) (number : ℕ) (things : List X) (d : X) → number < length things → changed change number things ≡ set things number (change (get_or things number d))
changed_is change number [] d within = absurd (omega arith)
changed_is change zero (thing ∷ things) d within = refl
changed_is change (suc number) (thing ∷ things) d within = ap (λ rest. thing ∷ rest) (changed_is change number things d (omega arith))

-- past the end nothing changes
pub changed_past : {X : Type 0} (change : X → X) (number : ℕ) (things : List X) → length things ≤ number → changed change number things ≡ things
changed_past change number [] past = refl
changed_past change zero (thing ∷ things) past = absurd (omega arith)
changed_past change (suc number) (thing ∷ things) past = ap (λ rest. thing ∷ rest) (changed_past change number things (omega arith))

pub length-changed : {X : Type 0} (change : X → X) (number : ℕ) (things : List X) → length (changed change number things) ≡ length things
length-changed change number [] = refl
length-changed change zero (thing ∷ things) = refl
length-changed change (suc number) (thing ∷ things) = ap suc (length-changed change number things)

-- what a change leaves in one thing it leaves in all
pub map-changed : {X Y : Type 0} (show : X → Y) (change : X → X) (number : ℕ) (things : List X) → ((thing : X) → show (change thing) ≡ show thing) → map show (changed change number things) ≡ map show things
map-changed show change number [] keeps = refl
map-changed show change zero (thing ∷ things) keeps = ap (λ first. first ∷ map show things) (keeps thing)
map-changed show change (suc number) (thing ∷ things) keeps = ap (λ rest. show thing ∷ rest) (map-changed show change number things keeps)

-- what holds of all things, and is kept by a change, holds of them all behind it
pub All-changed : {X : Type 0} (P : X → Type 0) (change : X → X) (number : ℕ) (things : List X) → ((thing : X) → P thing → P (change thing)) → All P things → All P (changed change number things)
All-changed P change number [] keeps all = All-nil P
All-changed P change zero (thing ∷ things) keeps all =
    All-cons P (change thing) things (keeps thing (All-head P thing things all)) (All-tail P thing things all)
All-changed P change (suc number) (thing ∷ things) keeps all =
    All-cons P thing (changed change number things) (All-head P thing things all) (All-changed P change number things keeps (All-tail P thing things all))

pub length-numbered : {X Y : Type 0} (make : ℕ → X → Y) (number : ℕ) (things : List X) → length (numbered make number things) ≡ length things
length-numbered make number [] = refl
length-numbered make number (thing ∷ things) = ap suc (length-numbered make (number + 1) things)

-- one thing more has the next number
pub numbered-push : {X Y : Type 0} (make : ℕ → X → Y) (number : ℕ) (things : List X) (thing : X) → numbered make number (things ++ thing ∷ []) ≡ numbered make number things ++ make (number + length things) thing ∷ []
numbered-push make number [] thing = ap (λ n. make n thing ∷ []) (omega arith)
numbered-push make number (first ∷ things) thing =
    ap (λ rest. make number first ∷ rest)
    (numbered-push make (number + 1) things thing ∙ ap (λ n. numbered make (number + 1) things ++ make n thing ∷ []) (omega arith))

-- what is made alike of each number is made alike of all
pub numbered_same : {X Y : Type 0} (old new : ℕ → X → Y) (number : ℕ) (things : List X) → ((k : ℕ) (thing : X) → number ≤ k → new k thing ≡ old k thing) → numbered new number things ≡ numbered old number things
numbered_same old new number [] same = refl
numbered_same old new number (thing ∷ things) same =
    ap (λ first. first ∷ numbered new (number + 1) things) (same number thing (omega arith))
    ∙ ap (λ rest. old number thing ∷ rest) (numbered_same old new (number + 1) things (λ k other past. same k other (omega arith)))

-- where only the thing of one number is made otherwise, that one is changed
pub numbered_changed : {X Y : Type 0} (old new : ℕ → X → Y) (change : Y → Y) (number place at : ℕ) (things : List X) → at ≡ number + place → ((k : ℕ) (thing : X) → k ≢ at → new k thing ≡ old k thing) → ((thing : X) → new at thing ≡ change (old at thing)) → numbered new number things ≡ changed change place (numbered old number things)
numbered_changed old new change number place at [] is others here = refl
numbered_changed old new change number zero at (thing ∷ things) is others here =
    let same : at ≡ number = omega arith in
    let now : (at : ℕ) → at ≡ number → new at thing ≡ change (old at thing) → new number thing ≡ change (old number thing) = λ k e fact. subst (λ (n : ℕ). new n thing ≡ change (old n thing)) e fact in
    ap (λ first. first ∷ numbered new (number + 1) things) (now at same (here thing))
    ∙ ap (λ rest. change (old number thing) ∷ rest) (numbered_same old new (number + 1) things (λ k other past. others k other (omega arith)))
numbered_changed old new change number (suc place) at (thing ∷ things) is others here =
    ap (λ first. first ∷ numbered new (number + 1) things) (others number thing (omega arith))
    ∙ ap (λ rest. old number thing ∷ rest) (numbered_changed old new change (number + 1) place at things (omega arith) others here)
