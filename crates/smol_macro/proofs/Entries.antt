-- What names stand for behind one more entry.
use Rattle.std.proofs.Common.{◌≡◌, ℕ, Bool, true, false, cond, List, [], ◌∷◌, Option, Some, option_and_then, Vec, Global, refl, sym, ap, ◌∙◌, if◌then◌else◌}
use Rattle.std.specs.Map.{lookup}
use Rattle.std.specs.Str.{bytes_eq}
use Rattle.std.proofs.lemmas.Slice.Eq.{bytes_eq-Decides}
use Rattle.indexmap.specs.IndexMap.{insert_entry}
use Rattle.smol_macro.specs.Kept.{meaning_of, meaning_in}

abbrev Entry : Type 0
Entry = Vec ℕ Global × Option (Vec ℕ Global)

abbrev same_key : Vec ℕ Global → Vec ℕ Global → Bool
same_key a b = bytes_eq a.items b.items

-- the same name: what was kept is replaced
replaced_entry : (here : Bool) (old new : Option (Vec ℕ Global)) (rest : Option (Option (Vec ℕ Global))) → cond here (Some new) rest ≡ cond here (Some new) (cond here (Some old) rest)
replaced_entry true old new rest = refl
replaced_entry false old new rest = refl

-- another name: it isn't both
other_entry : (mine here : Bool) (old new : Option (Vec ℕ Global)) (rest : Option (Option (Vec ℕ Global))) → ((mine ≡ true) → (here ≡ true) → ⊥) → cond here (Some old) (cond mine (Some new) rest) ≡ cond mine (Some new) (cond here (Some old) rest)
other_entry true true old new rest apart = absurd (apart refl refl)
other_entry true false old new rest apart = refl
other_entry false here old new rest apart = refl

insert_of : (name : List ℕ) (e : Entry) (es : List Entry) (key : Vec ℕ Global) (value : Option (Vec ℕ Global)) (same : Bool) → same_key key e.0 ≡ same → lookup (λ k. bytes_eq name k.items) (insert_entry same_key es key value) ≡ cond (bytes_eq name key.items) (Some value) (lookup (λ k. bytes_eq name k.items) es) → lookup (λ k. bytes_eq name k.items) (insert_entry same_key (e ∷ es) key value) ≡ cond (bytes_eq name key.items) (Some value) (lookup (λ k. bytes_eq name k.items) (e ∷ es))
insert_of name e es key value true is h =
    let one : key.items ≡ e.0.items = (bytes_eq-Decides key.items e.0.items).0 is in
    rw (is, one) (replaced_entry (bytes_eq name e.0.items) e.1 value (lookup (λ k. bytes_eq name k.items) es))
insert_of name e es key value false is h =
    let apart : bytes_eq name key.items ≡ true → bytes_eq name e.0.items ≡ true → ⊥ =
    λ mine here.
    let same : key.items ≡ e.0.items = sym ((bytes_eq-Decides name key.items).0 mine) ∙ (bytes_eq-Decides name e.0.items).0 here in
    let yes : same_key key e.0 ≡ true = (bytes_eq-Decides key.items e.0.items).1 same in
    let no : true ≡ false = sym yes ∙ is in cc in
    rw (is, h) (other_entry (bytes_eq name key.items) (bytes_eq name e.0.items) e.1 value (lookup (λ k. bytes_eq name k.items) es) apart)

lookup-insert : (name : List ℕ) (es : List Entry) (key : Vec ℕ Global) (value : Option (Vec ℕ Global)) → lookup (λ k. bytes_eq name k.items) (insert_entry same_key es key value) ≡ cond (bytes_eq name key.items) (Some value) (lookup (λ k. bytes_eq name k.items) es)
lookup-insert name [] key value = refl
lookup-insert name (e ∷ es) key value = insert_of name e es key value (same_key key e.0) refl (lookup-insert name es key value)

chosen : (mine : Bool) (value : Option (Vec ℕ Global)) (rest : Option (Option (Vec ℕ Global))) → option_and_then meaning_of (cond mine (Some value) rest) ≡ (if mine then meaning_of value else option_and_then meaning_of rest)
chosen true value rest = refl
chosen false value rest = refl

-- a name that is put stands for what it was put with, and each other one for what it did
pub meaning_in-put : (other name : List ℕ) (es new : List Entry) (key : Vec ℕ Global) (value : Option (Vec ℕ Global)) → new ≡ insert_entry same_key es key value → key.items ≡ name → meaning_in other new ≡ (if bytes_eq other name then meaning_of value else meaning_in other es)
meaning_in-put other name es new key value is same =
    ap (meaning_in other) is
    ∙ ap (option_and_then meaning_of) (lookup-insert other es key value)
    ∙ chosen (bytes_eq other key.items) value (lookup (λ k. bytes_eq other k.items) es)
    ∙ ap (λ n. if bytes_eq other n then meaning_of value else meaning_in other es) same
