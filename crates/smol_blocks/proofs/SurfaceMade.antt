-- The surface of a table.
use Rattle.std.proofs.Common.{◌≡◌, ◌+◌, ◌∷◌, [], ℕ, suc, List, length, Option, None, slice_index_or, arith, refl, sym, ap, subst, ◌∙◌}
use Rattle.smol_types.specs.declared.surface.Action.{Action}
use Rattle.smol_types.specs.declared.surface.Action.TheVariants.{Transmit}
use Rattle.smol_types.specs.declared.surface.Face.{Face}
use Rattle.smol_types.specs.declared.surface.Face.TheVariants.{Front, Back}
use Rattle.smol_blocks.specs.declared.action_table.FaceTable.{FaceTable}
use Rattle.smol_blocks.specs.declared.surface_table.SurfaceTable.{SurfaceTable}
use Rattle.smol_blocks.specs.Surface.{SurfaceSaid, Known, acting_on, actions_from, changing_on, changes_from, surface_of}
use Rattle.smol_blocks.specs.SurfaceTable.{IsFaceReady, IsReady, Holds as HoldsSurface}

-- the entries of all species, by the one of each number
module _ {T : Type 0} (other : T) (says : ℕ → T) (made : ℕ → List (List ℕ) → List T) (last : (number : ℕ) → made number [] ≡ [])
    (next : (number : ℕ) (name : List ℕ) (names : List (List ℕ)) → made number (name ∷ names) ≡ says number ∷ made (number + 1) names) where
  entries_are : (number : ℕ) (names : List (List ℕ)) (entries : List T) → length entries ≡ length names → ((k : ℕ) → slice_index_or entries k other ≡ says (number + k)) → entries ≡ made number names
  entries_are number [] [] count each = sym (last number)
  entries_are number [] (entry ∷ entries) count each = absurd (omega (arith, count))
  entries_are number (name ∷ names) [] count each = absurd (omega (arith, count))
  entries_are number (name ∷ names) (entry ∷ entries) count each =
      let here : number + 0 ≡ number = omega arith in
      let first : entry ≡ says number = subst (λ n. entry ≡ says n) here (each 0) in
      let fewer : length entries ≡ length names = omega (arith, count) in
      let behind : (k : ℕ) → number + suc k ≡ number + 1 + k = λ k. omega arith in
      let rest = entries_are (number + 1) names entries fewer (λ k. subst (λ n. slice_index_or entries k other ≡ says n) (behind k) (each (suc k))) in
      ap (λ one. one ∷ entries) first ∙ ap (λ (others : List T). says number ∷ others) rest ∙ sym (next number name names)

-- what a face does to each species, and what it makes of it
module _ (one : Face) (lines : List SurfaceSaid) (table : FaceTable) (names : List (List ℕ)) (ready : IsFaceReady table (length names)) where
  actions_are : ((k : ℕ) → slice_index_or table.actions.items k Transmit ≡ acting_on one k lines) → table.actions.items ≡ actions_from one 0 names lines
  actions_are acts =
      let from_0 : (k : ℕ) → k ≡ 0 + k = λ k. omega arith in
      entries_are Transmit (λ number. acting_on one number lines) (λ number names. actions_from one number names lines) (λ number. refl) (λ number name names. refl) 0 names table.actions.items ready.actions
      (λ k. acts k ∙ ap (λ n. acting_on one n lines) (from_0 k))

  changes_are : ((k : ℕ) → slice_index_or table.changes.items k None ≡ changing_on one k lines) → table.changes.items ≡ changes_from one 0 names lines
  changes_are changes =
      let from_0 : (k : ℕ) → k ≡ 0 + k = λ k. omega arith in
      entries_are None (λ number. changing_on one number lines) (λ number names. changes_from one number names lines) (λ number. refl) (λ number name names. refl) 0 names table.changes.items ready.changes
      (λ k. changes k ∙ ap (λ n. changing_on one n lines) (from_0 k))

-- the surface of a table
pub surface_is : (table : SurfaceTable) (known : Known) (lines : List SurfaceSaid) → IsReady table (length known.species) → HoldsSurface table lines
    → record { front = table.actions.front.actions.items; back = table.actions.back.actions.items; front_new = table.actions.front.changes.items; back_new = table.actions.back.changes.items } ≡ surface_of known lines
unfolding surface_of
surface_is table known lines ready h =
    let front = actions_are Front lines table.actions.front known.species ready.front h.front in
    let back = actions_are Back lines table.actions.back known.species ready.back h.back in
    let front_new = changes_are Front lines table.actions.front known.species ready.front h.front_new in
    let back_new = changes_are Back lines table.actions.back known.species ready.back h.back_new in
    λ i. record { front = front i; back = back i; front_new = front_new i; back_new = back_new i }
