-- Commands hold what is inside: they move no molecule, and those that they add have new serials.
use Rattle.std.proofs.Common.{ℕ, zero, suc, ◌+◌, ◌<◌, Bool, true, false, not, if◌then◌else◌, List, [], ◌∷◌, length, All, arith}
use Rattle.std.specs.Prelude.{nat_lt, filter}
use Rattle.std.specs.List.{list_all}
use Rattle.std.proofs.lemmas.List.Elements.{All-append, All-cons, All-filter, All-head, All-nil, All-tail}
use Rattle.smol_geom.specs.declared.cuboid.Cuboid.{Cuboid}
use Rattle.smol_geom.specs.declared.place.Place.{Place}
use Rattle.smol_types.specs.declared.command.Act.{Act}
use Rattle.smol_types.specs.declared.command.Act.TheVariants as act
use Rattle.smol_types.specs.declared.command.Command.{Command}
use Rattle.smol_types.specs.declared.draft.Draft.{Draft}
use Rattle.smol_types.specs.declared.state.Mol.{Mol}
use Rattle.smol_types.specs.declared.state.State.{State}
use Rattle.smol_meaning.specs.Commands.{effect_of, filter_ranked, holds_of, is_hit, is_meant, map_ranked, molecules_at, performed, turned_into, with_mols, with_more}
use Rattle.smol_meaning.specs.Stretch.{Stretch, becomes, idle, is_over}
use Rattle.smol_confined.proofs.Safe.{Holds, IsNotOut}

-- from a state on each state holds what was inside in the one before, up to the last
abbrev pub Linked : Cuboid → State → List State → State → Type 0
Linked box state [] last = Holds box state last
Linked box state (next ∷ states) last = Holds box state next × Linked box next states last

All-filter_ranked : (p : ℕ → Mol → Bool) (P : Mol → Type 0) (rank : ℕ) (mols : List Mol) → All P mols → All P (filter_ranked p rank mols)
All-filter_ranked p P rank [] all = All-nil P
All-filter_ranked p P rank (mol ∷ mols) all =
    let more = All-filter_ranked p P (rank + 1) mols (All-tail P mol mols all) in
    elim (p rank mol) as (λ b. All P (if b then mol ∷ filter_ranked p (rank + 1) mols else filter_ranked p (rank + 1) mols))
    [ true ↦ All-cons P mol _ (All-head P mol mols all) more | false ↦ more ]

All-map_ranked : (f : ℕ → Mol → Mol) (P : Mol → Type 0) → ((rank : ℕ) (mol : Mol) → P mol → P (f rank mol)) → (rank : ℕ) (mols : List Mol) → All P mols → All P (map_ranked f rank mols)
All-map_ranked f P keeps rank [] all = All-nil P
All-map_ranked f P keeps rank (mol ∷ mols) all =
    All-cons P (f rank mol) _ (keeps rank mol (All-head P mol mols all)) (All-map_ranked f P keeps (rank + 1) mols (All-tail P mol mols all))

-- molecules with serials from this one on are no others
added_other : (box : Cuboid) (serial next species : ℕ) (place : Place) (n : ℕ) → serial < next → All (IsNotOut box serial) (molecules_at next species place n)
added_other box serial next species place zero given = All-nil (IsNotOut box serial)
added_other box serial next species place (suc n) given =
    All-cons (IsNotOut box serial) _ _ (λ same. absurd (omega (arith, same, given))) (added_other box serial (next + 1) species place n (omega arith))

module _ (box : Cuboid) where
  itself : (state : State) → Holds box state state
  itself state serial safe = safe

  -- one state alone
  one_state : (state next : State) → Holds box state next → Linked box state (next ∷ []) next
  one_state state next holds = (holds, itself next)

  fewer_hold : (state : State) (mols : List Mol) → ((serial : ℕ) → All (IsNotOut box serial) state.mols → All (IsNotOut box serial) mols)
      → Holds box state (with_mols state mols)
  fewer_hold state mols few = λ serial safe. record { given = safe.given; inside = few serial safe.inside }

  more_hold : (state : State) (species : ℕ) (place : Place) (n : ℕ) → Holds box state (with_more state species place n)
  more_hold state species place n = λ serial safe.
      let given = safe.given in
      record {
        given = omega arith;
        inside = All-append (IsNotOut box serial) state.mols (molecules_at state.next species place n) safe.inside
            (added_other box serial state.next species place n safe.given);
      }

  turned : (serial to : ℕ) (hit : Bool) (mol : Mol) → IsNotOut box serial mol → IsNotOut box serial (if hit then turned_into to mol else mol)
  turned serial to true mol there = there
  turned serial to false mol there = there

  pub effect_linked : (draft : Draft) (seed c : ℕ) (state : State) (does : Act)
      → Linked box state (effect_of draft seed c state does).states (effect_of draft seed c state does).last
  unfolding effect_of
  effect_linked draft seed c state (act.CountHeader out) = itself state
  effect_linked draft seed c state (act.Count out) = itself state
  effect_linked draft seed c state (act.CountIn compartment out) = itself state
  effect_linked draft seed c state (act.List out) = itself state
  effect_linked draft seed c state (act.Positions who out) = itself state
  effect_linked draft seed c state (act.CountSpace who axis low high bins out) = itself state
  effect_linked draft seed c state (act.Moments who out) = itself state
  effect_linked draft seed c state (act.MeanSquare who at out) = itself state
  effect_linked draft seed c state (act.Radial first second radius bins out) = itself state
  effect_linked draft seed c state (act.Echo out text) = itself state
  effect_linked draft seed c state (act.Kill who) =
      let test : Mol → Bool = λ (mol : Mol). not (is_meant who mol) in
      one_state state (with_mols state (filter test state.mols))
      (fewer_hold state (filter test state.mols) (λ serial all. All-filter test (IsNotOut box serial) state.mols all))
  effect_linked draft seed c state (act.KillProb who p) =
      let test : ℕ → Mol → Bool = λ rank mol. not (is_hit seed c state.step who p rank mol) in
      one_state state (with_mols state (filter_ranked test 0 state.mols))
      (fewer_hold state (filter_ranked test 0 state.mols) (λ serial all. All-filter_ranked test (IsNotOut box serial) 0 state.mols all))
  effect_linked draft seed c state (act.Replace who to p) =
      let f : ℕ → Mol → Mol = λ rank mol. if is_hit seed c state.step who p rank mol then turned_into to mol else mol in
      one_state state (with_mols state (map_ranked f 0 state.mols))
      (fewer_hold state (map_ranked f 0 state.mols)
      (λ serial all. All-map_ranked f (IsNotOut box serial) (λ rank mol there. turned serial to (is_hit seed c state.step who p rank mol) mol there) 0 state.mols all))
  effect_linked draft seed c state (act.PointSource species n place) =
      elim (nat_lt draft.max_mol (length state.mols + n)) as
      (λ over. let stretch : Stretch = if over then is_over state state.step else becomes (with_more state species place n) in Linked box state stretch.states stretch.last)
      [ true ↦ itself state | false ↦ one_state state (with_more state species place n) (more_hold state species place n) ]
  effect_linked draft seed c state act.Stop = itself state

  pub performed_linked : (draft : Draft) (seed c : ℕ) (state : State) (command : Command)
      → Linked box state (performed draft seed c state command).states (performed draft seed c state command).last
  performed_linked draft seed c state command =
      elim (list_all (holds_of state.mols) command.tests) as
      (λ holds. let stretch : Stretch = if holds then effect_of draft seed c state command.act else idle state in Linked box state stretch.states stretch.last)
      [ true ↦ effect_linked draft seed c state command.act | false ↦ itself state ]
