-- Which molecules may react with each other, and which do.
use Rattle.std.specs.Prelude.{ℕ, ◌+◌, ◌*◌, ◌&&◌, ◌||◌, ◌==◌, Bool, false, not, nat_le, nat_lt, List, [], ◌∷◌, ◌++◌, Option, None, Some, if◌then◌else◌, map, unsigned_abs}
use Rattle.std.specs.List.{items_where_true, list_any}
use Rattle.smol_num.specs.declared.quantities.Micro.{Micro}
use Rattle.smol_geom.specs.declared.place.Place.{Place}
use Rattle.smol_geom.specs.Place.{square_of_distance}
use Rattle.smol_plan.specs.declared.pair.Pair.{Pair}
use Rattle.smol_plan.specs.Matching.{serial}
use Rattle.smol_types.specs.declared.draft.Draft.{Draft}
use Rattle.smol_types.specs.declared.reaction.Reaction.{Reaction}
use Rattle.smol_types.specs.declared.state.Mol.{Mol}
use Rattle.smol_types.specs.Reactions.{reacts_together}
use Rattle.smol_meaning.specs.declared.event.Fired.{Fired}
use Rattle.smol_streams.specs.Chance.{pair_axis, pair_word}
use Rattle.smol_meaning.specs.Events.{is_free}
use Rattle.smol_meaning.specs.Motion.{difstep_of}
use Rattle.smol_meaning.specs.Sight.{are_hidden}

-- two molecules with their ranks in the list after motion, and a reaction that they may make. The first has the lower serial
pub record Encounter : Type 0 where
  pub a : Mol
  pub b : Mol
  pub rank_a : ℕ
  pub rank_b : ℕ
  pub reaction : ℕ

-- two molecules are no farther apart than the radius of a reaction, which is in micros. Without a radius they are too far
abbrev pub are_near : Option Micro → Place → Place → Bool
are_near None a b = false
are_near (Some radius) a b = nat_le (square_of_distance a b) (4 * (unsigned_abs radius.0 * unsigned_abs radius.0))

-- whether two molecules may react by a reaction in step k: it is one of their species, they are near and not hidden from each
-- other, and their word is below its threshold
abbrev pub may_react : Draft → ℕ → ℕ → Reaction → Encounter → Bool
may_react draft seed k reaction e =
    reacts_together e.a.species e.b.species reaction.reactants
    && (are_near reaction.radius e.a.place e.b.place
    && (not (are_hidden draft e.a e.b)
    && nat_lt (pair_word seed e.rank_a e.rank_b k e.reaction) reaction.threshold.0))

-- the encounters of two molecules, by the reactions from this number on
abbrev pub encounters_of_two : Draft → ℕ → ℕ → ℕ → Mol → ℕ → Mol → ℕ → List Reaction → List Encounter
encounters_of_two draft seed k rank_a a rank_b b number [] = []
encounters_of_two draft seed k rank_a a rank_b b number (reaction ∷ reactions) =
    let e : Encounter = record { a = a; b = b; rank_a = rank_a; rank_b = rank_b; reaction = number } in
    if may_react draft seed k reaction e
    then e ∷ encounters_of_two draft seed k rank_a a rank_b b (number + 1) reactions
    else encounters_of_two draft seed k rank_a a rank_b b (number + 1) reactions

-- the encounters of a molecule with those from this rank on that made no reaction alone
abbrev pub encounters_with : Draft → ℕ → ℕ → ℕ → Mol → ℕ → List Mol → List Encounter
encounters_with draft seed k rank_a a rank_b [] = []
encounters_with draft seed k rank_a a rank_b (b ∷ mols) =
    (if is_free draft seed k b then encounters_of_two draft seed k rank_a a rank_b b 0 draft.reactions else [])
    ++ encounters_with draft seed k rank_a a (rank_b + 1) mols

-- all encounters among the molecules from this rank on, by the lower serial, the higher one and the reaction
abbrev pub encounters_from : Draft → ℕ → ℕ → ℕ → List Mol → List Encounter
encounters_from draft seed k rank [] = []
encounters_from draft seed k rank (a ∷ mols) =
    (if is_free draft seed k a then encounters_with draft seed k rank a (rank + 1) mols else [])
    ++ encounters_from draft seed k (rank + 1) mols

-- the square of the distance between the two, in square ticks
abbrev pub square_between : Encounter → ℕ
square_between e = square_of_distance e.a.place e.b.place

-- an encounter put among others that are listed by distance: before the first that is no nearer
abbrev pub put_nearest : Encounter → List Encounter → List Encounter
put_nearest e [] = e ∷ []
put_nearest e (f ∷ fs) = if nat_le (square_between e) (square_between f) then e ∷ f ∷ fs else f ∷ put_nearest e fs

-- encounters by distance, the nearest first. Those of one distance stay in their order
abbrev pub nearest_first : List Encounter → List Encounter
nearest_first [] = []
nearest_first (e ∷ es) = put_nearest e (nearest_first es)

-- encounters in the order in which they come to a reaction: as they are, or the nearest first
abbrev pub listed : Bool → List Encounter → List Encounter
listed nearest es = if nearest then nearest_first es else es

-- all encounters of a list of molecules in step k: by the lower serial, the higher one and the reaction, and where the configuration
-- asks for it by distance before these
unfoldable pub encounters_of : Draft → ℕ → ℕ → List Mol → List Encounter
encounters_of draft seed k mols = listed draft.nearest (encounters_from draft seed k 0 mols)

-- an encounter as a pair of serials
abbrev pub pair_of : Encounter → Pair
pair_of e = record { a = e.a.serial; b = e.b.serial; reaction = e.reaction }

-- the candidates of a step: its encounters as pairs
abbrev pub candidates_of : Draft → ℕ → ℕ → List Mol → List Pair
candidates_of draft seed k mols = map pair_of (encounters_of draft seed k mols)

-- the encounters that come to a reaction: first come, first served
abbrev pub reacting : List Encounter → List Encounter
reacting encounters = items_where_true (serial (map pair_of encounters)) encounters

-- the products of two molecules start at the one whose species has the smaller difstep, and on a tie at the first
abbrev pub start_of_two : Draft → Mol → Mol → Place
start_of_two draft a b = if nat_le (difstep_of draft a.species) (difstep_of draft b.species) then a.place else b.place

-- two molecules react
abbrev pub event_of_two : Draft → ℕ → ℕ → Encounter → Fired
event_of_two draft seed k e = record {
  reaction = e.reaction;
  start = start_of_two draft e.a e.b;
  axis = pair_axis seed draft.dims e.rank_a e.rank_b k e.reaction;
}

-- whether a molecule takes part in one of these encounters
abbrev pub takes_part : List Encounter → Mol → Bool
takes_part encounters mol = list_any (λ (e : Encounter). (e.a.serial == mol.serial) || (e.b.serial == mol.serial)) encounters
