-- Reactions of single molecules, and what reactions of either order make.
use Rattle.std.specs.Prelude.{ℕ, ◌+◌, ◌*◌, ◌/◌, nat_lt, ◌==◌, Bool, ℤ, pos, ◌-ℤ◌, List, [], ◌∷◌, ◌++◌, length, Option, None, Some, if◌then◌else◌, is_none, slice_get, unsigned_abs}
use Rattle.std.specs.List.{filter_map}
use Rattle.std.specs.Option.{option_map, option_map_or}
use Rattle.smol_geom.specs.declared.place.Step3.{Step3}
use Rattle.smol_types.specs.declared.draft.Draft.{Draft}
use Rattle.smol_types.specs.declared.reaction.Placement.{Placement}
use Rattle.smol_types.specs.declared.reaction.Placement.TheVariants.{Offsets, Unbind}
use Rattle.smol_types.specs.declared.reaction.Product.{Product}
use Rattle.smol_types.specs.declared.reaction.Reaction.{Reaction}
use Rattle.smol_types.specs.declared.state.Mol.{Mol}
use Rattle.smol_types.specs.Reactions.{share_of}
use Rattle.smol_meaning.specs.declared.event.Birth.{Birth}
use Rattle.smol_meaning.specs.declared.event.Fired.{Fired}
use Rattle.smol_streams.specs.Chance.{first_order_word, lone_axis}
use Rattle.smol_meaning.specs.Motion.{Move, arrived, end_of_move}

-- of reactions from this number on, where those before have so many words, the one whose words hold this one: the shares that
-- the reactions have of the words are laid end to end
abbrev pub reaction_drawn : ℕ → ℕ → ℕ → List Reaction → ℕ → Option ℕ
reaction_drawn species passed number [] word = None
reaction_drawn species passed number (reaction ∷ reactions) word =
    if nat_lt word (passed + share_of species reaction)
    then Some number
    else reaction_drawn species (passed + share_of species reaction) (number + 1) reactions word

-- the reaction that a molecule makes alone in step k, where it makes one
abbrev pub lone_reaction : Draft → ℕ → ℕ → Mol → Option ℕ
lone_reaction draft seed k mol = reaction_drawn mol.species 0 0 draft.reactions (first_order_word seed mol.serial k)

-- whether a molecule makes none, so that it may still meet another
abbrev pub is_free : Draft → ℕ → ℕ → Mol → Bool
is_free draft seed k mol = is_none (lone_reaction draft seed k mol)

-- a molecule reacts alone. Its products start at its place
abbrev pub lone_event : Draft → ℕ → ℕ → Mol → ℕ → Fired
lone_event draft seed k mol reaction = record { reaction = reaction; start = mol.place; axis = lone_axis seed draft.dims mol.serial k }

-- the event of a molecule that reacts alone
abbrev pub event_of_one : Draft → ℕ → ℕ → Mol → Option Fired
event_of_one draft seed k mol = option_map (lone_event draft seed k mol) (lone_reaction draft seed k mol)

-- all such events, in the order of the molecules
abbrev pub lone_events : Draft → ℕ → ℕ → List Mol → List Fired
lone_events draft seed k mols = filter_map (event_of_one draft seed k) mols

-- the displacement along one axis
abbrev pub along : ℕ → ℤ → Step3
along axis x = record {
  0 = (if axis == 0 then x else pos 0) ∷ (if axis == 1 then x else pos 0) ∷ (if axis == 2 then x else pos 0) ∷ [];
}

-- how far from the start a product goes that is taken apart from another by so many micros: the first product half of it up
-- the axis, rounded up to a micro, and the other one the rest down
abbrev pub apart : ℕ → ℕ → ℕ → Step3
apart distance axis index = along axis (if index == 0 then pos (2 * ((distance + 1) / 2)) else pos 0 -ℤ pos (2 * (distance / 2)))

-- the displacement of the product of this index in its reaction
abbrev pub offset_of : Placement → ℕ → ℕ → Product → Step3
offset_of Offsets axis index product = product.offset
offset_of (Unbind distance) axis index product = apart (unsigned_abs distance) axis index

-- the products of an event from this index on, with serials from this one on
abbrev pub births_in : Placement → Fired → ℕ → ℕ → List Product → List Birth
births_in placement event serial index [] = []
births_in placement event serial index (product ∷ products) =
    record { serial = serial; species = product.species; start = event.start; by = offset_of placement event.axis index product }
    ∷ births_in placement event (serial + 1) (index + 1) products

-- the products of a reaction of this number, or none where there is no such reaction
abbrev pub products_of : Draft → ℕ → List Product
products_of draft number = option_map_or (λ (reaction : Reaction). reaction.products) (slice_get draft.reactions number) []

abbrev pub placement_of : Draft → ℕ → Placement
placement_of draft number = option_map_or (λ (reaction : Reaction). reaction.placement) (slice_get draft.reactions number) Offsets

-- what an event makes, with serials from this one on
abbrev pub births_of_event : Draft → ℕ → Fired → List Birth
births_of_event draft serial event = births_in (placement_of draft event.reaction) event serial 0 (products_of draft event.reaction)

-- what events make, in their order and each event's products as they are written, with serials from this one on
abbrev pub births_of : Draft → ℕ → List Fired → List Birth
births_of draft serial [] = []
births_of draft serial (event ∷ events) =
    births_of_event draft serial event ++ births_of draft (serial + length (products_of draft event.reaction)) events

-- the way of a product
abbrev pub birth_move : Birth → Move
birth_move birth = record { species = birth.species; from = birth.start; by = birth.by }

-- a product at the end of its way, where it wasn't absorbed. Either way it has taken its number
abbrev pub born : Draft → Birth → Option Mol
born draft birth =
    arrived (record { serial = birth.serial; species = birth.species; place = birth.start }) (end_of_move draft (birth_move birth))
