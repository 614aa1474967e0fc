-- What is promised of the ways of molecules.
use Rattle.smol_geom.specs.declared.cuboid.Cuboid.{Cuboid}
use Rattle.smol_types.specs.declared.draft.Draft.{Draft}
use Rattle.smol_meaning.specs.Box.{Confines, IsInside}
use Rattle.smol_meaning.specs.Crossing.{CrossesNone}
use Rattle.smol_meaning.specs.Motion.{Move}
use Rattle.smol_meaning.specs.Seen.{IsClosedBox, plates_of}

-- the way of a move crosses no face of a panel or wall that reflects what the molecule is then
abbrev pub CrossesNoFace : Draft → Move → Type 0
CrossesNoFace draft move = CrossesNone (plates_of draft) move.species move.from move.by

-- a closed reflecting box of the configuration confines the way of a move that starts inside it
abbrev pub StaysInBoxes : Draft → Move → Type 0
StaysInBoxes draft move =
    (box : Cuboid) → IsClosedBox draft box → IsInside box move.from → Confines (plates_of draft) move.species move.from move.by box
