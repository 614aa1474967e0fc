-- What outlets tell, and how their calls change it.
use Rattle.std.specs.Prelude.{◌≡◌, ℕ, ◌+◌, ◌-◌, ◌≤◌, ◌==◌, if◌then◌else◌, List, [], ◌∷◌, ◌++◌, length, take}

-- the names opened, in order, and the bytes of each outlet: 0 is standard output, 1 standard error, and 2 and up are the names
pub record Written : Type 0 where
  pub names : List (List ℕ)
  pub bytes : ℕ → List ℕ

-- bytes with the outlet that they are for
abbrev pub Piece : Type 0
Piece = ℕ × List ℕ

-- what an outlet gets of a list of pieces: those with its number, joined
abbrev pub bytes_on : ℕ → List Piece → List ℕ
bytes_on outlet [] = []
bytes_on outlet (piece ∷ pieces) = (if piece.0 == outlet then piece.1 else []) ++ bytes_on outlet pieces

-- each outlet was appended exactly its part of the pieces, and no name was opened
pub record Appends (pieces : List Piece) (before after : Written) : Type 0 where
  pub names : after.names ≡ before.names
  pub bytes : (outlet : ℕ) → after.bytes outlet ≡ before.bytes outlet ++ bytes_on outlet pieces

-- the name was opened, and no byte was written
pub record Names (name : List ℕ) (before after : Written) : Type 0 where
  pub names : after.names ≡ before.names ++ name ∷ []
  pub bytes : (outlet : ℕ) → after.bytes outlet ≡ before.bytes outlet

-- the number opened is that of the names, and an outlet that isn't opened has no bytes
pub record IsCounted (count : ℕ) (written : Written) : Type 0 where
  pub count_is : count ≡ length written.names
  pub blank : (outlet : ℕ) → 2 + length written.names ≤ outlet → written.bytes outlet ≡ []

-- the first bytes of a list of pieces, as many as said. Each keeps its outlet
abbrev pub front_of : ℕ → List Piece → List Piece
front_of count [] = []
front_of count (piece ∷ pieces) = (piece.0, take count piece.1) ∷ front_of (count - length piece.1) pieces

-- a front of the pieces was appended, and nothing else
pub record AppendsFrontOf (pieces : List Piece) (before after : Written) : Type 0 where
  pub count : ℕ
  pub appends : Appends (front_of count pieces) before after
