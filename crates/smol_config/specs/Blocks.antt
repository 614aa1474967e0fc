-- What lines say of blocks.
use Rattle.std.specs.Prelude.{ℕ, Bool, List, [], ◌∷◌, length}
use Rattle.smol_blocks.specs.Blocks.{BlockSaid, block_of, compartments_of, is_outside}
use Rattle.smol_config.specs.Said.{Said, of_blocks}

-- what the lines before say of blocks, the nearest first
abbrev pub blocks_said : List Said → List BlockSaid
blocks_said [] = []
blocks_said (of_blocks said ∷ before) = said ∷ blocks_said before
blocks_said (other ∷ before) = blocks_said before

-- no block is open behind the lines before
abbrev pub stands_outside : List Said → Bool
stands_outside before = is_outside (block_of (blocks_said before))

-- how many compartments the lines before give
abbrev pub compartment_count : List Said → ℕ
compartment_count before = length (compartments_of (blocks_said before))
