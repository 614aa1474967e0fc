use Rattle.std.proofs.Common.{◌≡◌, ◌+◌, [], List, drop}
use Rattle.smol_text.specs.Spans.{stated_lines}
use Rattle.smol_blocks.specs.BlockReads.{HoldsCompartment}
use Rattle.smol_blocks.specs.BlockText.{block_from, in_compartment_block}
use Rattle.smol_blocks.specs.Compartment.{CompartmentSaid}
use Rattle.smol_blocks.proofs.compartment_block.read_lines.Given as goal

-- the compartment is what the lines so far say, and reading on behind these gives what reading all gives
abbrev pub invariant-loop-k : goal.invariant-loop-k
invariant-loop-k l =
    (said : List CompartmentSaid) × HoldsCompartment l.compartment said
    × (block_from (in_compartment_block l.axes l.surfaces) l.opened [] (l.at + 1) (drop (l.at + 1) (stated_lines l.text))
    ≡ block_from (in_compartment_block l.axes l.surfaces) l.opened said l.k (drop l.k (stated_lines l.text)))
