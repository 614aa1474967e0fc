use Rattle.std.proofs.Common.{◌≡◌, ◌+◌, ◌≤◌, [], List, drop, length}
use Rattle.smol_text.specs.Spans.{stated_lines}
use Rattle.smol_types.specs.Limits.{most_panels}
use Rattle.smol_blocks.specs.BlockText.{block_from, in_surface_block}
use Rattle.smol_blocks.specs.Surface.{SurfaceSaid}
use Rattle.smol_blocks.specs.SurfaceTable.{Holds, IsReady, known_of}
use Rattle.smol_blocks.proofs.surface_block.read_lines.Given as goal

-- the table holds what the lines so far say, and reading on behind these gives what reading all gives
abbrev pub invariant-loop-k : goal.invariant-loop-k
invariant-loop-k l = record {
  few : l.others + length l.table.panels.names ≤ most_panels;
  ready : IsReady l.table (length l.species);
  read : (said : List SurfaceSaid) × Holds l.table said
      × (block_from (in_surface_block (known_of l.dims l.species l.others)) l.opened [] (l.at + 1) (drop (l.at + 1) (stated_lines l.text))
      ≡ block_from (in_surface_block (known_of l.dims l.species l.others)) l.opened said l.k (drop l.k (stated_lines l.text)));
}
