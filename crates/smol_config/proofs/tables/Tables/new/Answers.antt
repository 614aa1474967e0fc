use Rattle.std.proofs.Common.{refl}
use Rattle.smol_config.proofs.tables.Tables.new.Goals as goal

pub returns : goal.returns
returns c = record {
  plain = rw (c.new.ensures.names, c.new.ensures.motions, c.new-2.ensures, c.new-5.ensures, c.new-6.ensures) refl;
  groups = record { reactions = c.new-3.ensures.holds; kept = c.new-3.ensures.kept; blocks = c.new-4.ensures.holds; blocks_kept = c.new-4.ensures.kept };
}
