use Rattle.std.proofs.Common.{◌≡◌}
use Rattle.std.specs.Prelude.{not}
use Rattle.smol_meaning.specs.Commands.{is_hit}
use Rattle.smol_commands.proofs.Ranks.{FiltersByRank}
use Rattle.smol_commands.proofs.hits.Chance.kill.Given as goal

-- the molecules so far that weren't hit stand in front
abbrev pub invariant-loop-rank : goal.invariant-loop-rank
invariant-loop-rank l = record {
  filters : FiltersByRank (λ rank mol. not (is_hit l.initial.streams l.self.command l.self.step l.self.who.now l.self.p rank mol)) l.initial.mols.items l.mols.items l.kept l.rank;
  seed : l.streams ≡ l.initial.streams;
}
