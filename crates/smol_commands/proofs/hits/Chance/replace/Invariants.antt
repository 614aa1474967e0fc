use Rattle.std.proofs.Common.{◌≡◌}
use Rattle.std.specs.Prelude.{if◌then◌else◌}
use Rattle.smol_meaning.specs.Commands.{is_hit, turned_into}
use Rattle.smol_commands.proofs.Ranks.{MapsByRank}
use Rattle.smol_commands.proofs.hits.Chance.replace.Given as goal

-- the molecules so far are turned
abbrev pub invariant-loop-rank : goal.invariant-loop-rank
invariant-loop-rank l = record {
  maps : MapsByRank (λ rank mol. if is_hit l.initial.streams l.self.command l.self.step l.self.who.now l.self.p rank mol then turned_into l.to mol else mol) l.initial.mols.items l.mols.items l.rank;
  seed : l.streams ≡ l.initial.streams;
}
