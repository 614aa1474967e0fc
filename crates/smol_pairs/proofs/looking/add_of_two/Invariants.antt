use Rattle.std.proofs.Common.{◌≡◌, ◌++◌, drop, map}
use Rattle.smol_meaning.specs.Encounters.{encounters_of_two}
use Rattle.smol_pairs.specs.Encounters.{ranks_of}
use Rattle.smol_pairs.proofs.looking.add_of_two.Given as goal

-- the encounters so far and those by the reactions that are left
abbrev pub invariant-loop-number : goal.invariant-loop-number
invariant-loop-number l = record {
  keys : l.keys ++ map ranks_of (encounters_of_two l.panels l.streams l.k l.a.rank l.a.mol l.b.rank l.b.mol l.number (drop l.number l.reaction-items))
      ≡ l.initial.keys ++ map ranks_of (encounters_of_two l.panels l.streams l.k l.a.rank l.a.mol l.b.rank l.b.mol 0 l.reaction-items);
  seed : l.streams ≡ l.initial.streams;
}
