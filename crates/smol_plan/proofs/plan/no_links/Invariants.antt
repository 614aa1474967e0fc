use Rattle.std.proofs.Common.{◌≡◌, vec_len}
use Rattle.smol_plan.specs.Linked.{AreUnlinked}
use Rattle.smol_plan.proofs.plan.no_links.Given as goal

abbrev pub invariant-loop-pair : goal.invariant-loop-pair
invariant-loop-pair l =
    record { one_each : vec_len l.links ≡ l.pair; unlinked : AreUnlinked l.links.items }
