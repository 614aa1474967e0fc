use Rattle.std.proofs.Common.{sym, ◌∙◌}
use Rattle.smol_pairs.proofs.Distances.{too_far}
use Rattle.smol_pairs.proofs.near.are_within.Goals as goal

pub returns-else-are_within_on_each : goal.returns-else-are_within_on_each
returns-else-are_within_on_each c =
    c.if-are_within_on_each.false
    ∙ sym (too_far c.args.most c.args.a.now c.args.b.now (sym c.are_within_on_each.ensures ∙ c.if-are_within_on_each.false))
