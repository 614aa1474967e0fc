use Rattle.smol_plan.proofs.PlanLemmas.{source_from_own, source_from_other, read_earlier}
use Rattle.smol_plan.proofs.plan.Plan.before.Goals as goal

pub returns-then-before-pair-clause-source : goal.returns-then-before-pair-clause-source
returns-then-before-pair-clause-source c =
    let pairs = c.self.inside.pairs.items in
    rw (← c.self.view_is) (source_from_own pairs c.args.pair c.args.side c.before-before.result (rw c.self.view_is c.requires) (read_earlier pairs c.self.inside.links.items c.self.invariant c.args.pair c.args.side c.index.result.now c.before-before.result (rw c.self.view_is c.requires) c.index.ensures c.before-before.ensures) c.if-before-pair.true)

pub returns-else-before-pair-clause-source : goal.returns-else-before-pair-clause-source
returns-else-before-pair-clause-source c =
    let pairs = c.self.inside.pairs.items in
    rw (← c.self.view_is) (source_from_other pairs c.args.pair c.args.side c.before-before.result (rw c.self.view_is c.requires) (read_earlier pairs c.self.inside.links.items c.self.invariant c.args.pair c.args.side c.index.result.now c.before-before.result (rw c.self.view_is c.requires) c.index.ensures c.before-before.ensures) c.if-before-pair.false)
