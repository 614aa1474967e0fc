use Rattle.std.proofs.Common.{◌≡◌, ◌∙◌}
use Rattle.smol_plan.specs.Pair.{molecule_at}
use Rattle.smol_plan.specs.Links.{IsNextAfter}
use Rattle.smol_plan.proofs.PlanLemmas.{no_next, next_from_other, source_of_next, same_next, read_later}
use Rattle.smol_plan.proofs.plan.Plan.after.Goals as goal

pub returns-then-after-pair-clause-undoes : goal.returns-then-after-pair-clause-undoes
returns-then-after-pair-clause-undoes c =
    let pairs = c.self.inside.pairs.items in
    let later = read_later pairs c.self.inside.links.items c.self.invariant c.args.pair c.args.side c.index.result.now c.after-after.result (rw c.self.view_is c.requires) c.index.ensures c.after-after.ensures in
    rw (← c.self.view_is) (λ k s m h. absurd (no_next pairs c.args.pair c.args.side c.after-after.result k s later c.if-after-pair.true m h))

pub returns-else-after-pair-clause-undone : goal.returns-else-after-pair-clause-undone
returns-else-after-pair-clause-undone c =
    let pairs = c.self.inside.pairs.items in
    let next : IsNextAfter pairs (molecule_at pairs c.args.pair c.args.side) c.args.pair c.after-after.result = next_from_other pairs _ _ _ (read_later pairs c.self.inside.links.items c.self.invariant c.args.pair c.args.side c.index.result.now c.after-after.result (rw c.self.view_is c.requires) c.index.ensures c.after-after.ensures) c.if-after-pair.false in
    let on_side : molecule_at pairs c.after-after.result c.side_of.result ≡ molecule_at pairs c.args.pair c.args.side = rw c.self.view_is (c.side_of.ensures ∙ c.molecule.ensures) in
    rw (← c.self.view_is) (source_of_next pairs c.args.pair c.args.side c.after-after.result c.side_of.result next on_side)

pub returns-else-after-pair-clause-undoes : goal.returns-else-after-pair-clause-undoes
returns-else-after-pair-clause-undoes c =
    let pairs = c.self.inside.pairs.items in
    let next : IsNextAfter pairs (molecule_at pairs c.args.pair c.args.side) c.args.pair c.after-after.result = next_from_other pairs _ _ _ (read_later pairs c.self.inside.links.items c.self.invariant c.args.pair c.args.side c.index.result.now c.after-after.result (rw c.self.view_is c.requires) c.index.ensures c.after-after.ensures) c.if-after-pair.false in
    let on_side : molecule_at pairs c.after-after.result c.side_of.result ≡ molecule_at pairs c.args.pair c.args.side = rw c.self.view_is (c.side_of.ensures ∙ c.molecule.ensures) in
    rw (← c.self.view_is) (same_next pairs c.self.invariant.ordered c.args.pair c.args.side c.after-after.result c.side_of.result next on_side)
