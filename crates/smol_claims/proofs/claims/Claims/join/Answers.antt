use Rattle.std.proofs.Common.{sym, ◌∙◌, ap, arith}
use Rattle.smol_claims.proofs.SplitLemmas.{joins}
use Rattle.smol_claims.proofs.claims.Claims.join.Goals as goal

pub join_seat-requires : goal.join_seat-requires
join_seat-requires c = (
  c.requires.sits.at ∙ ap (λ t. t.table) (sym c.self.view_is),
  ap (λ h. h.table) c.worker.view_is ∙ c.requires.works.table ∙ ap (λ t. t.table) (sym c.self.view_is),
  c.worker.invariant.slots,
  omega (arith, c.self.invariant.words),
  rw c.self.invariant.key (joins c.self.inside.terms.plan c.self.inside.terms.workers _ _ _ _ c.requires.sits.share c.worker.invariant.done.held c.worker.invariant.done.owed),
)
