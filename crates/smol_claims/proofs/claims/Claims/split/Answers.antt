use Rattle.std.proofs.Common.{sym, ◌∙◌, ap, arith}
use Rattle.smol_claims.proofs.SplitLemmas.{splits}
use Rattle.smol_claims.proofs.claims.Claims.split.Goals as goal

pub split_seat-requires : goal.split_seat-requires
split_seat-requires c = (
  c.requires.table ∙ ap (λ t. t.table) (sym c.self.view_is),
  omega (arith, c.self.invariant.words),
  rw c.self.invariant.key (splits c.self.inside.terms.plan c.self.inside.terms.workers _ _ c.requires.share),
)
