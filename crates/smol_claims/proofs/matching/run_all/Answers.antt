use Rattle.std.proofs.Common.{rules, sym, ◌∙◌, ap}
use Rattle.smol_claims.specs.Hand.{Hand, HasRun}
use Rattle.smol_claims.proofs.AllLemmas.{sum_by-each}
use Rattle.smol_claims.proofs.matching.run_all.Goals as goal

pub returns-clause-shares : goal.returns-clause-shares
returns-clause-shares g c =
    sum_by-each (λ (w : Hand). w.view.share) c.args.workers.now c.for_each_mut.new.s (search rules) (λ i d l. let at = (c.for_each_mut.ensures i d l).1 in let ran : HasRun c.args.claims.now at.argument.now.view.share at.after_call.now = search rules in ap (λ (w : Hand). w.view.share) (sym at.left) ∙ ran.share_is ∙ ap (λ (w : Hand). w.view.share) at.argument_is)
