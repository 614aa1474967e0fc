use Rattle.std.proofs.Common.{◌∙◌}
use Rattle.smol_claims.proofs.CodeLemmas.{serial_decision-after}
use Rattle.smol_claims.proofs.claims.Claims.decision_of.Goals as goal

pub returns-clause-serial : goal.returns-clause-serial
returns-clause-serial c =
    c.after.ensures ∙ serial_decision-after c.args.self.now.pairs c.args.pair _ _ c.requires.pair c.is_taken-low.ensures.taken c.is_taken-high.ensures.taken
