use Rattle.std.proofs.Common.{length, unsigned_abs, ap, ◌∙◌}
use Rattle.std.proofs.lemmas.Result.{err_from_is_err_and}
use Rattle.smol_reactions.proofs.Rated.{shared_kept}
use Rattle.smol_config.specs.Whole.{has_chances}
use Rattle.smol_config.proofs.Drafts.{drafted_is}
use Rattle.smol_config.proofs.whole.draft_of.Goals as goal

pub returns-clause-content : goal.returns-clause-content
returns-clause-content c before holds =
    let parts = c.in_ok-parts.ensures in
    c.drafted.ensures ∙ drafted_is c.args.needed c.args.tables before holds c.in_ok-parts.parts parts.start parts.species parts.walls parts.outputs

pub returns-in_err-parts-clause-refused : goal.returns-in_err-parts-clause-refused
returns-in_err-parts-clause-refused c kind before is holds =
    let p = err_from_is_err_and c.from_residual.result c.from_residual.ensures.1 in
    c.in_err-parts.ensures.refused kind before (cc (p.1, p.2, is)) holds

pub returns-clause-shared : goal.returns-clause-shared
returns-clause-shared c =
    let reactions = c.args.tables.reactions in
    ap (has_chances reactions.chances.items) c.drafted.ensures
    ∙ shared_kept (length c.in_ok-parts.parts.species) (unsigned_abs c.args.needed.step) reactions.list.items reactions.chances.items
    ∙ c.in_ok-parts.ensures.shared
