use Rattle.std.proofs.Common.{ap, ◌∙◌, sym}
use Rattle.std.proofs.lemmas.Result.{err_from_is_err_and}
use Rattle.smol_line.specs.Names.{new_name_in}
use Rattle.smol_reactions.proofs.Judged.{name_fails, products_fail, reactions_fail, reaction_is}
use Rattle.smol_reactions.proofs.SchemeLemmas.{given_is}
use Rattle.smol_reactions.proofs.reaction.judge.Goals as goal

pub returns-in_err-name-clause-rule : goal.returns-in_err-name-clause-rule
returns-in_err-name-clause-rule c =
    let p = err_from_is_err_and c.from_residual-in_err-name.result c.from_residual-in_err-name.ensures.1 in
    let enough = rw c.len.ensures at c.in_ok-unless.ensures.holds in
    let failed = c.in_err-name.ensures.rule in
    rw (p.1, p.2) (name_fails c.args.species.now c.args.known.now c.args.line.now _ enough (ap (new_name_in c.args.known.now) (sym c.word_at.ensures) ∙ failed))

pub returns-in_err-unless-2-clause-rule : goal.returns-in_err-unless-2-clause-rule
returns-in_err-unless-2-clause-rule c =
    let p = err_from_is_err_and c.from_residual-in_err-unless-2.result c.from_residual-in_err-unless-2.ensures.1 in
    let enough = rw c.len.ensures at c.in_ok-unless.ensures.holds in
    let named = ap (new_name_in c.args.known.now) (sym c.word_at.ensures) ∙ c.in_ok-name.ensures.rule in
    let failed = rw c.len-2.ensures at c.in_err-unless-2.ensures.fault in
    rw (p.1, p.2) (products_fail c.args.species.now c.args.known.now c.args.line.now _ _ _ enough named c.in_ok-reactants.ensures failed)

pub returns-in_err-unless-3-clause-rule : goal.returns-in_err-unless-3-clause-rule
returns-in_err-unless-3-clause-rule c =
    let p = err_from_is_err_and c.from_residual-in_err-unless-3.result c.from_residual-in_err-unless-3.ensures.1 in
    let enough = rw c.len.ensures at c.in_ok-unless.ensures.holds in
    let named = ap (new_name_in c.args.known.now) (sym c.word_at.ensures) ∙ c.in_ok-name.ensures.rule in
    let few = rw c.len-2.ensures at c.in_ok-unless-2.ensures.holds in
    let failed = rw c.len-3.ensures at c.in_err-unless-3.ensures.fault in
    rw (p.1, p.2) (reactions_fail c.args.species.now c.args.known.now c.args.line.now _ _ _ enough named c.in_ok-reactants.ensures few failed)

pub returns-clause-sound : goal.returns-clause-sound
returns-clause-sound c =
    let enough = rw c.len.ensures at c.in_ok-unless.ensures.holds in
    let named = ap (new_name_in c.args.known.now) (sym c.word_at.ensures) ∙ c.in_ok-name.ensures.rule in
    let few = rw c.len-2.ensures at c.in_ok-unless-2.ensures.holds in
    let room = rw c.len-3.ensures at c.in_ok-unless-3.ensures.holds in
    let given = given_is c.args.species.now c.args.known.now c.args.line.now _ (reaction_is c.args.species.now c.args.known.now c.args.line.now _ _ enough named c.in_ok-reactants.ensures few room) in
    rw c.in_ok-from_text.ensures given.sound
