use Rattle.std.proofs.Common.{◌≡◌, ◌+◌, ◌-◌, suc, length, sym, ap, ◌∙◌, arith}
use Rattle.std.proofs.lemmas.Result.{err_from_is_err_and}
use Rattle.smol_text.specs.Reading.{words_of}
use Rattle.smol_cmd.specs.Cmd.{command_in}
use Rattle.smol_cmd.specs.Act.{act_in}
use Rattle.smol_cmd.specs.Test.{condition_in, test_in}
use Rattle.smol_cmd.proofs.Commanded.{act_fails, behind_tests, carried, is_below, is_past, none_is, test_fails, test_is_next}
use Rattle.smol_cmd.proofs.cmd.command_in.Goals as goal

pub returns-in_err-unless : goal.returns-in_err-unless
returns-in_err-unless c =
    let p = err_from_is_err_and c.from_residual.result c.from_residual.ensures.1 in
    let count = length (words_of c.args.line.now) in
    let past = is_past c.loop.at c.len.result count _ c.in_err-unless.ensures.fault c.len.ensures in
    rw (p.1, p.2, past.1)
    (c.loop.invariant ∙ ap (behind_tests c.loop.tests) (none_is (count - c.loop.counter) c.args.known.now c.args.line.now c.loop.at past.0))

pub returns-in_err-act-in-None : goal.returns-in_err-act-in-None
returns-in_err-act-in-None c =
    let p = err_from_is_err_and c.from_residual-in_err-act-in-None.result c.from_residual-in_err-act-in-None.ensures.1 in
    let known = c.args.known.now in
    let line = c.args.line.now in
    let count = length (words_of line) in
    let end : c.len-end.result ≡ count = c.len-end.ensures in
    let more : count - c.loop.counter ≡ suc (count - (c.loop.counter + 1)) = omega arith in
    let within = is_below c.loop.at c.len.result count c.in_ok-unless.ensures.holds c.len.ensures in
    let is = ap condition_in (sym c.word.ensures) ∙ sym c.condition_in.ensures ∙ c.in-None.is in
    rw (p.1, p.2)
    (carried (act_in known line c.loop.at) (command_in count known line c.args.first) _
    (λ kind fails. c.loop.invariant
    ∙ ap (λ left. behind_tests c.loop.tests (command_in left known line c.loop.at)) more
    ∙ act_fails (count - (c.loop.counter + 1)) known line c.loop.at c.loop.tests kind within is fails)
    c.in_err-act-in-None.ensures)

pub returns-in_err-test_in-in-Some : goal.returns-in_err-test_in-in-Some
returns-in_err-test_in-in-Some c =
    let p = err_from_is_err_and c.from_residual-in_err-test_in-in-Some.result c.from_residual-in_err-test_in-in-Some.ensures.1 in
    let known = c.args.known.now in
    let line = c.args.line.now in
    let count = length (words_of line) in
    let end : c.len-end.result ≡ count = c.len-end.ensures in
    let more : count - c.loop.counter ≡ suc (count - (c.loop.counter + 1)) = omega arith in
    let within = is_below c.loop.at c.len.result count c.in_ok-unless.ensures.holds c.len.ensures in
    let is = ap condition_in (sym c.word.ensures) ∙ sym c.condition_in.ensures ∙ c.in-Some.is in
    rw (p.1, p.2)
    (carried (test_in c.in-Some.condition c.species.result.now line c.loop.at) (command_in count known line c.args.first) _
    (λ kind fails. c.loop.invariant
    ∙ ap (λ left. behind_tests c.loop.tests (command_in left known line c.loop.at)) more
    ∙ test_fails (count - (c.loop.counter + 1)) known line c.loop.at c.loop.tests c.in-Some.condition kind within is
    (ap (λ species. test_in c.in-Some.condition species line c.loop.at) (sym c.species.ensures) ∙ fails))
    c.in_err-test_in-in-Some.ensures.rule)

pub loop-preserved : goal.loop-preserved
loop-preserved c =
    let count = length (words_of c.args.line.now) in
    let end : c.len-end.result ≡ count = c.len-end.ensures in
    let more : count - c.loop.counter ≡ suc (count - (c.loop.counter + 1)) = omega arith in
    let within = is_below c.loop.at c.len.result count c.in_ok-unless.ensures.holds c.len.ensures in
    let is = ap condition_in (sym c.word.ensures) ∙ sym c.condition_in.ensures ∙ c.in-Some.is in
    let does = ap (λ species. test_in c.in-Some.condition species c.args.line.now c.loop.at) (sym c.species.ensures) ∙ c.in_ok-test_in-in-Some.ensures.rule in
    let pushed = c.in_ok-push-in-Some.ensures.ok in
    rw (pushed, c.condition_words.ensures)
    (c.loop.invariant
    ∙ ap (λ left. behind_tests c.loop.tests (command_in left c.args.known.now c.args.line.now c.loop.at)) more
    ∙ test_is_next (count - (c.loop.counter + 1)) c.args.known.now c.args.line.now c.loop.at c.loop.tests c.in-Some.condition _ within is does)
