use Rattle.std.proofs.Common.{◌≡◌, ◌≤◌, length, drop, ◌∙◌, arith}
use Rattle.std.proofs.lemmas.List.{drop_all}
use Rattle.std.proofs.lemmas.Result.{err_from_is_err_and}
use Rattle.smol_text.specs.Spans.{stated_lines}
use Rattle.smol_config.specs.Reader.{config_from}
use Rattle.smol_config.specs.Whole.{whole_in}
use Rattle.smol_config.proofs.Reading.{config_from-whole, ready, told_behind, whole_accepted, whole_refused}
use Rattle.smol_config.proofs.reader.read_lines.Goals as goal

pub read-requires-clause-ready : goal.read-requires-clause-ready
read-requires-clause-ready c = let read = c.loop-at.invariant.read in ready c.loop-at.tables read.0 read.1 read.2

pub loop-at-preserved : goal.loop-at-preserved
loop-at-preserved c =
    let before = c.loop-at.invariant.read in
    let after = c.in_ok-at.ensures.reads before.0 before.1 before.2 in
    record { within = c.in_ok-at.ensures.next.1; read = (after.0, after.1, after.2, before.3 ∙ after.3) }

pub returns-in_err-at-clause-refused : goal.returns-in_err-at-clause-refused
returns-in_err-at-clause-refused c =
    let p = err_from_is_err_and c.from_residual.result c.from_residual.ensures.1 in
    let before = c.loop-at.invariant.read in
    rw (p.1, p.2)
    (told_behind c.in_err-at.field-0.0 (stated_lines c.args.text.now) (drop c.loop-at.at (stated_lines c.args.text.now)) before.0 before.3 (c.in_err-at.ensures.reads before.0 before.1 before.2))

-- what all lines say is what the whole says behind the last line
ended : (c : goal.After-finish_whole) → config_from (stated_lines c.args.text.now) ≡ whole_in c.loop-at.invariant.read.0
ended c =
    let lines = stated_lines c.args.text.now in
    let passed : length lines ≤ c.loop-at.at = omega arith in
    let read = c.loop-at.invariant.read in
    config_from-whole lines (drop c.loop-at.at lines) read.0 read.3 (drop_all c.loop-at.at lines passed)

pub returns-clause-accepted : goal.returns-clause-accepted
returns-clause-accepted c =
    whole_accepted (stated_lines c.args.text.now) c.loop-at.invariant.read.0 c.loop-at.tables c.finish_whole.result (ended c) c.loop-at.invariant.read.1 c.finish_whole.ensures.accepted

pub returns-clause-refused : goal.returns-clause-refused
returns-clause-refused c =
    whole_refused (stated_lines c.args.text.now) c.loop-at.invariant.read.0 c.loop-at.tables c.finish_whole.result (ended c) c.loop-at.invariant.read.1 c.finish_whole.ensures.refused
