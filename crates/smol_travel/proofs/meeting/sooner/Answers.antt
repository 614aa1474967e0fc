use Rattle.std.proofs.Common.{ap, ◌∙◌, arith}
use Rattle.smol_travel.specs.Legs.{meets}
use Rattle.smol_travel.proofs.Looking.{next_met, next_same, some_or, stands_at}
use Rattle.smol_travel.proofs.meeting.sooner.Goals as goal

pub returns-in-Some : goal.returns-in-Some
returns-in-Some c = λ bound left old.
    let draft = c.args.panels.now in
    let leg = c.args.leg.now in
    let here = stands_at draft c.sheets-sheets.result.now c.args.number _ c.sheets-sheets.ensures.value (omega (arith, c.requires.number, c.sheets-sheets.ensures.count)) in
    rw c.earlier.ensures
    (next_met draft leg c.args.last.now bound c.args.number left c.args.next c.in-Some.met old c.in-Some.ensures.later
    (λ m h met. ap (some_or c.in-Some.met) (c.in-Some.ensures.only m h (ap (meets leg m) here ∙ met))))

pub returns-in_default : goal.returns-in_default
returns-in_default c = λ bound left old.
    let draft = c.args.panels.now in
    let leg = c.args.leg.now in
    let here = stands_at draft c.sheets-sheets.result.now c.args.number _ c.sheets-sheets.ensures.value (omega (arith, c.requires.number, c.sheets-sheets.ensures.count)) in
    next_same draft leg c.args.last.now bound c.args.number left c.args.next old
    (λ m h met. c.in_default.not-Some m (c.meeting.ensures.only m h (ap (meets leg m) here ∙ met)))
