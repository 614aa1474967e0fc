use Rattle.std.proofs.Common.{IfOk, sym, subst, ◌∙◌, ap}
use Rattle.smol_meaning.specs.Stretch.{Stretch}
use Rattle.smol_commands.specs.Performs.{Performs}
use Rattle.smol_commands.proofs.Effects.{left_fits, left_serials, performed_by_tests, performs_idle}
use Rattle.smol_commands.proofs.acting.perform.Goals as goal

pub returns-then-not-all_hold-clause-performed : goal.returns-then-not-all_hold-clause-performed
returns-then-not-all_hold-clause-performed c =
    let tested = rw (c.as_slice.ensures, c.as_slice-2.ensures) at c.all_hold.ensures in
    performs_idle _ _ _
    (sym (performed_by_tests c.args.config.now c.args.streams.now c.args.c c.args.state.now c.commands.result.now c.index-commands-c.result _
    c.commands.ensures.value c.requires.command c.index-commands-c.is (sym tested ∙ c.if-not-all_hold.true)))

pub returns-clause-performed : goal.returns-clause-performed
returns-clause-performed c =
    let tested = rw (c.as_slice.ensures, c.as_slice-2.ensures) at c.all_hold.ensures in
    subst (λ (stretch : Stretch). IfOk c.act.result (Performs stretch c.act.new.state c.args.out.now c.act.new.out))
    (sym (performed_by_tests c.args.config.now c.args.streams.now c.args.c c.args.state.now c.commands.result.now c.index-commands-c.result _
    c.commands.ensures.value c.requires.command c.index-commands-c.is (sym tested ∙ c.if-not-all_hold.false)))
    c.act.ensures.performed

pub returns-clause-too_many : goal.returns-clause-too_many
returns-clause-too_many c told =
    let tested = rw (c.as_slice.ensures, c.as_slice-2.ensures) at c.all_hold.ensures in
    ap (λ (stretch : Stretch). stretch.ending)
    (performed_by_tests c.args.config.now c.args.streams.now c.args.c c.args.state.now c.commands.result.now c.index-commands-c.result _
    c.commands.ensures.value c.requires.command c.index-commands-c.is (sym tested ∙ c.if-not-all_hold.false))
    ∙ c.act.ensures.too_many told

pub returns-clause-fits : goal.returns-clause-fits
returns-clause-fits c =
    left_fits c.args.config.now c.args.streams.now c.args.c c.args.state.now c.act.new.state c.args.out.now c.act.new.out c.act.result
    c.commands.ensures.sound c.requires.fits c.requires.next (returns-clause-performed c)

pub returns-clause-serials : goal.returns-clause-serials
returns-clause-serials c =
    left_serials c.args.config.now c.args.streams.now c.args.c c.args.state.now c.act.new.state c.args.out.now c.act.new.out c.act.result
    c.commands.ensures.sound c.requires.fits c.requires.next (returns-clause-performed c)
