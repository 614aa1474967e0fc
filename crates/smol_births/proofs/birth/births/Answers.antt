use Rattle.std.proofs.Common.{◌≡◌, ◌+◌, All, [], ◌++◌, List, length, get_or, arith, ap, sym, ◌∙◌, subst, refl}
use Rattle.std.proofs.lemmas.Grind.{common_steps}
use Rattle.std.proofs.lemmas.List.{get_or_default}
use Rattle.std.proofs.lemmas.Option.{slice_get_read}
use Rattle.smol_meaning.specs.declared.event.Birth.{Birth}
use Rattle.smol_meaning.specs.declared.event.Fired.{Fired}
use Rattle.smol_meaning.specs.Births.{IsBirth}
use Rattle.smol_meaning.specs.Events.{births_of}
use Rattle.smol_meaning.proofs.Births.{births_of_are}
use Rattle.smol_births.proofs.Born.{born_more, count_more, made_by}
use Rattle.smol_births.proofs.birth.births.Goals as goal

pub loop-event-preserved : goal.loop-event-preserved
loop-event-preserved c =
    let config = c.args.config.now in
    let events = c.args.events.now in
    let i = c.loop-event.event-index in
    let old = c.loop-event.births.items in
    let serial = c.args.next + c.len.result in
    let none : Fired = record { reaction = 0; start = record { 0 = [] }; axis = 0 } in
    let event = get_or events i none in
    let is : event ≡ get_or events i event = get_or_default events i none event c.loop-event-test.true in
    let of_event = c.requires.events i none c.loop-event-test.true in
    let found = slice_get_read config.reactions (length config.reactions) event.reaction c.index-reactions-event.result refl of_event.reaction
    (rw c.reactions-reactions.ensures.value at c.index-reactions-event.is) in
    let made = c.in_ok-bear.ensures ∙ ap (λ (births : List Birth). old ++ births) (made_by config event c.index-reactions-event.result serial found) in
    let here : serial ≡ c.args.next + length old = grind (arith, common_steps) in
    record {
      born = born_more config c.args.next serial i events event old c.bear.new.births.items (births_of config c.args.next events) c.loop-event-test.true is here made c.loop-event.invariant.born;
      count = count_more config c.reactions-reactions.ensures.sound serial i event old c.bear.new.births.items of_event made c.loop-event.invariant.count;
    }

pub returns-clause-each : goal.returns-clause-each
returns-clause-each c =
    let config = c.args.config.now in
    let events = c.args.events.now in
    let born : c.loop-event.births.items ≡ births_of config c.args.next events = grind (arith, common_steps) in
    subst (λ (births : List Birth). All (IsBirth config) births) (sym born) (births_of_are config c.reactions-reactions.ensures.sound c.args.next events c.requires.events)
