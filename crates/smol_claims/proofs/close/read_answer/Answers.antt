use Rattle.std.proofs.Common.{◌≡◌, ◌+◌, ◌<◌, false, length, length-set, get_or, get_or-set_same, get_or-set_other, Some, None, sym, ◌∙◌, ap, arith, below_more}
use Rattle.std.specs.Mem.Slots.{slots_items}
use Rattle.std.proofs.lemmas.List.{ext_get_or}
use Rattle.smol_plan.specs.Matching.{fires}
use Rattle.smol_plan.proofs.MatchingLemmas.{length-serial_from}
use Rattle.smol_claims.specs.Layout.{decision_at}
use Rattle.smol_claims.specs.Code.{decision_in, serial_decision}
use Rattle.smol_claims.proofs.SeatLemmas.{seat_view}
use Rattle.smol_claims.proofs.close.read_answer.Goals as goal
use Rattle.smol_claims.proofs.close.read_answer.Goals.{in-Some, in-None}

pub loop-pair-preserved : goal.loop-pair-preserved
loop-pair-preserved c =
    let h = c.loop-pair.invariant in
    let inside : c.loop-pair.pair < length c.args.plan.now = omega arith in
    let place : 1 + c.slices.result + c.len.result + c.loop-pair.pair ≡ decision_at c.args.plan.now c.loop-pair.pair = omega (arith, c.slices.ensures, c.len.ensures) in
    let word : get_or (slots_items c.args.closed.now.words) (1 + c.slices.result + c.len.result + c.loop-pair.pair) 0 ≡ c.word.result = seat_view (slots_items c.args.closed.now.words) (1 + c.slices.result + c.len.result + c.loop-pair.pair) c.word.result 0 c.word.ensures in
    let says : decision_in c.word.result ≡ Some (serial_decision c.args.plan.now c.loop-pair.pair) = ap decision_in (sym word ∙ ap (λ i. get_or (slots_items c.args.closed.now.words) i 0) place) ∙ c.requires.decided c.loop-pair.pair inside in
    let value : c.match-decision_in.value ≡ fires c.args.plan.now c.loop-pair.pair = elim c.match-decision_in.branch [
      | in-Some w ↦ let both : Some w.in-Some.decision ≡ Some (serial_decision c.args.plan.now c.loop-pair.pair) = w.in-Some.ensures ∙ says in
          let same : w.in-Some.decision ≡ serial_decision c.args.plan.now c.loop-pair.pair = cc in
          w.value-is ∙ ap (λ d. d.fired) same
      | in-None w ↦ let wrong : None ≡ Some (serial_decision c.args.plan.now c.loop-pair.pair) = w.in-None.ensures ∙ says in
          cc
    ] in
    record {
      as_many = length-set c.loop-pair.answer.items c.loop-pair.pair c.match-decision_in.value ∙ h.as_many;
      fired = below_more _ _ (λ k l. let n : k ≡ c.loop-pair.pair → ⊥ = omega arith in get_or-set_other c.loop-pair.answer.items c.loop-pair.pair k c.match-decision_in.value false n ∙ h.fired k l) (get_or-set_same c.loop-pair.answer.items c.loop-pair.pair c.match-decision_in.value false (omega (arith, inside, h.as_many)) ∙ value);
    }

pub returns : goal.returns
returns c =
    let h = c.loop-pair.invariant in
    record { serial = ext_get_or false c.loop-pair.answer.items _ (h.as_many ∙ sym (length-serial_from _ c.args.plan.now)) (λ i l. h.fired i (omega (arith, l, h.as_many))) }
