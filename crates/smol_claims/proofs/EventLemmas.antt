-- Each step of a seat is an event of the machine, or none.
use Rattle.std.proofs.Common.{◌≡◌, get_or, refl, ◌∙◌, ap, ⊎_elim, arith}
use Rattle.std.proofs.lemmas.Bool.{eq-eqb, ne_eqb}
use Rattle.atomic_table.proofs.Lists.{set_else}
use Rattle.smol_claims.specs.View.{has, has_link}
use Rattle.smol_claims.specs.Layout.{slice_at}
use Rattle.smol_claims.specs.declared.view.View.{View}
use Rattle.smol_claims.specs.Law.{OpensFirst, TakeIsEvent, LookIsNoEvent, DecideIsEvent, TellIsEvent, SplitIsNoEvent, JoinIsNoEvent}
use Rattle.smol_claims.proofs.OpenLemmas.{opens, opening_spelled}
use Rattle.smol_claims.proofs.TakeLemmas.{untaken, found_is, take_new, take_new_spelled, take_taken, take_taken_spelled}
use Rattle.smol_claims.proofs.LookLemmas.{look_kept, look_spelled}
use Rattle.smol_claims.proofs.DecideLemmas.{decide_kept, decide_spelled}
use Rattle.smol_claims.proofs.TellLemmas.{tell_kept, tell_spelled}
use Rattle.smol_claims.proofs.SplitLemmas.{split_kept, split_spelled, join_kept, join_spelled}
use Rattle.smol_claims.proofs.SeatLemmas.{view_is}

pub opens_first : OpensFirst
opens_first pairs workers words some fresh =
    (opens pairs workers (omega (arith, some)) words fresh, opening_spelled pairs workers (omega (arith, some)) words fresh)

pub take_is_event : TakeIsEvent
take_is_event pairs workers s id v slice seat inside = ⊎_elim
    (λ (e : get_or s.words (slice_at slice) 0 ≡ 0). rw (eq-eqb (get_or s.words (slice_at slice) 0) 0 e) record { rule = take_new pairs workers s seat.rule id v seat.there seat.share slice inside e; allowed = untaken pairs workers s seat.rule id v seat.there seat.share slice inside e; effect_is = take_new_spelled pairs workers s seat.rule id v seat.there seat.share slice inside })
    (λ (e : get_or s.words (slice_at slice) 0 ≡ 1). rw (ne_eqb (get_or s.words (slice_at slice) 0) 0 (λ z. omega (arith, e, z))) record { rule = take_taken pairs workers s seat.rule id v seat.there seat.share slice inside e; same = take_taken_spelled pairs workers s seat.rule id v seat.there seat.share slice inside e })
    (found_is pairs workers s seat.rule id v seat.there seat.share slice inside)

pub look_is_no_event : LookIsNoEvent
look_is_no_event pairs workers s id v j seat inside =
    record { rule = look_kept pairs workers s seat.rule id v seat.there seat.share j inside; same = look_spelled pairs workers s seat.rule id v seat.there seat.share j inside }

pub decide_is_event : DecideIsEvent
decide_is_event pairs workers s id v j seat holds =
    record {
      rule = decide_kept pairs workers s seat.rule id v seat.there seat.share j _ holds refl;
      allowed = ap (λ (u : View). has u.held j) (view_is s.views id v v seat.there) ∙ holds;
      effect_is = decide_spelled pairs workers s seat.rule id v seat.there seat.share j _ holds refl;
    }

pub tell_is_event : TellIsEvent
tell_is_event pairs workers s id v l seat owed =
    record {
      rule = tell_kept pairs workers s seat.rule id v seat.there seat.share l owed;
      allowed = ap (λ (u : View). has_link u.owed l.pair l.side) (view_is s.views id v v seat.there) ∙ owed;
      effect_is = tell_spelled pairs workers s seat.rule id v seat.there seat.share l owed;
    }

pub split_is_no_event : SplitIsNoEvent
split_is_no_event pairs workers s id v seat more =
    record { rule = split_kept pairs workers s seat.rule id v seat.there more; same = split_spelled pairs workers s seat.rule id v seat.there more }

pub join_is_no_event : JoinIsNoEvent
join_is_no_event pairs workers s id v other w seat apart there none_held none_owed =
    let still = set_else s.views id other _ apart ∙ there in
    record {
      rule = join_kept pairs workers s seat.rule id v seat.there seat.share other w apart still none_held none_owed;
      same = join_spelled pairs workers s seat.rule id v seat.there seat.share other w apart still none_held none_owed;
    }
