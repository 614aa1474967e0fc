use Rattle.std.proofs.Common.{◌≡◌, ◌<◌, length, true, refl, sym, ◌∙◌, ap, subst, arith}
use Rattle.smol_plan.specs.declared.pair.Side.TheVariants.{Low, High}
use Rattle.smol_claims.specs.Task.{Task}
use Rattle.smol_claims.specs.View.{has_link}
use Rattle.smol_claims.specs.Layout.{counter_at, claim_word_count}
use Rattle.smol_claims.specs.Plays.{TellsLink}
use Rattle.smol_claims.specs.KeptClaims.{task_of}
use Rattle.smol_claims.proofs.TellLemmas.{tells}
use Rattle.smol_claims.proofs.SitLemmas.{SitsAt-still, IsSameSeat-as}
use Rattle.smol_claims.proofs.claims.Claims.tell.Goals as goal

pub fetch_sub-requires : goal.fetch_sub-requires
fetch_sub-requires c =
    let is : c.args.self.now ≡ task_of c.self.inside = sym c.self.view_is in
    let place : c.counter_at-place.result ≡ counter_at c.self.inside.terms.plan c.args.pair = c.counter_at-place.ensures.value ∙ ap (λ (t : Task). counter_at t.pairs c.args.pair) is in
    let owes : has_link c.args.seat.now.me.0.owed c.args.pair Low ≡ true = ap (has_link c.args.seat.now.me.0.owed c.args.pair) (sym c.in-Low.is) ∙ c.requires.owes in (
      c.requires.sits.at ∙ ap (λ t. t.table) is,
      omega (arith, c.self.invariant.words, c.counter_at-place.ensures.inside, ap (λ (t : Task). claim_word_count t.pairs) is),
      rw (c.self.invariant.key, place) (tells c.self.inside.terms.plan c.self.inside.terms.workers _ _ c.args.seat.now.me c.args.pair Low c.requires.sits.share (c.requires.sits.pairs ∙ ap (λ t. t.pairs) is) owes),
    )

pub fetch_sub-requires-in-High : goal.fetch_sub-requires-in-High
fetch_sub-requires-in-High c =
    let is : c.args.self.now ≡ task_of c.self.inside = sym c.self.view_is in
    let place : c.counter_at-place.result ≡ counter_at c.self.inside.terms.plan c.args.pair = c.counter_at-place.ensures.value ∙ ap (λ (t : Task). counter_at t.pairs c.args.pair) is in
    let owes : has_link c.args.seat.now.me.0.owed c.args.pair High ≡ true = ap (has_link c.args.seat.now.me.0.owed c.args.pair) (sym c.in-High.is) ∙ c.requires.owes in (
      c.requires.sits.at ∙ ap (λ t. t.table) is,
      omega (arith, c.self.invariant.words, c.counter_at-place.ensures.inside, ap (λ (t : Task). claim_word_count t.pairs) is),
      rw (c.self.invariant.key, place) (tells c.self.inside.terms.plan c.self.inside.terms.workers _ _ c.args.seat.now.me c.args.pair High c.requires.sits.share (c.requires.sits.pairs ∙ ap (λ t. t.pairs) is) owes),
    )

pub returns-in-Low-clause-sits : goal.returns-in-Low-clause-sits
returns-in-Low-clause-sits c =
    let told : TellsLink c.args.seat.now.me.0 (record { pair = c.args.pair; side = Low }) c.fetch_sub.result c.fetch_sub.new.seat.me.0 = c.fetch_sub.ensures.2.1 c.args.pair (subst (λ ps. c.args.pair < length ps) (sym c.requires.sits.pairs) c.requires.pair) (c.counter_at-place.ensures.value ∙ ap (λ ps. counter_at ps c.args.pair) (sym c.requires.sits.pairs)) in
    SitsAt-still _ _ c.args.seat.now.me c.fetch_sub.new.seat.me _ c.requires.sits c.fetch_sub.ensures.0 (IsSameSeat-as _ _ _ told.view refl refl refl) c.fetch_sub.ensures.2.0

pub returns-in-High-clause-sits : goal.returns-in-High-clause-sits
returns-in-High-clause-sits c =
    let told : TellsLink c.args.seat.now.me.0 (record { pair = c.args.pair; side = High }) c.fetch_sub-in-High.result c.fetch_sub-in-High.new.seat.me.0 = c.fetch_sub-in-High.ensures.2.1 c.args.pair (subst (λ ps. c.args.pair < length ps) (sym c.requires.sits.pairs) c.requires.pair) (c.counter_at-place.ensures.value ∙ ap (λ ps. counter_at ps c.args.pair) (sym c.requires.sits.pairs)) in
    SitsAt-still _ _ c.args.seat.now.me c.fetch_sub-in-High.new.seat.me _ c.requires.sits c.fetch_sub-in-High.ensures.0 (IsSameSeat-as _ _ _ told.view refl refl refl) c.fetch_sub-in-High.ensures.2.0
