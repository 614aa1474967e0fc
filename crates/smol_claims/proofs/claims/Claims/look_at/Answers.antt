use Rattle.std.proofs.Common.{◌≡◌, ◌<◌, length, refl, sym, ◌∙◌, ap, subst, arith}
use Rattle.smol_claims.specs.Task.{Task}
use Rattle.smol_claims.specs.Layout.{decision_at, claim_word_count}
use Rattle.smol_claims.specs.Plays.{LooksAt}
use Rattle.smol_claims.specs.KeptClaims.{task_of}
use Rattle.smol_claims.proofs.LookLemmas.{looks}
use Rattle.smol_claims.proofs.SitLemmas.{SitsAt-still, IsSameSeat-as}
use Rattle.smol_claims.proofs.claims.Claims.look_at.Goals as goal

pub load-requires : goal.load-requires
load-requires c =
    let is : c.args.self.now ≡ task_of c.self.inside = sym c.self.view_is in
    let inside : c.args.pair < length c.self.inside.terms.plan = subst (λ (t : Task). c.args.pair < length t.pairs) is c.requires.pair in
    let place : c.decision_at-place.result ≡ decision_at c.self.inside.terms.plan c.args.pair = c.decision_at-place.ensures.value ∙ ap (λ (t : Task). decision_at t.pairs c.args.pair) is in (
      c.requires.sits.at ∙ ap (λ t. t.table) is,
      omega (arith, c.self.invariant.words, c.decision_at-place.ensures.inside, ap (λ (t : Task). claim_word_count t.pairs) is),
      rw (c.self.invariant.key, place) (looks c.self.inside.terms.plan c.self.inside.terms.workers _ _ c.args.seat.now.me c.args.pair c.requires.sits.share (c.requires.sits.pairs ∙ ap (λ t. t.pairs) is) inside),
    )

pub returns-clause-looks : goal.returns-clause-looks
returns-clause-looks c =
    c.load.ensures.2.1 c.args.pair (subst (λ ps. c.args.pair < length ps) (sym c.requires.sits.pairs) c.requires.pair) (c.decision_at-place.ensures.value ∙ ap (λ ps. decision_at ps c.args.pair) (sym c.requires.sits.pairs))

pub returns-clause-sits : goal.returns-clause-sits
returns-clause-sits c =
    let told : LooksAt c.args.seat.now.me.0 c.args.pair c.load.result c.load.new.seat.me.0 = c.load.ensures.2.1 c.args.pair (subst (λ ps. c.args.pair < length ps) (sym c.requires.sits.pairs) c.requires.pair) (c.decision_at-place.ensures.value ∙ ap (λ ps. decision_at ps c.args.pair) (sym c.requires.sits.pairs)) in
    SitsAt-still _ _ c.args.seat.now.me c.load.new.seat.me _ c.requires.sits c.load.ensures.0 (IsSameSeat-as _ _ _ told.view refl refl refl) c.load.ensures.2.0
