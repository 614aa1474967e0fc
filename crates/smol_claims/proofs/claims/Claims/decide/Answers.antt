use Rattle.std.proofs.Common.{◌≡◌, ◌<◌, length, refl, sym, ◌∙◌, ap, subst, arith}
use Rattle.smol_claims.specs.Task.{Task}
use Rattle.smol_claims.specs.Layout.{decision_at, claim_word_count}
use Rattle.smol_claims.specs.Code.{code_of, serial_decision}
use Rattle.smol_claims.specs.Plays.{Decides}
use Rattle.smol_claims.specs.KeptClaims.{task_of}
use Rattle.smol_claims.proofs.DecideLemmas.{decides}
use Rattle.smol_claims.proofs.SitLemmas.{SitsAt-still, IsSameSeat-as}
use Rattle.smol_claims.proofs.claims.Claims.decide.Goals as goal

pub swap-requires : goal.swap-requires
swap-requires c =
    let is : c.args.self.now ≡ task_of c.self.inside = sym c.self.view_is in
    let place : c.decision_at-place.result ≡ decision_at c.self.inside.terms.plan c.args.pair = c.decision_at-place.ensures.value ∙ ap (λ (t : Task). decision_at t.pairs c.args.pair) is in
    let code : c.code_of.result ≡ code_of (serial_decision c.self.inside.terms.plan c.args.pair) = c.code_of.ensures ∙ ap code_of (c.requires.serial ∙ ap (λ (t : Task). serial_decision t.pairs c.args.pair) is) in (
      c.requires.sits.at ∙ ap (λ t. t.table) is,
      omega (arith, c.self.invariant.words, c.decision_at-place.ensures.inside, ap (λ (t : Task). claim_word_count t.pairs) is),
      rw (c.self.invariant.key, place) (decides c.self.inside.terms.plan c.self.inside.terms.workers _ _ c.args.seat.now.me c.args.pair c.code_of.result c.requires.sits.share (c.requires.sits.pairs ∙ ap (λ t. t.pairs) is) c.requires.holds code),
    )

pub returns-clause-sits : goal.returns-clause-sits
returns-clause-sits c =
    let told : Decides c.args.seat.now.me.0 c.args.pair c.swap.new.seat.me.0 = c.swap.ensures.2.1 c.args.pair (subst (λ ps. c.args.pair < length ps) (sym c.requires.sits.pairs) c.requires.pair) (c.decision_at-place.ensures.value ∙ ap (λ ps. decision_at ps c.args.pair) (sym c.requires.sits.pairs)) in
    SitsAt-still _ _ c.args.seat.now.me c.swap.new.seat.me _ c.requires.sits c.swap.ensures.0 (IsSameSeat-as _ _ _ told.view refl refl refl) c.swap.ensures.2.0
