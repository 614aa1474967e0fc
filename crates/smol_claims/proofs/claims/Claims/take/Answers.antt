use Rattle.std.proofs.Common.{◌≡◌, ◌<◌, refl, sym, ◌∙◌, ap, subst, arith}
use Rattle.smol_plan.specs.Machine.{slice_count}
use Rattle.smol_claims.specs.Task.{Task}
use Rattle.smol_claims.specs.Plays.{TakesSlice}
use Rattle.smol_claims.specs.KeptClaims.{task_of}
use Rattle.smol_claims.proofs.TakeLemmas.{takes}
use Rattle.smol_claims.proofs.SitLemmas.{SitsAt-still, IsSameSeat-as}
use Rattle.smol_claims.proofs.claims.Claims.take.Goals as goal

pub swap-requires : goal.swap-requires
swap-requires c =
    let is : c.args.self.now ≡ task_of c.self.inside = sym c.self.view_is in
    let inside : c.args.slice < slice_count c.self.inside.terms.plan = subst (λ (t : Task). c.args.slice < slice_count t.pairs) is c.requires.slice in (
      c.requires.sits.at ∙ ap (λ t. t.table) is,
      omega (arith, c.self.invariant.words, inside),
      rw c.self.invariant.key (takes c.self.inside.terms.plan c.self.inside.terms.workers _ _ c.args.seat.now.me c.args.slice c.requires.sits.share inside),
    )

pub returns-clause-sits : goal.returns-clause-sits
returns-clause-sits c =
    let told : TakesSlice c.args.seat.now.me.0 c.args.slice c.swap.result c.swap.new.seat.me.0 = c.swap.ensures.2.1 c.args.slice (subst (λ ps. c.args.slice < slice_count ps) (sym c.requires.sits.pairs) c.requires.slice) refl in
    SitsAt-still _ _ c.args.seat.now.me c.swap.new.seat.me _ c.requires.sits c.swap.ensures.0 (IsSameSeat-as _ _ _ told.view refl refl refl) c.swap.ensures.2.0
