use Rattle.std.proofs.Common.{sym, ◌∙◌, ap, subst, arith}
use Rattle.smol_geom.specs.Moments.{moments, moments_after}
use Rattle.smol_meaning.specs.declared.way.Standing.TheVariants.{Goes}
use Rattle.smol_meaning.specs.declared.way.Travelled.TheVariants.{At}
use Rattle.smol_meaning.specs.Moves.{EndsWithin}
use Rattle.smol_meaning.specs.Seen.{plates_of}
use Rattle.smol_meaning.specs.Way.{after_moments, ended, straight, way_among}
use Rattle.smol_meaning.specs.Box.{EndsInside}
use Rattle.smol_meaning.proofs.Confined.{confined}
use Rattle.smol_meaning.proofs.Crossings.{crosses_none}
use Rattle.smol_meaning.proofs.Ends.{straight_fits, way_ends_within}
use Rattle.smol_meaning.proofs.Seeing.{plates_fit}
use Rattle.smol_travel.specs.declared.leg.Leg.{Leg}
use Rattle.smol_travel.proofs.Walking.{after_beginning, step_on, fewer_left, stays, gone_stays}
use Rattle.smol_travel.proofs.walk.travel.Goals as goal

pub loop-next-init : goal.loop-next-init
loop-next-init c =
    record {
      fits = straight_fits c.args.panels.now.dims c.args.from c.args.by c.requires.moving;
      known = c.requires.species;
      positive = omega arith;
      rest = ap (λ ms. after_moments (plates_of c.args.panels.now) c.args.from c.args.by (Goes straight c.args.species) ms) (after_beginning c.args.from c.args.by);
    }

pub loop-next-preserved : goal.loop-next-preserved
loop-next-preserved c =
    let plates = plates_of c.args.panels.now in
    let leg : Leg = record { from = c.args.from; by = c.args.by; fold = c.loop-next.fold } in
    let left = moments_after c.in-Some.next (moments c.args.from c.args.by) in
    let before = c.in-Some.ensures.next in
    let made = ap (λ s. after_moments plates c.args.from c.args.by s left) c.in-Goes.ensures.value in
    let stepped = step_on plates leg c.loop-next.present c.loop-next.last c.loop-next.invariant.positive c.in-Some.next before in
    record {
      fits = c.in-Goes.ensures.fits;
      known = c.in-Goes.ensures.known;
      positive = omega (arith, before.is_later.moment.begun, before.is_later.moment.unfinished);
      rest = made ∙ sym stepped ∙ c.loop-next.invariant.rest;
    }

pub loop-next-smaller : goal.loop-next-smaller
loop-next-smaller c =
    let leg : Leg = record { from = c.args.from; by = c.args.by; fold = c.loop-next.fold } in
    fewer_left (plates_of c.args.panels.now) leg c.loop-next.present c.loop-next.last c.loop-next.invariant.positive c.in-Some.next c.in-Some.ensures.next.is_later

pub returns-in-Gone-clause-way : goal.returns-in-Gone-clause-way
unfolding way_among
returns-in-Gone-clause-way c =
    let plates = plates_of c.args.panels.now in
    let leg : Leg = record { from = c.args.from; by = c.args.by; fold = c.loop-next.fold } in
    let left = moments_after c.in-Some.next (moments c.args.from c.args.by) in
    let made = ap (λ s. after_moments plates c.args.from c.args.by s left) c.in-Gone.ensures.value in
    let stepped = step_on plates leg c.loop-next.present c.loop-next.last c.loop-next.invariant.positive c.in-Some.next c.in-Some.ensures.next in
    let ends = sym (gone_stays plates c.args.from c.args.by c.in-Gone.number left) in
    ap (ended c.args.from c.args.by) (ends ∙ made ∙ sym stepped ∙ c.loop-next.invariant.rest)

pub returns-clause-way : goal.returns-clause-way
unfolding way_among
returns-clause-way c =
    let leg : Leg = record { from = c.args.from; by = c.args.by; fold = c.loop-next.fold } in
    let same = stays (plates_of c.args.panels.now) leg c.loop-next.present c.loop-next.last c.in_default.ensures.next in
    ap (λ p. At p c.loop-next.present) c.end_of.ensures ∙ ap (ended c.args.from c.args.by) (sym same ∙ c.loop-next.invariant.rest)

pub returns-in-Gone-clause-crosses_none : goal.returns-in-Gone-clause-crosses_none
returns-in-Gone-clause-crosses_none c = crosses_none (plates_of c.args.panels.now) c.args.species c.args.from c.args.by

pub returns-clause-crosses_none : goal.returns-clause-crosses_none
returns-clause-crosses_none c = crosses_none (plates_of c.args.panels.now) c.args.species c.args.from c.args.by

pub returns-clause-end : goal.returns-clause-end
returns-clause-end c =
    subst (EndsWithin c.args.panels.now.dims c.args.from c.args.by) (sym (returns-clause-way c))
    (way_ends_within c.args.panels.now c.args.species c.args.from c.args.by c.in_default.ensures.sound c.requires.moving)

pub returns-in-Gone-clause-confined : goal.returns-in-Gone-clause-confined
returns-in-Gone-clause-confined c = λ among box kin closed start.
    confined c.args.panels.now.dims (plates_of c.args.panels.now) among box c.args.from c.args.by c.requires.moving
    (plates_fit c.args.panels.now c.in-Some.ensures.sound) closed c.args.species kin start

pub returns-clause-confined : goal.returns-clause-confined
returns-clause-confined c = λ among box kin closed start.
    confined c.args.panels.now.dims (plates_of c.args.panels.now) among box c.args.from c.args.by c.requires.moving
    (plates_fit c.args.panels.now c.in_default.ensures.sound) closed c.args.species kin start

pub returns-clause-inside : goal.returns-clause-inside
returns-clause-inside c = λ among box kin closed start.
    let held = confined c.args.panels.now.dims (plates_of c.args.panels.now) among box c.args.from c.args.by c.requires.moving
    (plates_fit c.args.panels.now c.in_default.ensures.sound) closed c.args.species kin start in
    subst (EndsInside box) (sym (returns-clause-way c)) held.end
