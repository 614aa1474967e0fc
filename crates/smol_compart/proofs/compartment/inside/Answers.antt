use Rattle.std.proofs.Common.{◌≡◌, ◌^◌, refl, ap, sym, ◌∙◌, subst, length, get_or, Option, Some}
use Rattle.std.specs.Prelude.{slice_get}
use Rattle.std.proofs.lemmas.Option.{slice_get_read}
use Rattle.std.proofs.lemmas.List.Elements.{All-weaker}
use Rattle.smol_types.specs.declared.compartment.Compartment.{Compartment}
use Rattle.smol_types.specs.Compartments.{IsCompartment, IsPoint}
use Rattle.smol_meaning.specs.Inside.{is_inside, is_inside_some}
use Rattle.smol_meaning.specs.Sighted.{IsPlaceWithin}
use Rattle.smol_meaning.proofs.Places.{point_within}
use Rattle.smol_compart.proofs.compartment.inside.Goals as goal

pub is_inside_of-requires-clause-points : goal.is_inside_of-requires-clause-points
is_inside_of-requires-clause-points c =
    let config = c.args.config.now in
    let compartment = c.index-compartments-c.result in
    let sound = c.compartments.ensures.sound in
    let is = subst (IsCompartment config.dims (length config.surfaces)) (sym c.index-compartments-c.is)
    (subst (λ compartments. IsCompartment config.dims (length config.surfaces) (get_or compartments c.args.c compartment)) (sym c.compartments.ensures.value)
    (sound.compartments c.args.c compartment c.requires.compartment)) in
    All-weaker (IsPoint config.dims) (IsPlaceWithin (2 ^ 58)) (point_within config.dims) compartment.points is.points

pub returns : goal.returns
unfolding is_inside
returns c =
    let config = c.args.config.now in
    let compartment = c.index-compartments-c.result in
    let at : slice_get config.compartments c.args.c ≡ Some compartment =
    slice_get_read config.compartments (length config.compartments) c.args.c compartment refl c.requires.compartment (cc) in
    c.is_inside_of.ensures ∙ ap (λ (found : Option Compartment). is_inside_some config.panels found c.args.p.now) (sym at)
