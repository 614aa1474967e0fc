use Rattle.std.proofs.Common.{◌≡◌, ◌++◌, ◌∷◌, [], ℕ, List, Option, None, Some, Result, Ok, Err, refl, sym, ap, ◌∙◌}
use Rattle.std.proofs.lemmas.Result.{err_from_is_err_and}
use Rattle.smol_geom.specs.declared.place.Place.{Place}
use Rattle.smol_types.specs.declared.compartment.Compartment.{Compartment}
use Rattle.smol_types.specs.declared.fault.Kind.{Kind}
use Rattle.smol_line.specs.LookingBack.{say}
use Rattle.smol_blocks.specs.BlockText.{InBlock, says, ends}
use Rattle.smol_blocks.specs.Compartment.{CompartmentSaid, bounded, holds}
use Rattle.smol_blocks.proofs.compartment_block.read_statement.Goals as goal

pub returns-in_ok-push-in-Surface : goal.returns-in_ok-push-in-Surface
returns-in_ok-push-in-Surface c = record {
  reads = λ said h. (
    says (bounded c.in_ok-surface-in-Surface.surface),
    rw c.in-Surface.is (ap (say (λ surface. says (bounded surface))) (sym (c.in_ok-surface-in-Surface.ensures.rule said h))),
    refl,
    ap (λ (s : List ℕ). record c.args.compartment.now { surfaces = s }) c.in_ok-push-in-Surface.ensures.ok ∙ ap (λ (old : Compartment). record old { surfaces = old.surfaces ++ c.in_ok-surface-in-Surface.surface ∷ [] }) h,
  );
}

pub returns-in_ok-push-in-Point : goal.returns-in_ok-push-in-Point
returns-in_ok-push-in-Point c = record {
  reads = λ said h. (
    says (holds c.in_ok-point-in-Point.point),
    rw c.in-Point.is (ap (say (λ point. says (holds point))) (sym (c.in_ok-point-in-Point.ensures.rule said h))),
    refl,
    ap (λ (s : List Place). record c.args.compartment.now { points = s }) c.in_ok-push-in-Point.ensures.ok ∙ ap (λ (old : Compartment). record old { points = old.points ++ c.in_ok-point-in-Point.point ∷ [] }) h,
  );
}

pub returns-in_err-closes_compartment-in-EndCompartment : goal.returns-in_err-closes_compartment-in-EndCompartment
returns-in_err-closes_compartment-in-EndCompartment c =
    let p = err_from_is_err_and c.from_residual-in_err-closes_compartment-in-EndCompartment.result c.from_residual-in_err-closes_compartment-in-EndCompartment.ensures.1 in
    record { reads = rw (p.1, p.2) (λ said h. rw c.in-EndCompartment.is (ap (say (λ (compartment : Compartment). ends)) (c.in_err-closes_compartment-in-EndCompartment.ensures.refused c.in_err-closes_compartment-in-EndCompartment.field-0.0 said refl h))) }
