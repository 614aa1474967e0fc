use Rattle.std.proofs.Common.{◌≡◌, ◌+◌, ◌*◌, ◌≤◌, ◌∙◌, ap, sym, subst, pos, ℤ, ◌+ℤ◌, ◌*ℤ◌, unsigned_abs, FitsSigned, w64, arith}
use Rattle.std.proofs.lemmas.Int.{ints, to_z-of_z, fits_signed_from_abs}
use Rattle.smol_geom.specs.Axes.{IsEven}
use Rattle.smol_streams.specs.Displacement.{floor_of, scaled}
use Rattle.smol_streams.proofs.Scales.{product_size, scaled_even, scaled_size}
use Rattle.smol_streams.proofs.displacement.scale.Goals as goal

pub rounded-requires : goal.rounded-requires
rounded-requires c =
    let product = product_size c.args.g c.args.s c.requires in
    let weighed = c.weighed.ensures ∙ ap (λ (z : ℤ). pos c.args.s *ℤ z) (to_z-of_z w64 c.args.g c.ranges.g) in
    let size : unsigned_abs c.weighed.result ≤ c.args.s * 393210 = rw weighed product in
    omega (arith, ints)

pub returns-clause-value : goal.returns-clause-value
returns-clause-value c =
    let weighed = c.weighed.ensures ∙ ap (λ (z : ℤ). pos c.args.s *ℤ z) (to_z-of_z w64 c.args.g c.ranges.g) in
    let weighed_fits : FitsSigned w64 c.weighed.result = record { sfits = c.weighed.type_inv } in
    let rounded : c.rounded.result ≡ floor_of (c.weighed.result +ℤ pos 32768) 65536 = simp to_z-of_z at c.rounded.ensures in
    let rounded_fits : FitsSigned w64 c.rounded.result = record { sfits = c.rounded.type_inv } in
    let twice : pos 2 *ℤ c.rounded.result ≡ scaled c.args.g c.args.s =
    ap (λ (z : ℤ). pos 2 *ℤ z) (rounded ∙ ap (λ (z : ℤ). floor_of (z +ℤ pos 32768) 65536) weighed) in
    let size : unsigned_abs (pos 2 *ℤ c.rounded.result) ≤ 12 * c.args.s + 2 = rw twice (scaled_size c.args.g c.args.s c.requires) in
    let twice_fits : FitsSigned w64 (pos 2 *ℤ c.rounded.result) = fits_signed_from_abs w64 _ (omega (arith, c.ranges.s)) in
    simp to_z-of_z twice

pub returns-clause-even : goal.returns-clause-even
returns-clause-even c = subst (λ (z : ℤ). IsEven z) (sym (returns-clause-value c)) (scaled_even c.args.g c.args.s)

pub returns-clause-size : goal.returns-clause-size
returns-clause-size c =
    subst (λ (z : ℤ). unsigned_abs z ≤ 12 * c.args.s + 2) (sym (returns-clause-value c)) (scaled_size c.args.g c.args.s c.requires)
