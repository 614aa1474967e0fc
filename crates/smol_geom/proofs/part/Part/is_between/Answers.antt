use Rattle.std.proofs.Common.{◌≡◌, ◌∙◌, FitsSigned, w64}
use Rattle.std.specs.Int.{w128}
use Rattle.std.proofs.lemmas.Int.{to_z-of_z}
use Rattle.smol_geom.proofs.Ways.{passed_product, between_products}
use Rattle.smol_geom.specs.Part.{fraction_of, scaled_way}
use Rattle.smol_geom.proofs.part.Part.is_between.Goals as goal

pub returns : goal.returns
returns c =
    let t = fraction_of c.args.self in
    let low_fits : FitsSigned w128 c.product-low.result = record { sfits = c.product-low.type_inv } in
    let high_fits : FitsSigned w128 c.product-high.result = record { sfits = c.product-high.type_inv } in
    let way_fits : FitsSigned w128 c.scaled_way.result = record { sfits = c.scaled_way.type_inv } in
    let low = passed_product c.product-low.result c.args.low c.args.self.den c.ranges.low c.product-low.ensures in
    let high = passed_product c.product-high.result c.args.high c.args.self.den c.ranges.high c.product-high.ensures in
    let way : c.scaled_way.result ≡ scaled_way c.args.start c.args.by (fraction_of c.args.self) =
    c.scaled_way.ensures ∙ (λ i. scaled_way (to_z-of_z w64 c.args.start c.ranges.start i) (to_z-of_z w64 c.args.by c.ranges.by i) (fraction_of c.args.self)) in
    between_products c.args.low c.args.high c.args.start c.args.by t c.are_ordered.result _ _ _ low way high
    (simp to_z-of_z at c.are_ordered.ensures)
