use Rattle.std.proofs.Common.{arith}
use Rattle.std.proofs.lemmas.Int.{ints}
use Rattle.smol_geom.proofs.Sizes.{product_size}
use Rattle.smol_geom.proofs.Ways.{passed_product}
use Rattle.smol_geom.proofs.part.Part.scaled_way.Goals as goal

pub returns : goal.returns
returns c =
    let first = passed_product c.product.result c.args.start c.args.self.den c.ranges.start c.product.ensures in
    let second = passed_product c.product-2.result c.args.by c.args.self.num c.ranges.by c.product-2.ensures in
    let first_size = product_size c.product.result c.args.start c.args.self.den first c.requires.start c.requires.part.den in
    let second_size = product_size c.product-2.result c.args.by c.args.self.num second c.requires.by c.requires.part.num in
    omega (arith, ints)
