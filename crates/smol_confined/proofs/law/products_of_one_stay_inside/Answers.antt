use Rattle.smol_confined.proofs.Making.{lone_products_are_confined}
use Rattle.smol_confined.proofs.law.products_of_one_stay_inside.Goals as goal

pub returns : goal.returns
returns c = lone_products_are_confined
