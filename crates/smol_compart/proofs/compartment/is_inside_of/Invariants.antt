use Rattle.std.proofs.Common.{◌≡◌, drop}
use Rattle.std.specs.List.{list_any}
use Rattle.smol_meaning.specs.Inside.{is_clear}
use Rattle.smol_compart.proofs.compartment.is_inside_of.Given as goal

-- what the points that are left decide is what all decide
abbrev pub invariant-loop-point : goal.invariant-loop-point
invariant-loop-point l =
    list_any (is_clear l.config.panels l.compartment.surfaces l.place) (drop l.point-index l.point-items)
    ≡ list_any (is_clear l.config.panels l.compartment.surfaces l.place) l.point-items
