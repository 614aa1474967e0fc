use Rattle.std.proofs.Common.{◌≡◌, drop}
use Rattle.smol_meaning.specs.Inside.{is_clear}
use Rattle.smol_compart.proofs.compartment.is_clear.Given as goal

-- what the panels that are left decide is what all decide
abbrev pub invariant-loop-panel : goal.invariant-loop-panel
invariant-loop-panel l =
    is_clear (drop l.panel-index l.panel-items) l.surfaces l.a l.b ≡ is_clear l.panel-items l.surfaces l.a l.b
