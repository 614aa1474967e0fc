use Rattle.std.proofs.Common.{ap, ◌∙◌}
use Rattle.std.specs.List.{slice_get}
use Rattle.smol_macro.proofs.Outermost.{outermost-kept}
use Rattle.smol_macro.proofs.conditions.Conditions.outermost.Goals as goal

pub returns-in-Some-first : goal.returns-in-Some-first
returns-in-Some-first c =
    outermost-kept c.args.self.now.innermost c.in-Some.condition c.in-Some-first.outer.now c.args.self.now.outer.items c.in-Some.is
    (c.in-Some-first.ensures.value ∙ ap (λ t. slice_get t 0) c.deref.ensures.value)
