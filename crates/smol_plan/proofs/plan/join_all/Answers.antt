use Rattle.std.proofs.Common.{◌∙◌, ◌<◌, length, arith}
use Rattle.smol_plan.proofs.LinkedLemmas.{LinkedUpTo-one, LinkedUpTo-same, LinkedUpTo-other, LinkedUpTo-end}
use Rattle.smol_plan.proofs.plan.join_all.Goals as goal
use Rattle.smol_plan.proofs.plan.join_all.Goals.{then-first-second, else-first-second}

pub loop-next-init : goal.loop-next-init
loop-next-init c = LinkedUpTo-one _ _ c.requires.unlinked

pub loop-next-preserved : goal.loop-next-preserved
loop-next-preserved c =
    elim c.if-first-second.branch [
      | then-first-second w ↦
          let within : c.loop-next.next < length c.args.entries.now = omega (arith, c.loop-next-test.true, c.len-next-end.ensures) in
          let same = rw (c.at-first.ensures, c.at-second.ensures) at w.if-first-second.true in
          let is = rw (c.at-first.ensures, c.at-second.ensures) at (w.links-is ∙ w.join.ensures) in
          LinkedUpTo-same c.args.entries.now c.loop-next.links _ c.loop-next.next c.loop-next.auto.next within (λ q l. omega (arith, c.requires.inside q l)) same is c.loop-next.invariant
      | else-first-second w ↦
          let other = rw (c.at-first.ensures, c.at-second.ensures) at w.if-first-second.false in
          LinkedUpTo-other c.args.entries.now c.loop-next.links _ c.loop-next.next c.loop-next.auto.next other w.links-is c.loop-next.invariant
    ]

pub returns : goal.returns
returns c =
    LinkedUpTo-end _ _ c.loop-next.next (omega (arith, c.loop-next-test.false, c.len-next-end.ensures)) c.loop-next.invariant
