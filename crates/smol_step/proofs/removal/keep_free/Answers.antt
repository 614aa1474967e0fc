use Rattle.std.proofs.Common.{◌<◌, length, take, arith, ◌∙◌}
use Rattle.std.specs.List.{items_where_true}
use Rattle.smol_step.proofs.InPlace.{in_place_next, picked_gone, picked_stays}
use Rattle.smol_step.proofs.removal.keep_free.Goals as goal
use Rattle.smol_step.proofs.removal.keep_free.Goals.{then-is_free, else-is_free}

pub loop-i-preserved : goal.loop-i-preserved
loop-i-preserved c =
    let old = c.args.mols.now.items in
    let now = c.loop-i.mols.items in
    let free = c.args.free.now in
    let here = c.loop-i.i in
    let left = c.loop-i.left in
    let so_far = c.loop-i.invariant in
    let within : here < length old = omega arith in
    let front = items_where_true (take here free) (take here old) in
    elim c.if-is_free.branch [
      | then-is_free w ↦
          let m = w.index.result.now in
          let is = w.index.ensures ∙ in_place_next front now old left here m so_far in
          rw (w.mols-is, w.left-is) (picked_stays free now old left here m c.loop-i-test.true within is w.if-is_free.true so_far)
      | else-is_free w ↦ rw (w.mols-is, w.left-is) (picked_gone free now old left here c.loop-i-test.true within w.if-is_free.false so_far)
    ]
