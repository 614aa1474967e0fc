use Rattle.std.proofs.Common.{◌≡◌, length, replicate, false, ◌∙◌, ap}
use Rattle.smol_plan.specs.Machine.{slice_count}
use Rattle.smol_plan.specs.PairState.{fresh}
use Rattle.smol_plan.specs.Board.{IsWellKept, state_of}
use Rattle.smol_plan.specs.Pair.{IsOrdered}
use Rattle.smol_plan.proofs.StepOfBoard.{IsWellKept-first, first_is}
use Rattle.smol_plan.proofs.machine.Core.open.Goals as goal

pub invariant_of-result : goal.invariant_of-result
invariant_of-result c =
    let slices : c.in_ok-taken.taken.items ≡ replicate (slice_count c.args.plan) false = c.in_ok-taken.ensures.items_if_clones_equal (λ y e. e) ∙ ap (λ n. replicate n false) c.slices.ensures in
    let standings : c.in_ok-standings.standings.items ≡ replicate (length c.args.plan) fresh = c.in_ok-standings.ensures.items_if_clones_equal (λ y e. e) ∙ ap (λ n. replicate n c.fresh.result) c.len.ensures ∙ ap (replicate (length c.args.plan)) c.fresh.ensures in
    let ordered : IsOrdered c.args.plan = rw c.plan.view_is at c.plan.invariant.ordered in
    let sound : IsWellKept record { pairs = c.args.plan; workers = c.args.workers; slices = c.in_ok-taken.taken.items; standings = c.in_ok-standings.standings.items } = rw (slices, standings) (IsWellKept-first c.args.plan c.args.workers ordered) in
    sound

pub returns-clause-first : goal.returns-clause-first
returns-clause-first c =
    let slices : c.in_ok-taken.taken.items ≡ replicate (slice_count c.args.plan) false = c.in_ok-taken.ensures.items_if_clones_equal (λ y e. e) ∙ ap (λ n. replicate n false) c.slices.ensures in
    let standings : c.in_ok-standings.standings.items ≡ replicate (length c.args.plan) fresh = c.in_ok-standings.ensures.items_if_clones_equal (λ y e. e) ∙ ap (λ n. replicate n c.fresh.result) c.len.ensures ∙ ap (replicate (length c.args.plan)) c.fresh.ensures in
    ap (λ xs. state_of record { pairs = c.args.plan; workers = c.args.workers; slices = xs; standings = c.in_ok-standings.standings.items }) slices ∙ ap (λ xs. state_of record { pairs = c.args.plan; workers = c.args.workers; slices = replicate (slice_count c.args.plan) false; standings = xs }) standings ∙ first_is (slice_count c.args.plan) (length c.args.plan)

pub returns-clause-good : goal.returns-clause-good
returns-clause-good c =
    let slices : c.in_ok-taken.taken.items ≡ replicate (slice_count c.args.plan) false = c.in_ok-taken.ensures.items_if_clones_equal (λ y e. e) ∙ ap (λ n. replicate n false) c.slices.ensures in
    let standings : c.in_ok-standings.standings.items ≡ replicate (length c.args.plan) fresh = c.in_ok-standings.ensures.items_if_clones_equal (λ y e. e) ∙ ap (λ n. replicate n c.fresh.result) c.len.ensures ∙ ap (replicate (length c.args.plan)) c.fresh.ensures in
    let ordered : IsOrdered c.args.plan = rw c.plan.view_is at c.plan.invariant.ordered in
    let sound : IsWellKept record { pairs = c.args.plan; workers = c.args.workers; slices = c.in_ok-taken.taken.items; standings = c.in_ok-standings.standings.items } = rw (slices, standings) (IsWellKept-first c.args.plan c.args.workers ordered) in
    sound.good
