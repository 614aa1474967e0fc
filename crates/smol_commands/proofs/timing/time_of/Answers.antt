use Rattle.std.proofs.Common.{◌≡◌, ◌≤◌, ◌*◌, ℕ, ℤ, arith, to_z, of_z, w64, unsigned_abs}
use Rattle.std.proofs.lemmas.Int.{ints}
use Rattle.std.proofs.lemmas.Nat.{mul-le}
use Rattle.smol_types.specs.Steps.{last_step}
use Rattle.smol_commands.proofs.Times.{steps_size, time_is}
use Rattle.smol_commands.proofs.timing.time_of.Goals as goal

-- the steps made take no longer than all steps
passed_size : (start stop step : ℤ) (k : ℕ) → unsigned_abs start ≤ 1000000000000000000 → unsigned_abs stop ≤ 1000000000000000000 → unsigned_abs step ≤ 1000000000000000000 → k ≤ last_step start stop step → k * unsigned_abs step ≤ 3000000000000000000
passed_size start stop step k small_start small_stop small_step few =
    omega (arith, steps_size start stop step small_start small_stop small_step, mul-le k (unsigned_abs step) (last_step start stop step) (unsigned_abs step) few (omega arith))

pub overflow_mul-passed : goal.overflow_mul-passed
overflow_mul-passed c =
    let config = c.args.config.now in
    let sound = c.step.ensures.sound in
    let step : to_z w64 (of_z w64 c.step.result) ≡ config.step = let small = sound.step in omega (arith, ints, c.step.ensures.value) in
    let size = rw step at c.unsigned_abs.ensures.value in
    let small = passed_size config.start config.stop config.step c.args.k sound.start sound.stop sound.step c.requires in
    rw (c.from.ensures, size) (omega (arith, small))

pub overflow_cast-result : goal.overflow_cast-result
overflow_cast-result c =
    let config = c.args.config.now in
    let sound = c.step.ensures.sound in
    let step : to_z w64 (of_z w64 c.step.result) ≡ config.step = let small = sound.step in omega (arith, ints, c.step.ensures.value) in
    let size = rw step at c.unsigned_abs.ensures.value in
    let small = passed_size config.start config.stop config.step c.args.k sound.start sound.stop sound.step c.requires in
    rw (c.from.ensures, size) (omega (arith, ints, small))

pub overflow_add-result : goal.overflow_add-result
overflow_add-result c =
    let config = c.args.config.now in
    let sound = c.step.ensures.sound in
    let start : to_z w64 (of_z w64 c.start.result) ≡ config.start = let small = sound.start in omega (arith, ints, c.start.ensures.value) in
    let step : to_z w64 (of_z w64 c.step.result) ≡ config.step = let small = sound.step in omega (arith, ints, c.step.ensures.value) in
    let size = rw step at c.unsigned_abs.ensures.value in
    let small = passed_size config.start config.stop config.step c.args.k sound.start sound.stop sound.step c.requires in
    rw (start, c.from.ensures, size) (let begin = sound.start in omega (arith, ints, small))

pub returns : goal.returns
returns c =
    let config = c.args.config.now in
    let sound = c.step.ensures.sound in
    let step : to_z w64 (of_z w64 c.step.result) ≡ config.step = let small = sound.step in omega (arith, ints, c.step.ensures.value) in
    rw c.start.ensures.value
    (time_is config.start config.step c.args.k c.from.result c.unsigned_abs.result c.from.ensures (rw step at c.unsigned_abs.ensures.value) sound.step_above sound.start
    (passed_size config.start config.stop config.step c.args.k sound.start sound.stop sound.step c.requires))
