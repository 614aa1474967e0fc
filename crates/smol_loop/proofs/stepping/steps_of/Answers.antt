use Rattle.std.proofs.Common.{◌≡◌, arith, to_z, of_z, w64}
use Rattle.std.proofs.lemmas.Int.{ints}
use Rattle.smol_types.specs.Steps.{last_step}
use Rattle.smol_loop.proofs.stepping.steps_of.Goals as goal

pub overflow_cast-result : goal.overflow_cast-result
overflow_cast-result c =
    let config = c.args.config.now in
    let sound = c.start.ensures.sound in
    let start : to_z w64 (of_z w64 c.start.result) ≡ config.start = let small = sound.start in omega (arith, ints, c.start.ensures.value) in
    let stop : to_z w64 (of_z w64 c.stop.result) ≡ config.stop = let small = sound.stop in omega (arith, ints, c.stop.ensures.value) in
    let step : to_z w64 (of_z w64 c.step.result) ≡ config.step = let small = sound.step in omega (arith, ints, c.step.ensures.value) in
    let last : c.last_step.result ≡ last_step config.start config.stop config.step = rw (start, stop, step) at c.last_step.ensures in
    omega (arith, last, sound.steps)

pub returns-clause-count : goal.returns-clause-count
returns-clause-count c =
    let config = c.args.config.now in
    let sound = c.start.ensures.sound in
    let start : to_z w64 (of_z w64 c.start.result) ≡ config.start = let small = sound.start in omega (arith, ints, c.start.ensures.value) in
    let stop : to_z w64 (of_z w64 c.stop.result) ≡ config.stop = let small = sound.stop in omega (arith, ints, c.stop.ensures.value) in
    let step : to_z w64 (of_z w64 c.step.result) ≡ config.step = let small = sound.step in omega (arith, ints, c.step.ensures.value) in
    let last : c.last_step.result ≡ last_step config.start config.stop config.step = rw (start, stop, step) at c.last_step.ensures in
    last

pub returns-clause-few : goal.returns-clause-few
returns-clause-few c =
    let config = c.args.config.now in
    let sound = c.start.ensures.sound in
    let start : to_z w64 (of_z w64 c.start.result) ≡ config.start = let small = sound.start in omega (arith, ints, c.start.ensures.value) in
    let stop : to_z w64 (of_z w64 c.stop.result) ≡ config.stop = let small = sound.stop in omega (arith, ints, c.stop.ensures.value) in
    let step : to_z w64 (of_z w64 c.step.result) ≡ config.step = let small = sound.step in omega (arith, ints, c.step.ensures.value) in
    let last : c.last_step.result ≡ last_step config.start config.stop config.step = rw (start, stop, step) at c.last_step.ensures in
    omega (arith, last, sound.steps)
