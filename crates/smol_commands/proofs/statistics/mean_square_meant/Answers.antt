use Rattle.std.proofs.Common.{◌≡◌, ◌∙◌, length}
use Rattle.smol_meaning.specs.Statistics.{marks_of}
use Rattle.smol_commands.proofs.statistics.mean_square_meant.Goals as goal

pub returns : goal.returns
returns c =
    let marks : c.deref.result.now ≡ marks_of (length c.args.config.now.species) c.args.who.now =
    c.deref.ensures.value ∙ c.in_ok-marks.ensures.value in
    rw (marks, c.from.ensures, c.dims.ensures.value) at c.mean_square_values-values.ensures
