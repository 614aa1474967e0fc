use Rattle.std.proofs.Common.{◌≡◌, ◌∙◌, ℕ, List, Bool, IfOk, length, subst}
use Rattle.smol_meaning.specs.Statistics.{marks_of, moments_of}
use Rattle.smol_commands.proofs.statistics.moments_meant.Goals as goal

pub returns : goal.returns
returns c =
    let marks : c.deref.result.now ≡ marks_of (length c.args.config.now.species) c.args.who.now =
    c.deref.ensures.value ∙ c.in_ok-marks.ensures.value in
    subst (λ (marks : List Bool). IfOk c.moment_values.result (λ values. values.items ≡ moments_of c.args.config.now.dims marks c.args.mols.now)) marks
    (subst (λ (dims : ℕ). IfOk c.moment_values.result (λ values. values.items ≡ moments_of dims c.deref.result.now c.args.mols.now)) (c.from.ensures ∙ c.dims.ensures.value)
    c.moment_values.ensures)
