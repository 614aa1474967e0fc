use Rattle.std.proofs.Common.{◌≡◌, ℕ, ℤ, List, [], ◌∷◌, length, to_z, of_z, w64, arith, ap, subst, sym, ◌∙◌}
use Rattle.std.proofs.lemmas.Int.{fits_signed_from_abs, to_z-of_z}
use Rattle.smol_types.specs.declared.command.Act.{Act}
use Rattle.smol_types.specs.declared.state.Mol.{Mol}
use Rattle.smol_types.specs.Commands.{IsAct}
use Rattle.smol_stats.specs.Bins.{bins_of}
use Rattle.smol_meaning.specs.Commands.{effect_of}
use Rattle.smol_meaning.specs.Lines.{count_line, number_line}
use Rattle.smol_meaning.specs.Statistics.{marks_of, moments_of}
use Rattle.smol_meaning.specs.Stretch.{becomes}
use Rattle.smol_meaning.specs.Timing.{time_of}
use Rattle.smol_commands.specs.Performs.{Adds}
use Rattle.smol_commands.proofs.Effects.{mols_near, mols_nearer, mols_within, performs_moved, performs_printed}
use Rattle.smol_commands.proofs.acting.act.Goals as goal

pub print_counts_inside-requires-clause-places : goal.print_counts_inside-requires-clause-places
print_counts_inside-requires-clause-places c =
    rw c.as_slice-in-CountIn.ensures (mols_within c.args.config.now c.args.state.now c.requires.sound c.requires.fits)

pub returns-in-Kill-clause-performed : goal.returns-in-Kill-clause-performed
unfolding effect_of
returns-in-Kill-clause-performed c =
    let effect = λ (act : Act). effect_of c.args.config.now c.args.streams.now c.args.c c.args.state.now act in
    performs_moved _ _ _
    (ap becomes (rw c.as_slice-in-Kill.ensures at c.kill.ensures) ∙ sym (ap effect c.in-Kill.is))

pub returns-in-KillProb-clause-performed : goal.returns-in-KillProb-clause-performed
unfolding effect_of
returns-in-KillProb-clause-performed c =
    let effect = λ (act : Act). effect_of c.args.config.now c.args.streams.now c.args.c c.args.state.now act in
    performs_moved _ _ _
    (ap becomes (rw c.as_slice-in-KillProb.ensures at c.kill_hit.ensures.left) ∙ sym (ap effect c.in-KillProb.is))

pub returns-in-Replace-clause-performed : goal.returns-in-Replace-clause-performed
unfolding effect_of
returns-in-Replace-clause-performed c =
    let effect = λ (act : Act). effect_of c.args.config.now c.args.streams.now c.args.c c.args.state.now act in
    performs_moved _ _ _
    (ap becomes (rw c.as_slice-in-Replace.ensures at c.replace_hit.ensures.turned) ∙ sym (ap effect c.in-Replace.is))

pub print_moments-requires-clause-places : goal.print_moments-requires-clause-places
print_moments-requires-clause-places c =
    rw c.as_slice-in-Moments.ensures (mols_nearer c.args.config.now c.args.state.now c.requires.sound c.requires.fits)

pub print_mean_square-requires-clause-places : goal.print_mean_square-requires-clause-places
print_mean_square-requires-clause-places c =
    rw c.as_slice-in-MeanSquare.ensures (mols_nearer c.args.config.now c.args.state.now c.requires.sound c.requires.fits)

pub print_radial-requires-clause-places : goal.print_radial-requires-clause-places
print_radial-requires-clause-places c =
    rw c.as_slice-in-Radial.ensures (mols_near c.args.config.now c.args.state.now c.requires.sound c.requires.fits)

pub returns-in_ok-print_space-in-CountSpace-clause-performed : goal.returns-in_ok-print_space-in-CountSpace-clause-performed
unfolding effect_of
returns-in_ok-print_space-in-CountSpace-clause-performed c =
    let effect = λ (act : Act). effect_of c.args.config.now c.args.streams.now c.args.c c.args.state.now act in
    let draft = c.args.config.now in
    let state = c.args.state.now in
    let it = c.in-CountSpace in
    let range = (subst (IsAct (length draft.species) (length draft.compartments) (length draft.outputs) draft.walls) it.is c.requires.does).2 in
    let small_low = range.0 in
    let small_high = range.1 in
    let low : to_z w64 (of_z w64 it.low) ≡ it.low = to_z-of_z w64 it.low (fits_signed_from_abs w64 it.low (omega (arith, small_low))) in
    let high : to_z w64 (of_z w64 it.high) ≡ it.high = to_z-of_z w64 it.high (fits_signed_from_abs w64 it.high (omega (arith, small_high))) in
    let Puts : List ℕ → ℤ → ℤ → List Mol → Type 0 = λ who low high mols. Adds ((it.outlet, count_line (time_of draft state.step) (bins_of (marks_of (length draft.species) who) it.axis low high it.bins mols)) ∷ []) c.args.out.now c.print_space.new.out in
    performs_printed _ _ _ _ _ _ (sym (ap effect it.is))
    (subst (λ (mols : List Mol). Puts it.who it.low it.high mols) c.as_slice-in-CountSpace-2.ensures
    (subst (λ (who : List ℕ). Puts who it.low it.high c.as_slice-in-CountSpace-2.result.now) c.as_slice-in-CountSpace.ensures
    (subst (λ (z : ℤ). Puts c.as_slice-in-CountSpace.result.now it.low z c.as_slice-in-CountSpace-2.result.now) high
    (subst (λ (z : ℤ). Puts c.as_slice-in-CountSpace.result.now z (to_z w64 (of_z w64 it.high)) c.as_slice-in-CountSpace-2.result.now) low
    c.in_ok-print_space-in-CountSpace.ensures))))

pub returns-in_ok-print_moments-in-Moments-clause-performed : goal.returns-in_ok-print_moments-in-Moments-clause-performed
unfolding effect_of
returns-in_ok-print_moments-in-Moments-clause-performed c =
    let effect = λ (act : Act). effect_of c.args.config.now c.args.streams.now c.args.c c.args.state.now act in
    let draft = c.args.config.now in
    let state = c.args.state.now in
    let it = c.in-Moments in
    let Puts : List ℕ → List Mol → Type 0 = λ who mols. Adds ((it.outlet, number_line (time_of draft state.step) (moments_of draft.dims (marks_of (length draft.species) who) mols)) ∷ []) c.args.out.now c.print_moments.new.out in
    performs_printed _ _ _ _ _ _ (sym (ap effect it.is))
    (subst (λ (who : List ℕ). Puts who state.mols) c.as_slice-in-Moments-2.ensures
    (subst (λ (mols : List Mol). Puts c.as_slice-in-Moments-2.result.now mols) c.as_slice-in-Moments.ensures c.in_ok-print_moments-in-Moments.ensures))

pub returns-in_ok-print_mean_square-in-MeanSquare-clause-performed : goal.returns-in_ok-print_mean_square-in-MeanSquare-clause-performed
unfolding effect_of
returns-in_ok-print_mean_square-in-MeanSquare-clause-performed c =
    let effect = λ (act : Act). effect_of c.args.config.now c.args.streams.now c.args.c c.args.state.now act in
    performs_printed _ _ _ _ _ _ (sym (ap effect c.in-MeanSquare.is))
    (rw (c.as_slice-in-MeanSquare.ensures, c.as_slice-in-MeanSquare-2.ensures) at c.in_ok-print_mean_square-in-MeanSquare.ensures)
