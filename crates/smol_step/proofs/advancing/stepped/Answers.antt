use Rattle.std.proofs.Common.{◌≡◌, ◌≤◌, ◌+◌, ◌^◌, All, List, IfOk, length, ap, sym, ◌∙◌, subst, arith}
use Rattle.smol_types.specs.declared.state.Mol.{Mol}
use Rattle.smol_types.specs.declared.state.State.{State}
use Rattle.smol_types.specs.Limits.{last_serial}
use Rattle.smol_types.specs.State.{Ascend}
use Rattle.smol_meaning.specs.Motion.{all_diffused}
use Rattle.smol_meaning.specs.Placed.{IsPlaced}
use Rattle.smol_meaning.specs.Step.{reacted}
use Rattle.smol_meaning.proofs.Diffusing.{diffused_ascend}
use Rattle.smol_meaning.proofs.Kept.{Ascend-to}
use Rattle.smol_meaning.proofs.Stepping.{diffused_few, diffused_near, mols_near}
use Rattle.smol_step.proofs.advancing.stepped.Goals as goal

pub overflow_add-turn : goal.overflow_add-turn
overflow_add-turn g c = let sound = c.requires.sound in omega (arith, c.requires.further, sound.steps)

pub diffuse-requires : goal.diffuse-requires
diffuse-requires g c =
    let config = c.args.setup.now in
    let sound = c.requires.sound in
    let few : c.args.state.step ≤ 4000000 = omega (arith, c.requires.further, sound.steps) in
    (search, subst (All (IsPlaced config (2 ^ 57))) (sym c.into_vec-mols.ensures) (mols_near config c.args.state c.requires.fits few))

pub reacted-requires-clause-turn : goal.reacted-requires-clause-turn
reacted-requires-clause-turn g c _ _ =
    let sound = c.requires.sound in
    record { step = omega (arith, c.requires.further, sound.steps); least = omega (arith, c.clamp.ensures); most = omega (arith, c.clamp.ensures) }

pub reacted-requires-clause-count : goal.reacted-requires-clause-count
reacted-requires-clause-count g c _ _ =
    let config = c.args.setup.now in
    let state = c.args.state in
    let mols : c.diffuse.new.mols.items ≡ all_diffused config c.args.seed (state.step + 1) state.mols =
    c.in_ok-reactions.ensures.moved ∙ ap (all_diffused config c.args.seed (state.step + 1)) c.into_vec-mols.ensures in
    omega (arith, ap length mols, diffused_few config c.requires.sound c.args.seed state c.requires.fits)

pub reacted-requires-clause-serials : goal.reacted-requires-clause-serials
reacted-requires-clause-serials g c _ _ =
    let config = c.args.setup.now in
    let state = c.args.state in
    let mols : c.diffuse.new.mols.items ≡ all_diffused config c.args.seed (state.step + 1) state.mols =
    c.in_ok-reactions.ensures.moved ∙ ap (all_diffused config c.args.seed (state.step + 1)) c.into_vec-mols.ensures in
    subst (Ascend 0 last_serial) (sym mols)
    (Ascend-to 0 state.next last_serial _ c.requires.fits.next (diffused_ascend config c.args.seed (state.step + 1) 0 state.next state.mols c.requires.fits.serials))

pub reacted-requires-clause-placed : goal.reacted-requires-clause-placed
reacted-requires-clause-placed g c _ _ =
    let config = c.args.setup.now in
    let state = c.args.state in
    let mols : c.diffuse.new.mols.items ≡ all_diffused config c.args.seed (state.step + 1) state.mols =
    c.in_ok-reactions.ensures.moved ∙ ap (all_diffused config c.args.seed (state.step + 1)) c.into_vec-mols.ensures in
    subst (All (IsPlaced config (2 ^ 57))) (sym mols) (diffused_near config c.requires.sound c.args.seed state c.requires.fits c.requires.further)

pub returns : goal.returns
returns g c =
    let config = c.args.setup.now in
    let state = c.args.state in
    let mols : c.diffuse.new.mols.items ≡ all_diffused config c.args.seed (state.step + 1) state.mols =
    c.in_ok-reactions.ensures.moved ∙ ap (all_diffused config c.args.seed (state.step + 1)) c.into_vec-mols.ensures in
    subst
    (λ (mols : List Mol). IfOk c.reacted.result (λ (after : State). after ≡ reacted config c.args.seed (state.step + 1) mols state.next)) mols
    c.reacted.ensures
