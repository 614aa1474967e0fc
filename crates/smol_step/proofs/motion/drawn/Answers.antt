use Rattle.std.proofs.Common.{◌≡◌, ℕ, ◌^◌, ap, sym, subst, ◌∙◌, arith}
use Rattle.smol_geom.specs.declared.place.Step3.{Step3}
use Rattle.smol_types.specs.declared.draft.Draft.{Draft}
use Rattle.smol_types.specs.declared.state.Mol.{Mol}
use Rattle.smol_types.specs.Sound.{IsSound}
use Rattle.smol_streams.specs.Displacement.{displacement}
use Rattle.smol_meaning.specs.Motion.{difstep_of, diffusion}
use Rattle.smol_meaning.specs.Moves.{IsMove}
use Rattle.smol_meaning.specs.Placed.{IsPlaced}
use Rattle.smol_meaning.proofs.Diffusing.{diffusion_moves}
use Rattle.smol_step.proofs.motion.drawn.Goals as goal

-- what is drawn is a move
goes_at : (draft : Draft) → IsSound draft → (seed k : ℕ) (mol : Mol) (by : Step3) → by ≡ (diffusion draft seed k mol).by → IsPlaced draft (2 ^ 57) mol → IsMove draft.dims mol.place by
goes_at draft sound seed k mol by is placed =
    subst (λ (by : Step3). IsMove draft.dims mol.place by) (sym is) (diffusion_moves draft sound seed k (2 ^ 57) mol placed (omega arith))

-- a displacement that is drawn with the difstep and the axes of a configuration like this one
drawn_at : (draft like : Draft) (seed k : ℕ) (mol : Mol) (difstep dims : ℕ) (by : Step3) → like ≡ draft → difstep ≡ difstep_of like mol.species → dims ≡ like.dims
    → by ≡ displacement seed mol.serial k difstep dims → by ≡ (diffusion draft seed k mol).by
drawn_at draft like seed k mol difstep dims by same of in_use is =
    is
    ∙ (λ i. displacement seed mol.serial k (of i) (in_use i))
    ∙ ap (λ (draft : Draft). displacement seed mol.serial k (difstep_of draft mol.species) draft.dims) same

pub returns-then-reacts-clause-goes : goal.returns-then-reacts-clause-goes
returns-then-reacts-clause-goes c =
    goes_at c.args.setup.now c.config-config.ensures.sound c.args.streams.now c.args.k c.args.m.now _
    (drawn_at c.args.setup.now _ c.args.streams.now c.args.k c.args.m.now _ _ _ c.config-config.ensures.value c.difstep_of-difstep.ensures c.dims.ensures.value c.draw.ensures.by)
    c.requires

pub returns-then-reacts-2-clause-goes : goal.returns-then-reacts-2-clause-goes
returns-then-reacts-2-clause-goes c =
    goes_at c.args.setup.now c.config-config.ensures.sound c.args.streams.now c.args.k c.args.m.now _
    (drawn_at c.args.setup.now _ c.args.streams.now c.args.k c.args.m.now _ _ _ c.config-config.ensures.value c.difstep_of-difstep.ensures c.dims-2.ensures.value c.displacement-by.ensures.value)
    c.requires

pub returns-else-reacts-2-clause-goes : goal.returns-else-reacts-2-clause-goes
returns-else-reacts-2-clause-goes c =
    goes_at c.args.setup.now c.config-config.ensures.sound c.args.streams.now c.args.k c.args.m.now _
    (drawn_at c.args.setup.now _ c.args.streams.now c.args.k c.args.m.now _ _ _ c.config-config.ensures.value c.difstep_of-difstep.ensures c.dims-2.ensures.value c.displacement-by.ensures.value)
    c.requires
