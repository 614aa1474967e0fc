use Rattle.std.proofs.Common.{◌≡◌, ◌<◌, ◌^◌, ◌++◌, ◌∷◌, [], ℕ, List, All, Option, Some, length, get_or, map, take, ap, sym, ◌∙◌, subst, arith}
use Rattle.std.specs.List.{cons_option, filter_map}
use Rattle.std.proofs.lemmas.List.{append-nil, get_or_default, length-set, take_more_set}
use Rattle.std.proofs.lemmas.Option.{same_Some}
use Rattle.smol_geom.specs.declared.place.Step3.{Step3}
use Rattle.smol_types.specs.declared.draft.Draft.{Draft}
use Rattle.smol_types.specs.declared.state.Mol.{Mol}
use Rattle.smol_meaning.specs.declared.way.Travelled.{Travelled}
use Rattle.smol_meaning.specs.declared.way.Travelled.TheVariants.{At, Absorbed}
use Rattle.smol_streams.specs.Chance.{first_order_word}
use Rattle.smol_meaning.specs.Events.{lone_reaction, reaction_drawn}
use Rattle.smol_meaning.specs.Motion.{arrived, diffused, diffusion, end_of_move}
use Rattle.smol_meaning.specs.Placed.{IsPlaced}
use Rattle.smol_meaning.specs.Seen.{way}
use Rattle.smol_step.proofs.InPlace.{InPlace, chosen_more, filter_map-more, in_place_next, made_gone, made_stays}
use Rattle.smol_step.proofs.motion.diffuse_in_turn.Goals as goal
use Rattle.smol_step.proofs.motion.diffuse_in_turn.Goals.{in-Some, in_default}

-- what is read behind the end of a list of molecules
abbrev none : Mol
none = record { serial = 0; species = 0; place = record { 0 = [] } }

-- the next molecule stands where it did
placed_next : (draft : Draft) (front now old : List Mol) (left here : ℕ) → All (IsPlaced draft (2 ^ 57)) old → InPlace front now old left here
    → here < length old → IsPlaced draft (2 ^ 57) (get_or now here none)
placed_next draft front now old left here placed so_far within =
    subst (IsPlaced draft (2 ^ 57)) (sym (in_place_next front now old left here none so_far)) (placed here none within)

module _ (draft : Draft) (seed k : ℕ) (mol : Mol) where
  -- at the end of the way of its displacement a molecule is what the step leaves of it
  moves : (by : Step3) → by ≡ (diffusion draft seed k mol).by → arrived mol (way draft mol.species mol.place by) ≡ diffused draft seed k mol
  moves by is = ap (λ (by : Step3). arrived mol (way draft mol.species mol.place by)) is

-- and there it makes the reaction that its word says, where it is of the species as which it set out
chooses : (draft : Draft) (seed k : ℕ) (mol after : Mol) → after.serial ≡ mol.serial → after.species ≡ mol.species
    → lone_reaction draft seed k mol ≡ lone_reaction draft seed k after
chooses draft seed k mol after serial species =
    sym (λ i. reaction_drawn (species i) 0 0 draft.reactions (first_order_word seed (serial i) k))

pub drawn-word-requires : goal.drawn-word-requires
drawn-word-requires c =
    placed_next c.args.setup.now _ c.loop-i.mols c.args.mols.now c.loop-i.left c.loop-i.i c.requires.placed c.loop-i.invariant.moved (omega arith)

pub arrived-requires-clause-species : goal.arrived-requires-clause-species
arrived-requires-clause-species c =
    let placed = placed_next c.args.setup.now _ c.loop-i.mols c.args.mols.now c.loop-i.left c.loop-i.i c.requires.placed c.loop-i.invariant.moved (omega arith) in
    subst (λ (draft : Draft). (get_or c.loop-i.mols c.loop-i.i none).species < length draft.species) (sym c.panels.ensures) placed.species

pub lone_reaction-requires-clause-species : goal.lone_reaction-requires-clause-species
lone_reaction-requires-clause-species c =
    subst (λ (draft : Draft). c.in-Some.after.species < length draft.species) c.panels.ensures c.in-Some.ensures.species

pub lone_reaction-requires-clause-word : goal.lone_reaction-requires-clause-word
lone_reaction-requires-clause-word c = λ same.
    let draft = c.args.setup.now in
    let after = c.in-Some.after in
    let m = get_or c.loop-i.mols c.loop-i.i none in
    ap (λ (species : ℕ). reaction_drawn species 0 0 draft.reactions c.drawn-word.result.word) same
    ∙ c.drawn-word.ensures.word
    ∙ chooses draft c.loop-i.streams c.args.k m after c.in-Some.ensures.serial same
    ∙ ap (λ (seed : ℕ). lone_reaction draft seed c.args.k after) (sym c.drawn-word.ensures.seed)

pub loop-i-preserved : goal.loop-i-preserved
loop-i-preserved c =
    let draft = c.args.setup.now in
    let seed = c.args.seed in
    let k = c.args.k in
    let old = c.args.mols.now in
    let now = c.loop-i.mols in
    let here = c.loop-i.i in
    let left = c.loop-i.left in
    let m = get_or now here none in
    let made = diffused draft seed k in
    let chosen = lone_reaction draft seed k in
    let front = filter_map made (take here old) in
    let so_far = c.loop-i.invariant.moved in
    let within : here < length old = omega arith in
    let room : left < length c.loop-i.reactions = omega (arith, so_far.behind, c.loop-i.invariant.beside) in
    let is : m ≡ get_or old here m = in_place_next front now old left here none so_far ∙ get_or_default old here none m within in
    let step = filter_map-more made old here m within is in
    let by = c.drawn-word.ensures.by ∙ ap (λ (seed : ℕ). (diffusion draft seed k m).by) c.loop-i.invariant.seed in
    let becomes = sym (c.arrived.ensures.value ∙ ap (λ (draft : Draft). arrived m (way draft m.species m.place c.drawn-word.result.by)) c.panels.ensures ∙ moves draft seed k m c.drawn-word.result.by by) in
    let same = c.drawn-word.ensures.seed ∙ c.loop-i.invariant.seed in
    elim c.match-arrived.branch [
      | in-Some w ↦
          let after = w.in-Some.after in
          let one = becomes ∙ w.in-Some.is in
          let drawn = w.lone_reaction.ensures.value ∙ ap (λ (seed : ℕ). lone_reaction draft seed k after) same in
          rw (w.mols-is, w.reactions-is, w.left-is, w.streams-is) (record {
            moved = made_stays made now old left here m after within is one so_far;
            chosen = take_more_set c.loop-i.reactions left w.lone_reaction.result room
                ∙ ap (λ (last : Option ℕ). take left c.loop-i.reactions ++ last ∷ []) drawn
                ∙ ap (λ (first : List (Option ℕ)). first ++ chosen after ∷ []) c.loop-i.invariant.chosen
                ∙ sym (ap (map chosen) (step ∙ ap (λ (made : Option Mol). front ++ cons_option made []) one) ∙ chosen_more chosen front after);
            beside = length-set c.loop-i.reactions left w.lone_reaction.result ∙ c.loop-i.invariant.beside;
            seed = w.lone_reaction.ensures.seed ∙ same;
          })
      | in_default w ↦
          let one = becomes ∙ w.in_default.is in
          rw (w.mols-is, w.reactions-is, w.left-is, w.streams-is) (record {
            moved = made_gone made now old left here m within is one so_far;
            chosen = c.loop-i.invariant.chosen ∙ sym (ap (map chosen) (step ∙ ap (λ (made : Option Mol). front ++ cons_option made []) one ∙ append-nil front));
            beside = c.loop-i.invariant.beside;
            seed = same;
          })
    ]
