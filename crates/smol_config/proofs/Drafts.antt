-- The draft that the tables make is what the lines say, and its tests are those of the whole file.
use Rattle.std.proofs.Common.{◌≡◌, ◌+◌, ◌≤◌, ◌∷◌, length, suc, ℕ, Bool, true, false, ℤ, pos, nat_le, IfSome, unsigned_abs, to_z, of_z, w64, arith, List, [], Option, None, Some, Result, Err, unwrap_or, refl, sym, ap, ◌∙◌}
use Rattle.std.specs.List.{list_all}
use Rattle.std.proofs.lemmas.Int.{ints}
use Rattle.smol_types.specs.declared.draft.Draft.{Draft}
use Rattle.smol_types.specs.declared.fault.Kind.{Kind}
use Rattle.smol_types.specs.declared.fault.Kind.TheVariants.{OutOfRange, ProbabilitySum, TooMany}
use Rattle.smol_types.specs.Steps.{last_step}
use Rattle.smol_line.specs.Axes.{walls_of}
use Rattle.smol_line.specs.Checks.{unless}
use Rattle.smol_reactions.specs.Content.{are_shared, chances_of, reactions_of}
use Rattle.smol_reactions.specs.Rates.{all_rated}
use Rattle.smol_config.specs.declared.motion.Motion.{Motion}
use Rattle.smol_config.specs.declared.tables.Tables.{Tables}
use Rattle.smol_config.specs.declared.whole.Needed.{Needed}
use Rattle.smol_config.specs.declared.whole.Parts.{Parts}
use Rattle.smol_config.specs.Said.{Said}
use Rattle.smol_config.specs.MaxMol.{limit_of}
use Rattle.smol_config.specs.PairOrder.{nearest_by}
use Rattle.smol_config.specs.Reactions.{reactions_said}
use Rattle.smol_config.specs.Species.{species_of}
use Rattle.smol_config.specs.Content.{content_of, species_from, started}
use Rattle.smol_config.specs.Looked.{Looked}
use Rattle.smol_config.specs.Tables.{Holds, drafted, species_made}
use Rattle.smol_config.specs.Whole.{bounded, has_chances, has_difstep, has_few_steps, needed_from, needed_in}
use Rattle.smol_reactions.proofs.Rated.{shared_kept}
use Rattle.smol_config.proofs.SpeciesNames.{species_are}
use Rattle.smol_config.proofs.WholeSound.{length-species_from}

module _ (needed : Needed) (tables : Tables) (before : List Said) (h : Holds tables before) where
  pub species_held : species_made needed.step tables.species.motions.items 0 tables.species.names ≡ species_from needed.step before 0 (species_of before)
  species_held = species_are needed.step before tables.species.motions.items (λ number. ap (λ (known : Looked). known.motions number) h.plain) 0 tables.species.names ∙ ap (λ (known : Looked). species_from needed.step before 0 known.species) h.plain

  -- what the tables make is what the lines say
  pub drafted_is : (parts : Parts) → parts.start ≡ started tables.times.start → parts.species ≡ species_made needed.step tables.species.motions.items 0 tables.species.names → parts.walls ≡ walls_of tables.axes → parts.outputs ≡ tables.outputs → drafted needed parts tables ≡ content_of needed before
  unfolding content_of
  drafted_is parts start made walled written =
      let start = start ∙ ap (λ (known : Looked). started known.times.start) h.plain in
      let species = made ∙ species_held in
      let walls = walled ∙ ap (λ (known : Looked). walls_of known.axes) h.plain in
      let outputs = written ∙ ap (λ (known : Looked). known.outputs) h.plain in
      λ i. let known : Looked = h.plain i in record {
        dims = needed.dims;
        species = species i;
        walls = walls i;
        surfaces = h.blocks.surfaces i;
        panels = h.blocks.panels i;
        compartments = h.blocks.compartments i;
        reactions = all_rated (unsigned_abs needed.step) (h.reactions.list i);
        placings = known.placings;
        commands = known.commands;
        outputs = outputs i;
        start = start i;
        stop = needed.stop;
        step = needed.step;
        max_mol = limit_of known.max_mol;
        seed = known.seed;
        nearest = nearest_by known.nearest;
      }

pub length-species_made : (time : ℤ) (motions : List Motion) (number : ℕ) (names : List (List ℕ)) → length (species_made time motions number names) ≡ length names
length-species_made time motions number [] = refl
length-species_made time motions number (name ∷ names) = ap suc (length-species_made time motions (number + 1) names)

-- whether one whole is enough for each species, by the tables and by the content
pub shared_held : (needed : Needed) (tables : Tables) (before : List Said) → Holds tables before → are_shared (length tables.species.names) tables.reactions.list.items tables.reactions.chances.items ≡ has_chances (chances_of (reactions_said before)) (content_of needed before)
unfolding content_of
shared_held needed tables before h =
    rw (length-species_from needed.step before 0 (species_of before), ap (λ (known : Looked). known.species) h.plain, h.reactions.list, h.reactions.chances)
    (sym (shared_kept (length (species_of before)) (unsigned_abs needed.step) (reactions_of (reactions_said before)) (chances_of (reactions_said before))))

-- too many steps are told first
pub bounded-many : (chances : List (Option ℕ)) (draft : Draft) → has_few_steps draft ≡ false → bounded chances draft ≡ Err TooMany
unfolding bounded
bounded-many chances draft many = rw many refl

-- then difsteps that are too large
pub bounded-far : (chances : List (Option ℕ)) (draft : Draft) → has_few_steps draft ≡ true → list_all has_difstep draft.species ≡ false → bounded chances draft ≡ Err OutOfRange
unfolding bounded
bounded-far chances draft few far = rw (few, far) refl

-- then probabilities that are too large
pub bounded-likely : (chances : List (Option ℕ)) (draft : Draft) → has_few_steps draft ≡ true → list_all has_difstep draft.species ≡ true → has_chances chances draft ≡ false → bounded chances draft ≡ Err ProbabilitySum
unfolding bounded
bounded-likely chances draft few near likely = rw (few, near, likely) refl

-- a time within the limits stays as it is in 64 bits
pub time_kept : (time : ℤ) → unsigned_abs time ≤ 1000000000000000000 → to_z w64 (of_z w64 time) ≡ time
time_kept time small = omega (arith, ints)

-- a start that may be left out is within the limits either way
pub start_within : (given : Option ℤ) → IfSome given (λ time. unsigned_abs time ≤ 1000000000000000000) → unsigned_abs (unwrap_or given (pos 0)) ≤ 1000000000000000000
start_within None within = omega arith
start_within (Some time) within = within

-- the steps that the tables make are those of the content
pub few_steps : (needed : Needed) (tables : Tables) (before : List Said) (start : ℤ) (count : ℕ) → Holds tables before → start ≡ unwrap_or tables.times.start (pos 0) → IfSome tables.times.start (λ time. unsigned_abs time ≤ 1000000000000000000) → unsigned_abs needed.stop ≤ 1000000000000000000 → unsigned_abs needed.step ≤ 1000000000000000000
    → count ≡ last_step (to_z w64 (of_z w64 start)) (to_z w64 (of_z w64 needed.stop)) (to_z w64 (of_z w64 needed.step)) → nat_le count 4000000 ≡ has_few_steps (content_of needed before)
unfolding content_of
few_steps needed tables before start count h is within stop step counted =
    let from = ap (λ (t : ℤ). to_z w64 (of_z w64 t)) is ∙ time_kept (unwrap_or tables.times.start (pos 0)) (start_within tables.times.start within) ∙ ap (λ (known : Looked). started known.times.start) h.plain in
    let to = time_kept needed.stop stop in
    let by = time_kept needed.step step in
    ap (λ n. nat_le n 4000000) (counted ∙ (λ j. last_step (from j) (to j) (by j)))

-- what the tables give of what a file can't do without is what the lines say of it
pub needed_held : (tables : Tables) (before : List Said) → Holds tables before → (found : Result Needed Kind) → found ≡ needed_from tables.axes tables.times → needed_in before ≡ found
needed_held tables before h found is = sym (is ∙ ap (λ (known : Looked). needed_from known.axes known.times) h.plain)

-- a test that fails tells its fault
pub unless_fails : (test : Bool) (kind why : Kind) → Some kind ≡ unless test why → (test ≡ false) × (kind ≡ why)
unless_fails true kind why is = absurd cc
unless_fails false kind why is = (refl, cc)
