use Rattle.std.proofs.Common.{◌≡◌, ◌≤◌, true, List, length, subst, IfSome, unsigned_abs, Ok, Err, sym, ap, ◌∙◌, arith}
use Rattle.std.proofs.lemmas.Result.{err_from_is_err_and}
use Rattle.smol_types.specs.declared.draft.Draft.{Draft}
use Rattle.smol_types.specs.declared.fault.Kind.{Kind}
use Rattle.smol_reactions.specs.Content.{chances_of}
use Rattle.smol_config.specs.Reactions.{reactions_said}
use Rattle.smol_config.specs.Said.{Said}
use Rattle.smol_config.specs.Species.{species_of}
use Rattle.smol_config.specs.Content.{content_of}
use Rattle.smol_config.specs.Looked.{Looked}
use Rattle.smol_config.specs.SoFar.{the_axes, the_species, the_times}
use Rattle.smol_config.specs.Tables.{Holds}
use Rattle.smol_config.specs.Whole.{bounded, has_chances, closed_in}
use Rattle.smol_config.proofs.Drafts.{needed_held}
use Rattle.smol_config.proofs.WholeSound.{needed_is, small_walls, closed_ok, closed_missing, closed_excess, closed_is_sound, length-species_from}
use Rattle.smol_config.proofs.whole.finish.Goals as goal
use Rattle.smol_config.proofs.whole.finish.Goals.{In_ok-draft-2}

pub draft_of-requires : goal.draft_of-requires
draft_of-requires c =
    let before = c.requires.0 in
    let holds = c.requires.1 in
    let h = c.requires.2 in
    let needed = c.in_ok-needed.needed in
    let given = needed_is before needed (needed_held c.args.tables before holds (Ok c.in_ok-needed.needed) c.in_ok-needed.ensures) in
    let stop = rw given.4 at (h the_times).stop in
    let step = rw given.5 at (h the_times).step in
    record {
      start = subst (λ (known : Looked). IfSome known.times.start (λ time. unsigned_abs time ≤ 1000000000000000000)) (sym holds.plain) (h the_times).start;
      stop = stop;
      step = step.0;
      step_above = step.1;
      x = small_walls _ 0 _ _ (ap (λ (known : Looked). known.axes.x) holds.plain) (h the_axes).x;
      y = small_walls _ 1 _ _ (ap (λ (known : Looked). known.axes.y) holds.plain) (h the_axes).y;
      z = small_walls _ 2 _ _ (ap (λ (known : Looked). known.axes.z) holds.plain) (h the_axes).z;
      species = subst (λ (known : Looked). length known.species ≤ 256) (sym holds.plain) (h the_species);
      kept = holds.kept;
    }

pub bounded-requires-clause-species : goal.bounded-requires-clause-species
unfolding content_of
bounded-requires-clause-species c =
    let before = c.requires.0 in
    let content = ap (λ (draft : Draft). length draft.species) (c.in_ok-draft.ensures.content before c.requires.1) in
    let count = length-species_from c.in_ok-needed.needed.step before 0 (species_of before) in
    let few = c.requires.2 the_species in
    omega (arith, content, count, few)

-- the draft is what the whole file says
whole : (c : In_ok-draft-2) (before : List Said) → Holds c.args.tables before → closed_in before ≡ Ok c.in_ok-draft-2.draft
whole c before holds =
    closed_ok before c.in_ok-needed.needed c.in_ok-draft-2.draft (needed_held c.args.tables before holds (Ok c.in_ok-needed.needed) c.in_ok-needed.ensures)
    (ap (bounded (chances_of (reactions_said before))) (sym (c.in_ok-draft.ensures.content before holds)) ∙ sym (c.in_ok-draft-2.ensures (chances_of (reactions_said before)) (subst (λ chances. has_chances chances c.in_ok-draft.draft ≡ true) holds.reactions.chances c.in_ok-draft.ensures.shared)))

pub of-requires : goal.of-requires
of-requires c = closed_is_sound c.requires.0 c.in_ok-draft-2.draft c.requires.2 (whole c c.requires.0 c.requires.1)

pub returns-clause-accepted : goal.returns-clause-accepted
returns-clause-accepted c before holds = whole (goal.at.returns-clause-accepted c).In_ok-draft-2 before holds ∙ ap (λ (draft : Draft). Ok draft) (sym c.of.ensures)

pub returns-in_err-needed-clause-refused : goal.returns-in_err-needed-clause-refused
returns-in_err-needed-clause-refused c kind before is holds =
    let p = err_from_is_err_and c.from_residual.result c.from_residual.ensures.1 in
    let told : c.in_err-needed.field-0.0 ≡ kind = cc (p.1, p.2, is) in
    closed_missing before kind (needed_held c.args.tables before holds _ c.in_err-needed.ensures ∙ ap (λ (why : Kind). Err why) told)

pub returns-in_err-draft-clause-refused : goal.returns-in_err-draft-clause-refused
returns-in_err-draft-clause-refused c kind before is holds =
    let p = err_from_is_err_and c.from_residual-in_err-draft.result c.from_residual-in_err-draft.ensures.1 in
    closed_excess before c.in_ok-needed.needed kind (needed_held c.args.tables before holds (Ok c.in_ok-needed.needed) c.in_ok-needed.ensures) (c.in_err-draft.ensures.refused kind before (cc (p.1, p.2, is)) holds)

pub returns-in_err-draft-2-clause-refused : goal.returns-in_err-draft-2-clause-refused
returns-in_err-draft-2-clause-refused c kind before is holds =
    let p = err_from_is_err_and c.from_residual-in_err-draft-2.result c.from_residual-in_err-draft-2.ensures.1 in
    let told : c.in_err-draft-2.field-0.0 ≡ kind = cc (p.1, p.2, is) in
    closed_excess before c.in_ok-needed.needed kind (needed_held c.args.tables before holds (Ok c.in_ok-needed.needed) c.in_ok-needed.ensures)
    (ap (bounded (chances_of (reactions_said before))) (sym (c.in_ok-draft.ensures.content before holds)) ∙ sym (c.in_err-draft-2.ensures (chances_of (reactions_said before)) (subst (λ chances. has_chances chances c.in_ok-draft.draft ≡ true) holds.reactions.chances c.in_ok-draft.ensures.shared)) ∙ ap (λ (why : Kind). Err why) told)
