use Rattle.std.proofs.Common.{◌≡◌, true, false, ℕ, ℤ, pos, List, length, nat_le, unwrap_or, Err, sym, ap, ◌∙◌, to_z, of_z, w64}
use Rattle.std.specs.List.{list_all}
use Rattle.std.proofs.lemmas.Result.{err_from_is_err_and}
use Rattle.smol_types.specs.declared.fault.Kind.{Kind}
use Rattle.smol_types.specs.declared.fault.Kind.TheVariants.{ProbabilitySum, TooMany}
use Rattle.smol_types.specs.declared.species.Species.{Species}
use Rattle.smol_reactions.specs.Content.{are_shared, chances_of}
use Rattle.smol_config.specs.Reactions.{reactions_said}
use Rattle.smol_config.specs.Content.{content_of}
use Rattle.smol_config.specs.Tables.{species_made}
use Rattle.smol_config.specs.Whole.{has_chances, has_difstep}
use Rattle.smol_config.proofs.Drafts.{species_held, bounded-many, bounded-far, bounded-likely, length-species_made, shared_held, time_kept, start_within, few_steps, unless_fails}
use Rattle.smol_config.proofs.whole.parts_of.Goals as goal

pub returns-in_err-unless-clause-refused : goal.returns-in_err-unless-clause-refused
returns-in_err-unless-clause-refused c kind before is holds =
    let few = few_steps c.args.needed c.args.tables.now before c.unwrap_or-start.result c.last_step-few.result holds c.unwrap_or-start.ensures c.requires.start c.requires.stop c.requires.step c.last_step-few.ensures in
    let failed = unless_fails (nat_le c.last_step-few.result 4000000) c.in_err-unless.field-0.0 TooMany c.in_err-unless.ensures.fault in
    let p = err_from_is_err_and c.from_residual.result c.from_residual.ensures.1 in
    let told : TooMany ≡ kind = cc (p.1, p.2, is, failed.1) in
    bounded-many (chances_of (reactions_said before)) (content_of c.args.needed before) (sym few ∙ failed.0) ∙ ap (λ (why : Kind). Err why) told

pub returns-in_err-species-clause-refused : goal.returns-in_err-species-clause-refused
unfolding content_of
returns-in_err-species-clause-refused c kind before is holds =
    let tables = c.args.tables.now in
    let few = few_steps c.args.needed tables before c.unwrap_or-start.result c.last_step-few.result holds c.unwrap_or-start.ensures c.requires.start c.requires.stop c.requires.step c.last_step-few.ensures in
    let p = err_from_is_err_and c.from_residual-in_err-species.result c.from_residual-in_err-species.ensures.1 in
    let failed = c.in_err-species.ensures.refused kind (cc (p.1, p.2, is)) in
    let far : list_all has_difstep (content_of c.args.needed before).species ≡ false =
    ap (list_all has_difstep) (sym (species_held c.args.needed tables before holds))
    ∙ ap (λ (t : ℤ). list_all has_difstep (species_made t tables.species.motions.items 0 tables.species.names)) (sym (time_kept c.args.needed.step c.requires.step))
    ∙ failed.1 in
    bounded-far (chances_of (reactions_said before)) (content_of c.args.needed before) (sym few ∙ c.in_ok-unless.ensures.holds) far ∙ ap (λ (why : Kind). Err why) (sym failed.0)

pub returns-in_err-unless-2-clause-refused : goal.returns-in_err-unless-2-clause-refused
unfolding content_of
returns-in_err-unless-2-clause-refused c kind before is holds =
    let tables = c.args.tables.now in
    let few = few_steps c.args.needed tables before c.unwrap_or-start.result c.last_step-few.result holds c.unwrap_or-start.ensures c.requires.start c.requires.stop c.requires.step c.last_step-few.ensures in
    let near : list_all has_difstep (content_of c.args.needed before).species ≡ true =
    ap (list_all has_difstep) (sym (species_held c.args.needed tables before holds))
    ∙ ap (λ (t : ℤ). list_all has_difstep (species_made t tables.species.motions.items 0 tables.species.names)) (sym (time_kept c.args.needed.step c.requires.step))
    ∙ ap (list_all has_difstep) (sym c.in_ok-species.ensures.made)
    ∙ c.in_ok-species.ensures.near in
    let failed = unless_fails c.are_shared-shared.result c.in_err-unless-2.field-0.0 ProbabilitySum c.in_err-unless-2.ensures.fault in
    let p = err_from_is_err_and c.from_residual-in_err-unless-2.result c.from_residual-in_err-unless-2.ensures.1 in
    let told : ProbabilitySum ≡ kind = cc (p.1, p.2, is, failed.1) in
    let likely : has_chances (chances_of (reactions_said before)) (content_of c.args.needed before) ≡ false =
    sym (shared_held c.args.needed tables before holds)
    ∙ ap (λ (n : ℕ). are_shared n tables.reactions.list.items tables.reactions.chances.items) (sym c.len.ensures)
    ∙ sym c.are_shared-shared.ensures
    ∙ failed.0 in
    bounded-likely (chances_of (reactions_said before)) (content_of c.args.needed before) (sym few ∙ c.in_ok-unless.ensures.holds) near likely ∙ ap (λ (why : Kind). Err why) told

pub returns-clause-shared : goal.returns-clause-shared
returns-clause-shared c =
    let tables = c.args.tables.now in
    let count = ap (λ (species : List Species). length species) c.in_ok-species.ensures.made ∙ length-species_made (to_z w64 (of_z w64 c.args.needed.step)) tables.species.motions.items 0 tables.species.names ∙ sym c.len.ensures in
    ap (λ (n : ℕ). are_shared n tables.reactions.list.items tables.reactions.chances.items) count
    ∙ sym c.are_shared-shared.ensures
    ∙ c.in_ok-unless-2.ensures.holds

pub returns-clause-start : goal.returns-clause-start
returns-clause-start c =
    let tables = c.args.tables.now in
    ap (λ (t : ℤ). to_z w64 (of_z w64 t)) c.unwrap_or-start.ensures ∙ time_kept (unwrap_or tables.times.start (pos 0)) (start_within tables.times.start c.requires.start)

pub returns-clause-species : goal.returns-clause-species
returns-clause-species c =
    let tables = c.args.tables.now in
    c.in_ok-species.ensures.made ∙ ap (λ (t : ℤ). species_made t tables.species.motions.items 0 tables.species.names) (time_kept c.args.needed.step c.requires.step)
