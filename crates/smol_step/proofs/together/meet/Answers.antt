use Rattle.std.proofs.Common.{ap, map, sym, subst, ◌∙◌}
use Rattle.smol_types.specs.declared.draft.Draft.{Draft}
use Rattle.smol_types.specs.Limits.{last_serial}
use Rattle.smol_plan.specs.Pair.{IsOrdered}
use Rattle.smol_meaning.specs.Encounters.{encounters_of}
use Rattle.smol_pairs.specs.Encounters.{ranks_of}
use Rattle.smol_pairs.proofs.Meetings.{candidates_ordered}
use Rattle.smol_step.proofs.together.meet.Goals as goal

pub match_pairs-requires-clause-ordered : goal.match_pairs-requires-clause-ordered
match_pairs-requires-clause-ordered g c κs within =
    let draft = c.args.setup.now in
    let seed = c.args.turn.now.seed in
    let k = c.args.turn.now.k in
    let mols = c.args.mols.now in
    let met = c.deref-2.ensures.value ∙ c.in_ok-met.ensures.encounters ∙ ap (λ (draft : Draft). map ranks_of (encounters_of draft seed k mols)) c.panels.ensures in
    subst IsOrdered (sym (c.in_ok-pairs.ensures.candidates draft seed k met)) (candidates_ordered draft seed k 0 last_serial mols c.requires.moved.serials)
