use Rattle.std.proofs.Common.{All, map, sym, subst, ap, ◌∙◌}
use Rattle.smol_types.specs.declared.draft.Draft.{Draft}
use Rattle.smol_types.specs.Limits.{last_serial}
use Rattle.smol_plan.specs.Pair.{IsOrdered}
use Rattle.smol_meaning.specs.Encounters.{encounters_of}
use Rattle.smol_pairs.specs.Encounters.{ranks_of}
use Rattle.smol_pairs.specs.Moved.{IsAmong}
use Rattle.smol_pairs.proofs.Meetings.{candidates_among, candidates_ordered}
use Rattle.smol_pairs.proofs.pairing.candidates.Goals as goal

pub returns-clause-pairs : goal.returns-clause-pairs
returns-clause-pairs g c =
    c.in_ok-pairs.ensures.candidates c.args.config.now c.args.seed c.args.k
    (c.deref.ensures.value ∙ c.in_ok-encounters.ensures.encounters
    ∙ ap (λ (draft : Draft). map ranks_of (encounters_of draft c.args.seed c.args.k c.args.mols.now)) c.in_ok-panels.ensures)

pub returns-clause-ordered : goal.returns-clause-ordered
returns-clause-ordered g c =
    subst IsOrdered (sym (returns-clause-pairs g c))
    (candidates_ordered c.args.config.now c.args.seed c.args.k 0 last_serial c.args.mols.now c.requires.moved.serials)

pub returns-clause-among : goal.returns-clause-among
returns-clause-among g c =
    subst (All (IsAmong c.args.config.now c.args.seed c.args.k c.args.mols.now)) (sym (returns-clause-pairs g c))
    (candidates_among c.args.config.now c.args.seed c.args.k c.args.mols.now)
