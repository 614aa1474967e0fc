use Rattle.std.proofs.Common.{◌++◌, [], ◌∷◌, None, sym, ap, ◌∙◌}
use Rattle.smol_line.specs.LookingBack.{say}
use Rattle.smol_reactions.specs.Reaction.{reaction_names_of, reaction_in}
use Rattle.smol_reactions.specs.ReactionSaid.{reacts}
use Rattle.smol_reactions.specs.Changes.{fresh_reaction}
use Rattle.smol_reactions.proofs.MoreSaid.{reaction_more, kind_none, chance_none}
use Rattle.smol_reactions.proofs.reactions.Reactions.read_reaction.Goals as goal

pub returns-clause-reads : goal.returns-clause-reads
returns-clause-reads c said holds =
    let scheme = c.in_ok-scheme.scheme in
    let names = c.requires.kept.names ∙ ap reaction_names_of holds.list in (
      reacts scheme,
      ap (say reacts) (ap (λ known. reaction_in c.args.species.now known c.args.line.now) (sym names) ∙ c.in_ok-scheme.ensures.rule),
      record {
        list = c.in_ok-add.ensures.list ∙ ap (λ old. old ++ fresh_reaction scheme ∷ []) holds.list ∙ sym (reaction_more said scheme holds.ordered);
        kinds = c.in_ok-add.ensures.kinds ∙ ap (λ old. old ++ None ∷ []) holds.kinds ∙ sym (kind_none said scheme holds.ordered);
        chances = c.in_ok-add.ensures.chances ∙ ap (λ old. old ++ None ∷ []) holds.chances ∙ sym (chance_none said scheme holds.ordered);
        ordered = holds.ordered;
      },
    )
