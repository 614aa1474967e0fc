use Rattle.std.proofs.Common.{Some, ◌≤◌, ℕ, length, subst, refl, sym, ap, ◌∙◌}
use Rattle.smol_types.specs.Limits.{most_reactions}
use Rattle.smol_line.specs.LookingBack.{say}
use Rattle.smol_reactions.specs.ReactionProbability.{reaction_probability_in}
use Rattle.smol_reactions.specs.Numbered.{changed}
use Rattle.smol_reactions.specs.ReactionSaid.{happens}
use Rattle.smol_reactions.specs.Changes.{with_chance}
use Rattle.smol_reactions.specs.Content.{chances_of, reactions_of}
use Rattle.smol_reactions.proofs.Lists.{length-changed}
use Rattle.smol_reactions.proofs.TableLemmas.{alike, number_said}
use Rattle.smol_reactions.proofs.MoreSaid.{chance_more, chances_more}
use Rattle.smol_reactions.proofs.reactions.Reactions.read_reaction_probability.Goals as goal

pub returns-clause-kept : goal.returns-clause-kept
returns-clause-kept c =
    let old = c.requires.kept in
    let chance = c.in_ok-number.chance in
    let is = c.set_chance.ensures in
    let like = alike (with_chance chance) c.from.result c.args.self.now.list.items c.set_chance.new.list.items (record { name = λ reaction. refl; products = λ reaction few. few; rates = λ reaction small. tt }) is old.products old.rates in
    record {
      names = old.names ∙ sym like.names;
      kinds = old.kinds ∙ sym like.count;
      chances = ap length c.keep_chance.ensures ∙ length-changed (λ _. Some chance) c.from-2.result c.args.self.now.chances.items ∙ old.chances ∙ sym like.count;
      products = like.products;
      rates = like.rates;
      few = subst (λ (n : ℕ). n ≤ most_reactions) (sym like.count) old.few;
    }

pub returns-clause-reads : goal.returns-clause-reads
returns-clause-reads c said holds =
    let number = c.in_ok-number.number in
    let chance = c.in_ok-number.chance in
    let list = c.as_slice.ensures.value ∙ holds.list in
    let is = c.set_chance.ensures ∙ ap (changed (with_chance chance) c.from.result) holds.list ∙ ap (λ (n : ℕ). changed (with_chance chance) n (reactions_of said)) c.from.ensures in (
      happens number chance,
      ap (say (λ given. happens given.0 given.1)) (ap (λ reactions. reaction_probability_in reactions c.args.line.now) (sym list) ∙ sym c.in_ok-number.ensures.rule),
      record {
        list = is ∙ sym (chance_more said number chance);
        kinds = holds.kinds;
        chances = c.keep_chance.ensures ∙ ap (changed (λ _. Some chance) c.from-2.result) holds.chances ∙ ap (λ (n : ℕ). changed (λ _. Some chance) n (chances_of said)) c.from-2.ensures ∙ sym (chances_more said number chance);
        ordered = (number_said c.as_slice.result.now said number list c.in_ok-number.ensures.within, holds.ordered);
      },
    )
