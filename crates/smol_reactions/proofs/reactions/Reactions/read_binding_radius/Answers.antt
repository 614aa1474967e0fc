use Rattle.std.proofs.Common.{◌≤◌, ℕ, subst, refl, sym, ap, ◌∙◌}
use Rattle.smol_types.specs.Limits.{most_reactions}
use Rattle.smol_line.specs.LookingBack.{say}
use Rattle.smol_reactions.specs.BindingRadius.{binding_radius_in}
use Rattle.smol_reactions.specs.Numbered.{changed}
use Rattle.smol_reactions.specs.ReactionSaid.{binds}
use Rattle.smol_reactions.specs.Changes.{with_radius}
use Rattle.smol_reactions.specs.Content.{reactions_of}
use Rattle.smol_reactions.proofs.TableLemmas.{alike, number_said}
use Rattle.smol_reactions.proofs.MoreSaid.{radius_more}
use Rattle.smol_reactions.proofs.reactions.Reactions.read_binding_radius.Goals as goal

pub returns-clause-kept : goal.returns-clause-kept
returns-clause-kept c =
    let old = c.requires.kept in
    let radius = c.in_ok-number.radius in
    let is = c.set_radius.ensures in
    let like = alike (with_radius radius) c.from.result c.args.self.now.list.items c.set_radius.new.list.items (record { name = λ reaction. refl; products = λ reaction few. few; rates = λ reaction small. small }) is old.products old.rates in
    record {
      names = old.names ∙ sym like.names;
      kinds = old.kinds ∙ sym like.count;
      chances = old.chances ∙ sym like.count;
      products = like.products;
      rates = like.rates;
      few = subst (λ (n : ℕ). n ≤ most_reactions) (sym like.count) old.few;
    }

pub returns-clause-reads : goal.returns-clause-reads
returns-clause-reads c said holds =
    let number = c.in_ok-number.number in
    let radius = c.in_ok-number.radius in
    let list = c.as_slice.ensures.value ∙ holds.list in
    let is = c.set_radius.ensures ∙ ap (changed (with_radius radius) c.from.result) holds.list ∙ ap (λ (n : ℕ). changed (with_radius radius) n (reactions_of said)) c.from.ensures in (
      binds number radius,
      ap (say (λ given. binds given.0 given.1)) (ap (λ reactions. binding_radius_in reactions c.args.line.now) (sym list) ∙ sym c.in_ok-number.ensures.rule),
      record {
        list = is ∙ sym (radius_more said number radius);
        kinds = holds.kinds;
        chances = holds.chances;
        ordered = (number_said c.as_slice.result.now said number list c.in_ok-number.ensures.within, holds.ordered);
      },
    )
