use Rattle.std.proofs.Common.{Some, ◌≤◌, ℕ, length, subst, sym, ap, ◌∙◌}
use Rattle.smol_types.specs.Limits.{most_reactions}
use Rattle.smol_line.specs.LookingBack.{say}
use Rattle.smol_reactions.specs.ProductPlacement.{product_placement_in}
use Rattle.smol_reactions.specs.Numbered.{changed}
use Rattle.smol_reactions.specs.ReactionSaid.{places}
use Rattle.smol_reactions.specs.Changes.{with_placement}
use Rattle.smol_reactions.specs.Content.{kinds_of, reactions_of}
use Rattle.smol_reactions.proofs.Lists.{length-changed}
use Rattle.smol_reactions.proofs.TableLemmas.{alike, number_said, placed_mild}
use Rattle.smol_reactions.proofs.MoreSaid.{kinds_more, placement_more}
use Rattle.smol_reactions.proofs.reactions.Reactions.read_product_placement.Goals as goal

pub returns-clause-kept : goal.returns-clause-kept
returns-clause-kept c =
    let old = c.requires.kept in
    let placement = c.in_ok-number.placement in
    let like = alike (with_placement placement) c.from-number.result c.args.self.now.list.items c.set_placement.new.list.items (placed_mild placement) c.set_placement.ensures old.products old.rates in
    record {
      names = old.names ∙ sym like.names;
      kinds = ap length c.set_kind.ensures ∙ length-changed (λ _. Some c.placement_kind_of.result) c.from-number.result c.args.self.now.kinds.items ∙ old.kinds ∙ sym like.count;
      chances = old.chances ∙ sym like.count;
      products = like.products;
      rates = like.rates;
      few = subst (λ (n : ℕ). n ≤ most_reactions) (sym like.count) old.few;
    }

pub returns-clause-reads : goal.returns-clause-reads
returns-clause-reads c said holds =
    let number = c.in_ok-number.number in
    let placement = c.in_ok-number.placement in
    let list = c.as_slice.ensures.value ∙ holds.list in
    let kinds = c.as_slice-2.ensures.value ∙ holds.kinds in
    let is = c.set_placement.ensures ∙ ap (changed (with_placement placement) c.from-number.result) holds.list ∙ ap (λ (n : ℕ). changed (with_placement placement) n (reactions_of said)) c.from-number.ensures in
    let kind = c.set_kind.ensures
    ∙ ap (changed (λ _. Some c.placement_kind_of.result) c.from-number.result) holds.kinds
    ∙ ap (λ (n : ℕ). changed (λ _. Some c.placement_kind_of.result) n (kinds_of said)) c.from-number.ensures
    ∙ ap (λ kind. changed (λ _. Some kind) number (kinds_of said)) c.placement_kind_of.ensures in
    let rule =
    ap (λ reactions. product_placement_in c.args.dims c.args.species.now reactions (kinds_of said) c.args.line.now) (sym list)
    ∙ ap (λ kinds. product_placement_in c.args.dims c.args.species.now c.as_slice.result.now kinds c.args.line.now) (sym kinds)
    ∙ sym c.in_ok-number.ensures.rule in (
      places number placement,
      ap (say (λ given. places given.0 given.1)) rule,
      record {
        list = is ∙ sym (placement_more said number placement);
        kinds = kind ∙ sym (kinds_more said number placement);
        chances = holds.chances;
        ordered = (number_said c.as_slice.result.now said number list c.in_ok-number.ensures.within, holds.ordered);
      },
    )
