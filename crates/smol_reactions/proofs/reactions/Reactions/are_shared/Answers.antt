use Rattle.std.proofs.Common.{◌≡◌, ℕ, ◌+◌, ◌-◌, ◌<◌, sym, ap, ◌∙◌, arith, subst}
use Rattle.smol_line.specs.Probability.{whole_chance}
use Rattle.smol_reactions.specs.Content.{are_shared, chance_sum}
use Rattle.smol_reactions.proofs.Chances.{unshared}
use Rattle.smol_reactions.proofs.reactions.Reactions.are_shared.Goals as goal

pub returns-then-chance_sum-gt-WHOLE_CHANCE : goal.returns-then-chance_sum-gt-WHOLE_CHANCE
returns-then-chance_sum-gt-WHOLE_CHANCE c =
    let table = c.args.self.now in
    let species = c.loop-species.species in
    let more = c.args.species_count - species - 1 in
    let count : species + 1 + more ≡ c.args.species_count = let below = c.loop-species-test.true in omega (arith, below) in
    let past : whole_chance < chance_sum species table.list.items table.chances.items = subst (λ (sum : ℕ). whole_chance < sum) c.chance_sum.ensures c.if-chance_sum-gt-WHOLE_CHANCE.true in
    sym (ap (λ (n : ℕ). are_shared n table.list.items table.chances.items) (sym count) ∙ unshared more species table.list.items table.chances.items past)
