use Rattle.std.proofs.Common.{◌≡◌, ℕ, ◌+◌, ◌-◌, false, nat_le, sum_by, sym, ap, ◌∙◌, arith}
use Rattle.smol_types.specs.Limits.{certain}
use Rattle.smol_types.specs.Reactions.{share_of}
use Rattle.smol_reactions.specs.Rates.{are_enough}
use Rattle.smol_reactions.proofs.Rated.{not_enough}
use Rattle.smol_reactions.proofs.rates.are_enough.Goals as goal

pub returns-then-not-has_enough : goal.returns-then-not-has_enough
returns-then-not-has_enough c =
    let reactions = c.args.reactions.now in
    let species = c.loop-species.species in
    let more = c.args.species_count - species - 1 in
    let count : species + 1 + more ≡ c.args.species_count = let below = c.loop-species-test.true in omega (arith, below) in
    let past : nat_le (sum_by (share_of species) reactions) certain ≡ false = sym c.has_enough.ensures ∙ c.if-not-has_enough.true in
    sym (ap (λ (n : ℕ). are_enough n reactions) (sym count) ∙ not_enough more species reactions past)
