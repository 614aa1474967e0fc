-- What is decided of a pair, and what that says of its molecules.
use Rattle.std.specs.Prelude.{ℕ, suc, ◌≡◌, Bool, not, ◌||◌, List}
use Rattle.smol_plan.specs.declared.pair.Pair.{Pair}
use Rattle.smol_plan.specs.declared.pair.Side.{Side}
use Rattle.smol_plan.specs.declared.pair.Side.TheVariants.{Low, High}
use Rattle.smol_plan.specs.declared.decision.Decision.{Decision}
use Rattle.smol_plan.specs.Pair.{molecule_at}
use Rattle.smol_plan.specs.Links.{is_taken_before}

-- whether the molecule on a side is taken after the pair
abbrev pub is_taken_on : Decision → Side → Bool
is_taken_on d Low = d.low_taken
is_taken_on d High = d.high_taken

-- a pair fires where neither of its molecules is taken before it, and then both are taken
abbrev pub decision_after : Bool → Bool → Decision
decision_after low high =
    let fired = not (low || high) in
    record { fired = fired; low_taken = low || fired; high_taken = high || fired }

-- the decision says of each molecule of the pair whether it is taken after the pair
abbrev pub TellsTaken : List Pair → ℕ → Decision → Type 0
TellsTaken pairs j d =
    (side : Side) → is_taken_on d side ≡ is_taken_before pairs (molecule_at pairs j side) (suc j)
