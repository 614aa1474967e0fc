-- When two states of the machine are one.
use Rattle.std.proofs.Common.{◌≡◌, ℕ}
use Rattle.smol_plan.specs.declared.pair.Side.{Side}
use Rattle.smol_plan.specs.Machine.{State}

-- two states are one where their parts agree everywhere
pub State-same : (s t : State) → ((k : ℕ) → s.taken k ≡ t.taken k) → ((k : ℕ) → s.decision k ≡ t.decision k) → ((k : ℕ) (side : Side) → s.told k side ≡ t.told k side) → ((w k : ℕ) → s.holds w k ≡ t.holds w k) → ((w k : ℕ) (side : Side) → s.owes w k side ≡ t.owes w k side) → s ≡ t
State-same s t taken decision told holds owes =
    λ i. record {
      taken = λ k. taken k i;
      decision = λ k. decision k i;
      told = λ k side. told k side i;
      holds = λ w k. holds w k i;
      owes = λ w k side. owes w k side i;
    }
