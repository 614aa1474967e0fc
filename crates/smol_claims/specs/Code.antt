-- How a decision stands in a word.
use Rattle.std.specs.Prelude.{ℕ, suc, ◌≡◌, ◌+◌, ◌/◌, ◌%◌, ◌⊎◌, ◌==◌, List, Option, Some, None, if◌then◌else◌}
use Rattle.smol_plan.specs.declared.pair.Pair.{Pair}
use Rattle.smol_plan.specs.declared.pair.Side.TheVariants.{Low, High}
use Rattle.smol_plan.specs.declared.decision.Decision.{Decision}
use Rattle.smol_plan.specs.Pair.{molecule_at}
use Rattle.smol_plan.specs.Matching.{fires}
use Rattle.smol_plan.specs.Links.{is_taken_before}

-- the word of a decision: 1, 2 where the pair fired, 4 where its molecule a is taken after it, and 8 where b is
abbrev pub code_of : Decision → ℕ
code_of d = 1 + (if d.fired then 2 else 0) + (if d.low_taken then 4 else 0) + (if d.high_taken then 8 else 0)

-- the decision in a word, which is none at 0
abbrev pub decision_in : ℕ → Option Decision
decision_in word =
    if word == 0 then None
    else Some record { fired = (word / 2) % 2 == 1; low_taken = (word / 4) % 2 == 1; high_taken = (word / 8) % 2 == 1 }

-- what serial matching decides of a pair
abbrev pub serial_decision : List Pair → ℕ → Decision
serial_decision pairs j =
    record {
      fired = fires pairs j;
      low_taken = is_taken_before pairs (molecule_at pairs j Low) (suc j);
      high_taken = is_taken_before pairs (molecule_at pairs j High) (suc j);
    }

-- the word is 0, or that of what serial matching decides of the pair
abbrev pub IsCodeOf : List Pair → ℕ → ℕ → Type 0
IsCodeOf pairs j word = (word ≡ 0) ⊎ (word ≡ code_of (serial_decision pairs j))
