-- What a word says of a decision.
use Rattle.std.proofs.Common.{◌≡◌, length, ◌<◌, ℕ, Bool, true, false, List, Some, refl, sym, ◌∙◌, ap, inl, inr}
use Rattle.std.specs.Option.{is_some}
use Rattle.std.proofs.lemmas.Bool.{false≢true}
use Rattle.smol_plan.specs.declared.pair.Pair.{Pair}
use Rattle.smol_plan.specs.declared.pair.Side.TheVariants.{Low, High}
use Rattle.smol_plan.specs.declared.decision.Decision.{Decision}
use Rattle.smol_plan.specs.Matching.{fires}
use Rattle.smol_plan.specs.PairState.{fired_of}
use Rattle.smol_plan.specs.Pair.{molecule_at}
use Rattle.smol_plan.specs.Links.{is_taken_before}
use Rattle.smol_plan.specs.Decision.{decision_after, TellsTaken}
use Rattle.smol_plan.proofs.TakenLemmas.{fires_free, TellsTaken-after}
use Rattle.smol_claims.specs.Code.{code_of, decision_in, serial_decision, IsCodeOf}

-- the word of a decision says that decision
pub decision_in-code_of : (d : Decision) → decision_in (code_of d) ≡ Some d
decision_in-code_of d = go d.fired d.low_taken d.high_taken
  where
    go : (fired low high : Bool) → decision_in (code_of record { fired = fired; low_taken = low; high_taken = high }) ≡ Some record { fired = fired; low_taken = low; high_taken = high }
    go true true true = refl
    go true true false = refl
    go true false true = refl
    go true false false = refl
    go false true true = refl
    go false true false = refl
    go false false true = refl
    go false false false = refl

-- what serial matching decides of a pair tells which of its molecules are taken
pub serial_decision-tells : (pairs : List Pair) (j : ℕ) → TellsTaken pairs j (serial_decision pairs j)
serial_decision-tells pairs j Low = refl
serial_decision-tells pairs j High = refl

-- a word that is not 0 says what serial matching decides
pub decision_in-serial : (pairs : List Pair) (j word : ℕ) → IsCodeOf pairs j word → (word ≡ 0 → ⊥) → decision_in word ≡ Some (serial_decision pairs j)
decision_in-serial pairs j word (inl e) n = absurd (n e)
decision_in-serial pairs j word (inr e) n = ap decision_in e ∙ decision_in-code_of (serial_decision pairs j)

-- a word that says a decision is not 0
pub not_zero : (word : ℕ) → is_some (fired_of (decision_in word)) ≡ true → word ≡ 0 → ⊥
not_zero word e z = false≢true (ap (λ w. is_some (fired_of (decision_in w))) (sym z) ∙ e)

-- what serial matching decides goes by which molecules are taken before the pair
pub serial_decision-after : (pairs : List Pair) (j : ℕ) (low high : Bool) → j < length pairs → low ≡ is_taken_before pairs (molecule_at pairs j Low) j → high ≡ is_taken_before pairs (molecule_at pairs j High) j → decision_after low high ≡ serial_decision pairs j
serial_decision-after pairs j low high l a b =
    let tells : TellsTaken pairs j (decision_after low high) = TellsTaken-after pairs j (decision_after low high) low high l a b refl in
    let fired : (decision_after low high).fired ≡ fires pairs j = rw (a, b) (sym (fires_free pairs j l)) in
    λ i. record { fired = fired i; low_taken = tells Low i; high_taken = tells High i }
