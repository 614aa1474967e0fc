-- Two sides are one, or the one and the other; and what a pair has on a side.
use Rattle.std.proofs.Common.{◌≡◌, ℕ, ◌<◌, true, List, length, refl, arith}
use Rattle.std.proofs.lemmas.Bool.{false≢true, or_left, or_right, eq-eqb}
use Rattle.smol_plan.specs.declared.pair.Pair.{Pair}
use Rattle.smol_plan.specs.declared.pair.Side.{Side}
use Rattle.smol_plan.specs.declared.pair.Side.TheVariants.{Low, High}
use Rattle.smol_plan.specs.Pair.{is_side, pair_at, molecule_at, no_pair, IsOrdered}
use Rattle.smol_plan.specs.Links.{has_at}

pub is_side-true : (s t : Side) → is_side s t ≡ true → s ≡ t
is_side-true Low Low e = refl
is_side-true Low High e = absurd (false≢true e)
is_side-true High Low e = absurd (false≢true e)
is_side-true High High e = refl

pub is_side-refl : (s : Side) → is_side s s ≡ true
is_side-refl Low = refl
is_side-refl High = refl

pub low_is_high : Low ≡ High → ⊥
low_is_high e = cc

-- a pair has the molecule that it has on a side
pub has_on_side : (pairs : List Pair) (m j : ℕ) (side : Side) → molecule_at pairs j side ≡ m → has_at pairs m j ≡ true
has_on_side pairs m j Low e = or_left _ _ (eq-eqb _ _ e)
has_on_side pairs m j High e = or_right _ _ (eq-eqb _ _ e)

-- the two molecules of a pair differ
ordered_at : (pairs : List Pair) → IsOrdered pairs → (j : ℕ) → j < length pairs → (pair_at pairs j).a < (pair_at pairs j).b
ordered_at pairs h j l = h j no_pair l

-- a pair has a molecule on one side alone
pub one_side : (pairs : List Pair) → IsOrdered pairs → (j : ℕ) (s t : Side) → j < length pairs → molecule_at pairs j s ≡ molecule_at pairs j t → s ≡ t
one_side pairs h j Low Low l e = refl
one_side pairs h j Low High l e = absurd (omega (arith, ordered_at pairs h j l))
one_side pairs h j High Low l e = absurd (omega (arith, ordered_at pairs h j l))
one_side pairs h j High High l e = refl
