-- What decides among the plates that are met.
use Rattle.std.proofs.Common.{⊎_elim, ◌≡◌, ℕ, nat_le, true, inl, inr, List, [], ◌∷◌, refl, sym, ◌∙◌, ap, arith, ℤ, pos, ◌≤ℤ◌, ◌*ℤ◌, int_le}
use Rattle.std.proofs.lemmas.Bool.{cases_Bool, cond_both, le-leb, and_from, and_parts}
use Rattle.std.proofs.lemmas.Int.{ints}
use borrow.Author.Differences.{le-true, le-false}
use Rattle.smol_geom.specs.declared.place.Place.{Place}
use Rattle.smol_geom.specs.declared.place.Step3.{Step3}
use Rattle.smol_geom.specs.declared.moment.Moment.{Moment}
use Rattle.smol_geom.specs.declared.fold.Fold.{Fold}
use Rattle.smol_geom.specs.declared.rect.Rect.{Rect}
use Rattle.smol_geom.specs.Fraction.{Fraction, whole, ◌≤ℚ◌}
use Rattle.smol_geom.specs.Rect.{HoldsPoint}
use Rattle.smol_meaning.specs.declared.way.Response.{Response}
use Rattle.smol_meaning.specs.declared.way.Response.TheVariants.{Reflect, Absorb, Jump, Pass}
use Rattle.smol_meaning.specs.declared.sheet.Sheet.{Sheet}
use Rattle.smol_meaning.specs.declared.sheet.Sheet.TheVariants.{Rectangle, Plane}
use Rattle.smol_meaning.specs.declared.way.Effect.{Effect}
use Rattle.smol_meaning.specs.Plates.{Plate, IsOn, is_between, is_in_rect, is_on, is_met, goes_up, effect_of, response_of, effects_met, first_of, precedence, deciding}
use Rattle.smol_meaning.specs.Way.{deciding_at}
use Rattle.smol_geom.specs.Moments.{Has}
use Rattle.smol_geom.proofs.Integers.{sums}

at_most_from : (a b : ℤ) → a ≤ℤ b → int_le a b ≡ true
at_most_from a b h = ⊎_elim (λ e. e) (λ e. let no = le-false a b e in absurd (omega (arith, ints))) (cases_Bool (int_le a b))

at_most_is : (a b : ℤ) → int_le a b ≡ true → a ≤ℤ b
at_most_is a b e = let yes = le-true a b e in omega (arith, ints)

pub between_from : (low high : ℤ) (x : Fraction) → whole low ≤ℚ x → x ≤ℚ whole high → is_between low high x ≡ true
between_from low high x l h = and_from _ _ (at_most_from _ _ l) (at_most_from _ _ h)

pub between_is : (low high : ℤ) (x : Fraction) → is_between low high x ≡ true → (whole low ≤ℚ x) × (x ≤ℚ whole high)
between_is low high x e = let p = and_parts _ _ e in (at_most_is _ _ p.0, at_most_is _ _ p.1)

-- the test says whether the rectangle holds the point
pub holds_from : (rect : Rect) (point : ℕ → Fraction) → HoldsPoint rect point → is_in_rect rect point ≡ true
holds_from rect point h =
    and_from _ _ (between_from _ _ (point 0) h.0.low h.0.high)
    (and_from _ _ (between_from _ _ (point 1) h.1.low h.1.high) (between_from _ _ (point 2) h.2.low h.2.high))

pub holds_is : (rect : Rect) (point : ℕ → Fraction) → is_in_rect rect point ≡ true → HoldsPoint rect point
holds_is rect point e =
    let p = and_parts _ _ e in
    let q = and_parts _ _ p.1 in
    let x = between_is _ _ (point 0) p.0 in
    let y = between_is _ _ (point 1) q.0 in
    let z = between_is _ _ (point 2) q.1 in
    (record { low = x.0; high = x.1 }, record { low = y.0; high = y.1 }, record { low = z.0; high = z.1 })

-- a number is from a whole number to itself where it is that number
pub both_ends : (plane n d : ℤ) → n *ℤ pos 1 ≡ plane *ℤ d → ((plane *ℤ d) ≤ℤ (n *ℤ pos 1)) × ((n *ℤ pos 1) ≤ℤ (plane *ℤ d))
both_ends plane n d e = (omega (arith, sums, e), omega (arith, sums, e))

one_number : (plane n d : ℤ) → (plane *ℤ d) ≤ℤ (n *ℤ pos 1) → (n *ℤ pos 1) ≤ℤ (plane *ℤ d) → n *ℤ pos 1 ≡ plane *ℤ d
one_number plane n d low high = omega (arith, sums, low, high)

pub on_is : (sheet : Sheet) (point : ℕ → Fraction) → is_on sheet point ≡ true → IsOn sheet point
on_is (Rectangle rect) point e = holds_is rect point e
on_is (Plane axis plane) point e =
    let ends = between_is plane plane (point axis) e in
    one_number plane (point axis).num (pos (point axis).den) ends.0 ends.1

-- a response of the least precedence reflects
least : (response : Response) → nat_le (precedence response) 0 ≡ true → response ≡ Reflect
least Reflect l = refl
least (Absorb n) l = absurd (cc l)
least (Jump by up) l = absurd (cc l)
least Pass l = absurd (cc l)

-- an effect that reflects decides before any other, whatever it makes of the species
first_reflects : (effect later : Effect) → later.response ≡ Reflect → (first_of effect later).response ≡ Reflect
first_reflects effect later reflects =
    cond_both (nat_le (precedence effect.response) (precedence later.response)) effect later (λ (one : Effect). one.response ≡ Reflect)
    (λ l. least effect.response (ap (λ r. nat_le (precedence effect.response) (precedence r)) (sym reflects) ∙ l))
    (λ l. reflects)

module _ (from : Place) (by : Step3) (f : Fold) (m : Moment) (species : ℕ) where
  -- where a plate is met that reflects, it decides: the motion turns back
  pub reflect_decides : (plates : List Plate) (plate : Plate) → Has plates plate → is_met from by f m plate.sheet ≡ true
      → response_of plate (goes_up by f m.axis) species ≡ Reflect → (deciding_at plates from by f m species).response ≡ Reflect
  unfolding deciding effects_met
  reflect_decides [] plate h met reflects = absurd h
  reflect_decides (p ∷ plates) plate (inl same) met reflects =
      let here : is_met from by f m p.sheet ≡ true = ap (λ (x : Plate). is_met from by f m x.sheet) same ∙ met in
      let response : response_of p (goes_up by f m.axis) species ≡ Reflect = ap (λ x. response_of x (goes_up by f m.axis) species) same ∙ reflects in
      rw (here, response, le-leb 0 (precedence (deciding_at plates from by f m species).response) (omega arith)) response
  reflect_decides (p ∷ plates) plate (inr there) met reflects =
      let later = reflect_decides plates plate there met reflects in
      cond_both (is_met from by f m p.sheet) (effect_of p (goes_up by f m.axis) species ∷ effects_met plates from by f m species) (effects_met plates from by f m species) (λ acts. (deciding species acts).response ≡ Reflect)
      (λ e. first_reflects (effect_of p (goes_up by f m.axis) species) (deciding_at plates from by f m species) later)
      (λ e. later)
