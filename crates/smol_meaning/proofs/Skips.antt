-- Moments at which nothing changes can be skipped.
use Rattle.std.proofs.Common.{◌≡◌, ℕ, ◌+◌, ◌<◌, Bool, true, false, ◌⊎◌, inl, inr, ⊎_elim, List, [], ◌∷◌, length, refl, sym, ◌∙◌, ap, arith}
use Rattle.std.specs.List.{filter}
use Rattle.std.proofs.lemmas.Bool.{cases_Bool, both_ways, cond_both}
use Rattle.smol_geom.specs.declared.place.Place.{Place}
use Rattle.smol_geom.specs.declared.place.Step3.{Step3}
use Rattle.smol_geom.specs.declared.moment.Moment.{Moment}
use Rattle.smol_geom.specs.declared.fold.Fold.{Fold}
use Rattle.smol_meaning.specs.declared.way.Standing.TheVariants.{Goes}
use Rattle.smol_geom.specs.Moments.{Has, IsInOrder}
use Rattle.smol_geom.specs.Moments.{is_before, moments_after}
use Rattle.smol_meaning.specs.Plates.{Plate, effects_met, deciding}
use Rattle.smol_meaning.specs.Way.{after_effect, after_moment, after_moments}
use Rattle.smol_geom.proofs.Order.{before_not_back, not_before_itself, before_trans}

-- what passes a test is all that there was where all pass it
pub filter_all : (p : Moment → Bool) (ms : List Moment) → ((n : Moment) → Has ms n → p n ≡ true) → filter p ms ≡ ms
filter_all p [] all = refl
filter_all p (m ∷ ms) all =
    rw (all m (inl refl)) (ap (λ xs. m ∷ xs) (filter_all p ms (λ n h. all n (inr h))))

-- what is in a filtered list is in the list, and passes
pub has_filtered : (p : Moment → Bool) (ms : List Moment) (n : Moment) → Has (filter p ms) n → Has ms n × (p n ≡ true)
has_filtered p [] n h = absurd h
has_filtered p (m ∷ ms) n h = ⊎_elim
    (λ (e : p m ≡ true). here e (rw e at h) (λ there. has_filtered p ms n there))
    (λ (e : p m ≡ false). further e (rw e at h) (λ there. has_filtered p ms n there))
    (cases_Bool (p m))
  where
    here : p m ≡ true → (m ≡ n) ⊎ Has (filter p ms) n → (Has (filter p ms) n → Has ms n × (p n ≡ true)) → Has (m ∷ ms) n × (p n ≡ true)
    here e (inl same) more = (inl same, ap p (sym same) ∙ e)
    here e (inr there) more = let r = more there in (inr r.0, r.1)

    further : p m ≡ false → Has (filter p ms) n → (Has (filter p ms) n → Has ms n × (p n ≡ true)) → Has (m ∷ ms) n × (p n ≡ true)
    further e there more = let r = more there in (inr r.0, r.1)

-- and what passes is in the filtered list
pub filtered_has : (p : Moment → Bool) (ms : List Moment) (n : Moment) → Has ms n → p n ≡ true → Has (filter p ms) n
filtered_has p [] n h e = absurd h
filtered_has p (m ∷ ms) n (inl same) e =
    let passes : p m ≡ true = ap p same ∙ e in rw passes (inl same)
filtered_has p (m ∷ ms) n (inr there) e =
    cond_both (p m) (m ∷ filter p ms) (filter p ms) (λ xs. Has xs n)
    (λ is. inr (filtered_has p ms n there e))
    (λ is. filtered_has p ms n there e)

-- a filter leaves a list in order
pub filter_rises : (p : Moment → Bool) (ms : List Moment) → IsInOrder ms → IsInOrder (filter p ms)
filter_rises p [] up = tt
filter_rises p (m ∷ ms) up =
    cond_both (p m) (m ∷ filter p ms) (filter p ms) (λ xs. IsInOrder xs)
    (λ is. ((λ n h. up.0 n (has_filtered p ms n h).0), filter_rises p ms up.1))
    (λ is. filter_rises p ms up.1)

filter_not_longer : (p : Moment → Bool) (ms : List Moment) → length (filter p ms) < length ms + 1
filter_not_longer p [] = omega arith
filter_not_longer p (m ∷ ms) =
    cond_both (p m) (m ∷ filter p ms) (filter p ms) (λ xs. length xs < length (m ∷ ms) + 1)
    (λ is. omega (arith, filter_not_longer p ms))
    (λ is. omega (arith, filter_not_longer p ms))

-- a filter that drops one shortens the list
pub filter_shorter : (p : Moment → Bool) (ms : List Moment) (n : Moment) → Has ms n → p n ≡ false → length (filter p ms) < length ms
filter_shorter p [] n h e = absurd h
filter_shorter p (m ∷ ms) n (inl same) e =
    let fails : p m ≡ false = ap p same ∙ e in rw fails (omega (arith, filter_not_longer p ms))
filter_shorter p (m ∷ ms) n (inr there) e =
    cond_both (p m) (m ∷ filter p ms) (filter p ms) (λ xs. length xs < length (m ∷ ms))
    (λ is. omega (arith, filter_shorter p ms n there e))
    (λ is. omega (arith, filter_shorter p ms n there e))

-- those after the later one are those of them after the earlier one
pub after_after : (a b : Moment) (ms : List Moment) → is_before a b ≡ true → 0 < a.den → 0 < b.den → ((n : Moment) → Has ms n → 0 < n.den)
    → moments_after b (moments_after a ms) ≡ moments_after b ms
after_after a b [] l pa pb dens = refl
after_after a b (m ∷ ms) l pa pb dens =
    step (after_after a b ms l pa pb (λ n h. dens n (inr h))) (is_before a m) refl (is_before b m) refl
  where
    step : moments_after b (moments_after a ms) ≡ moments_after b ms → (x : Bool) → is_before a m ≡ x → (y : Bool) → is_before b m ≡ y → moments_after b (moments_after a (m ∷ ms)) ≡ moments_after b (m ∷ ms)
    step rest true e true f = rw (e, f) (ap (λ xs. m ∷ xs) rest)
    step rest true e false f = rw (e, f) rest
    step rest false e true f = absurd (both_ways _ e (before_trans a b m pa pb (dens m (inl refl)) l f))
    step rest false e false f = rw (e, f) rest

module _ (plates : List Plate) (from : Place) (by : Step3) (f : Fold) (species : ℕ) where
  -- the moment leaves the fold and the species as they are
  abbrev pub Keeps : Moment → Type 0
  Keeps m = after_moment plates from by (Goes f species) m ≡ Goes f species

  -- no plate responds at the moment
  abbrev pub IsFree : Moment → Type 0
  IsFree m = effects_met plates from by f m species ≡ []

  pub keeps_free : (m : Moment) → IsFree m → Keeps m
  unfolding deciding
  keeps_free m free = ap (λ acts. after_effect from by f m (deciding species acts)) free

  -- where no moment of a list changes them, the list doesn't
  pub skip_all : (ms : List Moment) → ((m : Moment) → Has ms m → Keeps m) → after_moments plates from by (Goes f species) ms ≡ Goes f species
  unfolding after_moments
  skip_all [] keep = refl
  skip_all (m ∷ ms) keep =
      ap (λ s. after_moments plates from by s ms) (keep m (inl refl)) ∙ skip_all ms (λ n h. keep n (inr h))

  -- where no moment before n changes them, the way goes on from n with the moments after n
  pub skip_to : (n : Moment) (ms : List Moment) → IsInOrder ms → Has ms n
      → ((m : Moment) → Has ms m → is_before m n ≡ true → Keeps m)
      → after_moments plates from by (Goes f species) ms ≡ after_moments plates from by (after_moment plates from by (Goes f species) n) (moments_after n ms)
  unfolding after_moments
  skip_to n [] up h keep = absurd h
  skip_to n (m ∷ ms) up (inl same) keep =
      let not_itself : is_before n m ≡ false = ap (is_before n) same ∙ not_before_itself n in
      let all_after : filter (is_before n) ms ≡ ms = filter_all (is_before n) ms (λ k h. ap (λ x. is_before x k) (sym same) ∙ up.0 k h) in
      let here : moments_after n (m ∷ ms) ≡ ms = rw not_itself all_after in
      (λ i. after_moments plates from by (after_moment plates from by (Goes f species) (same i)) ms)
      ∙ ap (λ xs. after_moments plates from by (after_moment plates from by (Goes f species) n) xs) (sym here)
  skip_to n (m ∷ ms) up (inr there) keep =
      let earlier : is_before m n ≡ true = up.0 n there in
      let dropped : moments_after n (m ∷ ms) ≡ moments_after n ms = rw (before_not_back m n earlier) refl in
      ap (λ s. after_moments plates from by s ms) (keep m (inl refl) earlier)
      ∙ skip_to n ms up.1 there (λ k h. keep k (inr h))
      ∙ ap (λ xs. after_moments plates from by (after_moment plates from by (Goes f species) n) xs) (sym dropped)
