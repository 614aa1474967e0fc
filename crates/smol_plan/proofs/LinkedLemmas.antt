-- The links that stand in the sorted entries of a list of pairs.
use Rattle.std.proofs.Common.{◌≡◌, ℕ, ◌+◌, ◌-◌, ◌<◌, ◌≤◌, Bool, true, false, ◌&&◌, ◌==◌, List, length, set, refl, sym, ◌∙◌, ap, inl, inr, ⊎_elim, arith, if◌then◌else◌, length-set, get_or-set_same, get_or-set_other}
use Rattle.std.proofs.lemmas.Bool.{cases_eq, eq-eqb, eqb-true, ne_eqb, and_parts, and_from, both_ways}
use Rattle.smol_plan.specs.declared.pair.Side.{Side}
use Rattle.smol_plan.specs.declared.pair.Side.TheVariants.{Low, High}
use Rattle.smol_plan.specs.declared.entries.Entry.{Entry}
use Rattle.smol_plan.specs.declared.plan.Links.{Links}
use Rattle.smol_plan.specs.Pair.{is_side}
use Rattle.smol_plan.specs.Entries.{entry_at}
use Rattle.smol_plan.specs.Linked.{unlinked, links_at, earlier_of, later_of, with_earlier, with_later, joined, IsOf, IsJoint, SoFar, LinkedUpTo, AreUnlinked, AreInside}
use Rattle.smol_plan.proofs.SideLemmas.{is_side-true, is_side-refl}

-- a write of one kind of neighbor leaves the other kind
earlier_of-with_later : (l : Links) (s side : Side) (i : ℕ) → earlier_of (with_later l side i) s ≡ earlier_of l s
earlier_of-with_later l Low Low i = refl
earlier_of-with_later l Low High i = refl
earlier_of-with_later l High Low i = refl
earlier_of-with_later l High High i = refl

later_of-with_earlier : (l : Links) (s side : Side) (i : ℕ) → later_of (with_earlier l side i) s ≡ later_of l s
later_of-with_earlier l Low Low i = refl
later_of-with_earlier l Low High i = refl
later_of-with_earlier l High Low i = refl
later_of-with_earlier l High High i = refl

earlier_of-with_earlier : (l : Links) (s side : Side) (i : ℕ) → earlier_of (with_earlier l side i) s ≡ (if is_side s side then i else earlier_of l s)
earlier_of-with_earlier l Low Low i = refl
earlier_of-with_earlier l Low High i = refl
earlier_of-with_earlier l High Low i = refl
earlier_of-with_earlier l High High i = refl

later_of-with_later : (l : Links) (s side : Side) (i : ℕ) → later_of (with_later l side i) s ≡ (if is_side s side then i else later_of l s)
later_of-with_later l Low Low i = refl
later_of-with_later l Low High i = refl
later_of-with_later l High Low i = refl
later_of-with_later l High High i = refl

-- the links at a place after a write at another, or at the same
links_at-set : (links : List Links) (a j : ℕ) (v : Links) → a < length links → links_at (set links a v) j ≡ (if j == a then v else links_at links j)
links_at-set links a j v l = ⊎_elim
    (λ (e : j ≡ a). rw (e, eq-eqb a a refl) (get_or-set_same links a v _ l))
    (λ (n : j ≡ a → ⊥). rw (ne_eqb j a n) (get_or-set_other links a j v _ n))
    (cases_eq j a)

-- after two pairs are joined: the one is the earlier neighbor of the other on that side, and all else is as it was
pub earlier_joined : (links : List Links) (x y : Entry) → x.pair < length links → y.pair < length links → (j : ℕ) (s : Side) → earlier_of (links_at (joined links x y) j) s ≡ (if (j == y.pair) && is_side s y.side then x.pair else earlier_of (links_at links j) s)
earlier_joined links x y x_in y_in j s = second (j == x.pair) refl ∙ first (j == y.pair) refl
  where
    one : List Links
    one = set links y.pair (with_earlier (links_at links y.pair) y.side x.pair)

    there : x.pair < length one
    there = rw (length-set links y.pair (with_earlier (links_at links y.pair) y.side x.pair)) x_in

    second : (b : Bool) → (j == x.pair) ≡ b → earlier_of (links_at (joined links x y) j) s ≡ earlier_of (links_at one j) s
    second true e =
        let same : j ≡ x.pair = eqb-true _ _ e in
        ap (λ l. earlier_of l s) (links_at-set one x.pair j (with_later (links_at one x.pair) x.side y.pair) there) ∙ rw e (earlier_of-with_later (links_at one x.pair) s x.side y.pair ∙ ap (λ k. earlier_of (links_at one k) s) (sym same))
    second false e =
        ap (λ l. earlier_of l s) (links_at-set one x.pair j (with_later (links_at one x.pair) x.side y.pair) there) ∙ rw e refl

    first : (b : Bool) → (j == y.pair) ≡ b → earlier_of (links_at one j) s ≡ (if (j == y.pair) && is_side s y.side then x.pair else earlier_of (links_at links j) s)
    first true e =
        let same : j ≡ y.pair = eqb-true _ _ e in
        ap (λ l. earlier_of l s) (links_at-set links y.pair j (with_earlier (links_at links y.pair) y.side x.pair) y_in) ∙ rw e (earlier_of-with_earlier (links_at links y.pair) s y.side x.pair ∙ ap (λ k. if is_side s y.side then x.pair else earlier_of (links_at links k) s) (sym same))
    first false e =
        ap (λ l. earlier_of l s) (links_at-set links y.pair j (with_earlier (links_at links y.pair) y.side x.pair) y_in) ∙ rw e refl

pub later_joined : (links : List Links) (x y : Entry) → x.pair < length links → y.pair < length links → (j : ℕ) (s : Side) → later_of (links_at (joined links x y) j) s ≡ (if (j == x.pair) && is_side s x.side then y.pair else later_of (links_at links j) s)
later_joined links x y x_in y_in j s = second (j == x.pair) refl
  where
    one : List Links
    one = set links y.pair (with_earlier (links_at links y.pair) y.side x.pair)

    there : x.pair < length one
    there = rw (length-set links y.pair (with_earlier (links_at links y.pair) y.side x.pair)) x_in

    first : (k : ℕ) (b : Bool) → (k == y.pair) ≡ b → later_of (links_at one k) s ≡ later_of (links_at links k) s
    first k true e =
        let same : k ≡ y.pair = eqb-true _ _ e in
        ap (λ l. later_of l s) (links_at-set links y.pair k (with_earlier (links_at links y.pair) y.side x.pair) y_in) ∙ rw e (later_of-with_earlier (links_at links y.pair) s y.side x.pair ∙ ap (λ i. later_of (links_at links i) s) (sym same))
    first k false e =
        ap (λ l. later_of l s) (links_at-set links y.pair k (with_earlier (links_at links y.pair) y.side x.pair) y_in) ∙ rw e refl

    second : (b : Bool) → (j == x.pair) ≡ b → later_of (links_at (joined links x y) j) s ≡ (if (j == x.pair) && is_side s x.side then y.pair else later_of (links_at links j) s)
    second true e =
        let same : j ≡ x.pair = eqb-true _ _ e in
        ap (λ l. later_of l s) (links_at-set one x.pair j (with_later (links_at one x.pair) x.side y.pair) there) ∙ rw e (later_of-with_later (links_at one x.pair) s x.side y.pair ∙ ap (λ i. if is_side s x.side then y.pair else i) (first x.pair (x.pair == y.pair) refl ∙ ap (λ k. later_of (links_at links k) s) (sym same)))
    second false e =
        ap (λ l. later_of l s) (links_at-set one x.pair j (with_later (links_at one x.pair) x.side y.pair) there) ∙ rw e (first j (j == y.pair) refl)

pub length-joined : (links : List Links) (x y : Entry) → length (joined links x y) ≡ length links
length-joined links x y =
    length-set (set links y.pair (with_earlier (links_at links y.pair) y.side x.pair)) x.pair _ ∙ length-set links y.pair _

-- one more entry, which makes a joint or does not
module _ (entries : List Entry) (of other : ℕ → Entry) (j : ℕ) (side : Side) where
  wider : (q k : ℕ) → IsJoint entries k q → IsJoint entries (k + 1) q
  wider q k h = record { reached = omega (arith, h.reached); inside = h.inside; same = h.same }

  before_last : (q k last : ℕ) → k ≡ last + 1 → (q ≡ last → ⊥) → IsJoint entries (k + 1) q → IsJoint entries k q
  before_last q k last e n h =
      record { reached = omega (arith, h.reached); inside = h.inside; same = h.same }

  SoFar-kept : (k last v : ℕ) → k ≡ last + 1 → (IsJoint entries (k + 1) last → IsOf (of last) j side → ⊥) → SoFar entries of other k j side v → SoFar entries of other (k + 1) j side v
  SoFar-kept k last v e never (inl h) =
      inl record {
        is = h.is;
        none = λ q joint entry. ⊎_elim
            (λ (same : q ≡ last). never (rw (← same) joint) (rw (← same) entry))
            (λ (n : q ≡ last → ⊥). h.none q (before_last q k last e n joint) entry)
            (cases_eq q last);
      }
  SoFar-kept k last v e never (inr h) =
      inr (h.0, record { joint = wider h.0 k h.1.joint; entry = h.1.entry; is = h.1.is })

  -- of the pair and side of the new joint
  SoFar-new : (k last v : ℕ) → IsJoint entries (k + 1) last → IsOf (of last) j side → v ≡ (other last).pair → SoFar entries of other (k + 1) j side v
  SoFar-new k last v joint entry e = inr (last, record { joint = joint; entry = entry; is = e })

  SoFar-joined : (k last v : ℕ) → k ≡ last + 1 → IsJoint entries (k + 1) last → SoFar entries of other k j side v → SoFar entries of other (k + 1) j side (if (j == (of last).pair) && is_side side (of last).side then (other last).pair else v)
  SoFar-joined k last v e joint h = go ((j == (of last).pair) && is_side side (of last).side) refl
    where
      go : (b : Bool) → ((j == (of last).pair) && is_side side (of last).side) ≡ b → SoFar entries of other (k + 1) j side (if (j == (of last).pair) && is_side side (of last).side then (other last).pair else v)
      go true t =
          let parts = and_parts _ _ t in
          rw t (SoFar-new k last _ joint record { of_pair = sym (eqb-true _ _ parts.0); on_side = sym (is_side-true _ _ parts.1) } refl)
      go false f =
          rw f (SoFar-kept k last v e (λ _ entry. both_ways _ f (and_from _ _ (eq-eqb _ _ (sym entry.of_pair)) (rw entry.on_side (is_side-refl side)))) h)

-- the entry k makes a joint with the one before
pub LinkedUpTo-joined : (entries : List Entry) (links : List Links) (k last : ℕ) → k ≡ last + 1 → IsJoint entries (k + 1) last → (entry_at entries last).pair < length links → (entry_at entries (last + 1)).pair < length links → LinkedUpTo entries links k → LinkedUpTo entries (joined links (entry_at entries last) (entry_at entries (last + 1))) (k + 1)
LinkedUpTo-joined entries links k last e joint x_in y_in h =
    let x = entry_at entries last in
    let y = entry_at entries (last + 1) in
    record {
      earlier = λ j side l. rw (earlier_joined links x y x_in y_in j side) (SoFar-joined entries (λ q. entry_at entries (q + 1)) (entry_at entries) j side k last _ e joint (h.earlier j side (rw (length-joined links x y) at l)));
      later = λ j side l. rw (later_joined links x y x_in y_in j side) (SoFar-joined entries (entry_at entries) (λ q. entry_at entries (q + 1)) j side k last _ e joint (h.later j side (rw (length-joined links x y) at l)));
    }

-- or it is of another molecule
pub LinkedUpTo-apart : (entries : List Entry) (links : List Links) (k last : ℕ) → k ≡ last + 1 → ((entry_at entries last).molecule ≡ (entry_at entries (last + 1)).molecule → ⊥) → LinkedUpTo entries links k → LinkedUpTo entries links (k + 1)
LinkedUpTo-apart entries links k last e n h =
    record {
      earlier = λ j side l. SoFar-kept entries (λ q. entry_at entries (q + 1)) (entry_at entries) j side k last _ e (λ joint _. n joint.same) (h.earlier j side l);
      later = λ j side l. SoFar-kept entries (entry_at entries) (λ q. entry_at entries (q + 1)) j side k last _ e (λ joint _. n joint.same) (h.later j side l);
    }

no_joint_yet : (entries : List Entry) (q : ℕ) → IsJoint entries 1 q → ⊥
no_joint_yet entries q h = omega (arith, h.reached)

own_earlier : (j : ℕ) (side : Side) → earlier_of (unlinked j) side ≡ j
own_earlier j Low = refl
own_earlier j High = refl

own_later : (j : ℕ) (side : Side) → later_of (unlinked j) side ≡ j
own_later j Low = refl
own_later j High = refl

-- links with no neighbor hold what one entry says
pub LinkedUpTo-one : (entries : List Entry) (links : List Links) → AreUnlinked links → LinkedUpTo entries links 1
LinkedUpTo-one entries links h =
    record {
      earlier = λ j side l. inl record { is = ap (λ x. earlier_of x side) (h j l) ∙ own_earlier j side; none = λ q joint _. no_joint_yet entries q joint };
      later = λ j side l. inl record { is = ap (λ x. later_of x side) (h j l) ∙ own_later j side; none = λ q joint _. no_joint_yet entries q joint };
    }

-- past the end there are no more entries
SoFar-end : (entries : List Entry) (of other : ℕ → Entry) (k j : ℕ) (side : Side) (v : ℕ) → length entries ≤ k → SoFar entries of other k j side v → SoFar entries of other (length entries) j side v
SoFar-end entries of other k j side v e (inl h) =
    inl record { is = h.is; none = λ q joint entry. h.none q record { reached = omega (arith, joint.inside); inside = joint.inside; same = joint.same } entry }
SoFar-end entries of other k j side v e (inr h) =
    inr (h.0, record { joint = record { reached = h.1.joint.inside; inside = h.1.joint.inside; same = h.1.joint.same }; entry = h.1.entry; is = h.1.is })

pub LinkedUpTo-end : (entries : List Entry) (links : List Links) (k : ℕ) → length entries ≤ k → LinkedUpTo entries links k → LinkedUpTo entries links (length entries)
LinkedUpTo-end entries links k e h =
    record {
      earlier = λ j side l. SoFar-end entries _ _ k j side _ e (h.earlier j side l);
      later = λ j side l. SoFar-end entries _ _ k j side _ e (h.later j side l);
    }

-- a loop's step: the entry k is of the molecule of the one before
pub LinkedUpTo-same : (entries : List Entry) (links next : List Links) (k : ℕ) → 1 ≤ k → k < length entries → AreInside entries (length links) → (entry_at entries (k - 1)).molecule ≡ (entry_at entries k).molecule → next ≡ joined links (entry_at entries (k - 1)) (entry_at entries k) → LinkedUpTo entries links k → LinkedUpTo entries next (k + 1)
LinkedUpTo-same entries links next k some l inside same is h =
    let e : k ≡ (k - 1) + 1 = omega arith in
    let joined_is : next ≡ joined links (entry_at entries (k - 1)) (entry_at entries ((k - 1) + 1)) = is ∙ ap (λ i. joined links (entry_at entries (k - 1)) (entry_at entries i)) e in
    rw joined_is (LinkedUpTo-joined entries links k (k - 1) e record { reached = omega arith; inside = omega arith; same = same ∙ ap (λ i. (entry_at entries i).molecule) e } (inside (k - 1) (omega arith)) (inside ((k - 1) + 1) (omega arith)) h)

-- or it is not
pub LinkedUpTo-other : (entries : List Entry) (links next : List Links) (k : ℕ) → 1 ≤ k → ((entry_at entries (k - 1)).molecule ≡ (entry_at entries k).molecule → ⊥) → next ≡ links → LinkedUpTo entries links k → LinkedUpTo entries next (k + 1)
LinkedUpTo-other entries links next k some n is h =
    let e : k ≡ (k - 1) + 1 = omega arith in
    rw is (LinkedUpTo-apart entries links k (k - 1) e (λ same. n (same ∙ ap (λ i. (entry_at entries i).molecule) (sym e))) h)
