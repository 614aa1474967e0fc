-- The links that the sorted entries give are the earlier and later neighbors.
use Rattle.std.proofs.Common.{◌≡◌, ℕ, ◌+◌, ◌-◌, ◌<◌, ◌≤◌, true, false, List, length, refl, sym, ◌∙◌, ap, inl, inr, ⊎_elim, arith}
use Rattle.std.proofs.lemmas.Bool.{cases_order, cases_lt, false_from_ne_true}
use Rattle.smol_plan.specs.declared.pair.Pair.{Pair}
use Rattle.smol_plan.specs.declared.pair.Side.{Side}
use Rattle.smol_plan.specs.declared.entries.Entry.{Entry}
use Rattle.smol_plan.specs.declared.plan.Links.{Links}
use Rattle.smol_plan.specs.Pair.{molecule_at, IsOrdered}
use Rattle.smol_plan.specs.Links.{has_at}
use Rattle.smol_plan.specs.Entries.{entry_at, IsNoLater}
use Rattle.smol_plan.specs.Linked.{IsOf, IsJoint, SoFar, LinkedUpTo, IsEarlier, IsLater, IsLinked}
use Rattle.smol_plan.proofs.GoodLemmas.{on_a_side}
use Rattle.smol_plan.proofs.EntryLemmas.{AreEntries, rising_far}
use Rattle.smol_plan.proofs.SideLemmas.{has_on_side, one_side}

module _ (pairs : List Pair) (entries : List Entry) (ordered : IsOrdered pairs) (h : AreEntries pairs entries) where
  -- the molecule of an entry of the pair j on a side
  molecule_of_entry : (q j : ℕ) (side : Side) → q < length entries → IsOf (entry_at entries q) j side → (entry_at entries q).molecule ≡ molecule_at pairs j side
  molecule_of_entry q j side l e =
      let same : molecule_at pairs (entry_at entries q).pair (entry_at entries q).side ≡ molecule_at pairs j side = rw (e.of_pair, e.on_side) refl in
      h.molecule q l ∙ same

  -- entries of one molecule stand in the order of their pairs
  place_of_less : (p q : ℕ) → p < length entries → q < length entries → (entry_at entries p).molecule ≡ (entry_at entries q).molecule → (entry_at entries p).pair < (entry_at entries q).pair → p < q
  place_of_less p q pl ql m less = ⊎_elim
      (λ (l : p < q). l)
      (λ (l : q ≤ p). absurd (wrong (rising_far entries h.rising q p l pl)))
      (cases_lt p q)
    where
      wrong : IsNoLater (entry_at entries q) (entry_at entries p) → ⊥
      wrong (inl a) = omega arith
      wrong (inr a) = omega (arith, a.1)

  -- an entry between two of one molecule is of that molecule
  molecule_between : (p q r : ℕ) → p ≤ q → q ≤ r → r < length entries → (entry_at entries p).molecule ≡ (entry_at entries r).molecule → (entry_at entries q).molecule ≡ (entry_at entries r).molecule
  molecule_between p q r a b l e =
      go (rising_far entries h.rising p q a (omega arith)) (rising_far entries h.rising q r b l)
    where
      go : IsNoLater (entry_at entries p) (entry_at entries q) → IsNoLater (entry_at entries q) (entry_at entries r) → (entry_at entries q).molecule ≡ (entry_at entries r).molecule
      go x (inr y) = y.0
      go (inl x) (inl y) = absurd (omega arith)
      go (inr x) (inl y) = absurd (omega (arith, x.0))

  -- an entry of a pair that has a molecule
  record HasEntry (m i : ℕ) : Type 0 where
    at : ℕ
    inside : at < length entries
    molecule : (entry_at entries at).molecule ≡ m
    pair : (entry_at entries at).pair ≡ i

  entry_for : (m i : ℕ) → i < length pairs → has_at pairs m i ≡ true → HasEntry m i
  entry_for m i l e =
      let s = on_a_side pairs m i e in
      let f = h.found i s.0 l in
      record { at = f.0; inside = f.1; molecule = molecule_of_entry f.0 i s.0 f.1 f.2 ∙ s.1; pair = f.2.of_pair }

  -- of the two pairs of a joint the one is before the other
  joint_rises : (q : ℕ) → IsJoint entries (length entries) q → (entry_at entries q).pair < (entry_at entries (q + 1)).pair
  joint_rises q joint = go (rising_far entries h.rising q (q + 1) (omega arith) joint.inside)
    where
      lower : q < length entries
      lower = omega (arith, joint.inside)

      not_same : (entry_at entries q).pair ≡ (entry_at entries (q + 1)).pair → ⊥
      not_same e =
          let j = (entry_at entries (q + 1)).pair in
          let first : molecule_at pairs (entry_at entries q).pair (entry_at entries q).side ≡ molecule_at pairs j (entry_at entries q).side = rw e refl in
          let sides = one_side pairs ordered j (entry_at entries q).side (entry_at entries (q + 1)).side (h.in_list (q + 1) joint.inside) (sym first ∙ sym (h.molecule q lower) ∙ joint.same ∙ h.molecule (q + 1) joint.inside) in
          h.apart q (q + 1) j (entry_at entries (q + 1)).side (omega arith) joint.inside record { of_pair = e; on_side = sides } record { of_pair = refl; on_side = refl }

      go : IsNoLater (entry_at entries q) (entry_at entries (q + 1)) → (entry_at entries q).pair < (entry_at entries (q + 1)).pair
      go (inl a) = absurd (omega (arith, joint.same))
      go (inr a) = ⊎_elim
          (λ e. absurd (not_same e))
          (λ n. ⊎_elim (λ (b : (entry_at entries q).pair < (entry_at entries (q + 1)).pair). b) (λ (b : (entry_at entries (q + 1)).pair < (entry_at entries q).pair). absurd (omega (arith, a.1))) n)
          (cases_order (entry_at entries q).pair (entry_at entries (q + 1)).pair)

  -- no pair strictly between the two of a joint has its molecule
  joint_close : (q k : ℕ) → IsJoint entries (length entries) q → (entry_at entries q).pair < k → k < (entry_at entries (q + 1)).pair → has_at pairs (entry_at entries q).molecule k ≡ false
  joint_close q k joint a b =
      false_from_ne_true _ (λ e. wrong (entry_for (entry_at entries q).molecule k (omega (arith, h.in_list (q + 1) joint.inside)) e))
    where
      wrong : HasEntry (entry_at entries q).molecule k → ⊥
      wrong f =
          let low = place_of_less q f.at (omega (arith, joint.inside)) f.inside (sym f.molecule) (omega (arith, f.pair)) in
          let high = place_of_less f.at (q + 1) f.inside joint.inside (f.molecule ∙ joint.same) (omega (arith, f.pair)) in
          omega arith

  -- each pair of a joint has its molecule
  joint_has : (q : ℕ) → q < length entries → has_at pairs (entry_at entries q).molecule (entry_at entries q).pair ≡ true
  joint_has q l =
      has_on_side pairs _ (entry_at entries q).pair (entry_at entries q).side (sym (h.molecule q l))

  module _ (j : ℕ) (side : Side) (l : j < length pairs) where
    own : (q : ℕ) × (q < length entries) × IsOf (entry_at entries q) j side
    own = h.found j side l

    own_molecule : (entry_at entries own.0).molecule ≡ molecule_at pairs j side
    own_molecule = molecule_of_entry own.0 j side own.1 own.2

    -- an earlier pair with the molecule makes a joint that ends with this one
    earlier_joint : (i : ℕ) → i < j → has_at pairs (molecule_at pairs j side) i ≡ true → (q : ℕ) × IsJoint entries (length entries) q × IsOf (entry_at entries (q + 1)) j side
    earlier_joint i a e = go (entry_for _ i (omega arith) e)
      where
        go : HasEntry (molecule_at pairs j side) i → (q : ℕ) × IsJoint entries (length entries) q × IsOf (entry_at entries (q + 1)) j side
        go f =
            let below = place_of_less f.at own.0 f.inside own.1 (f.molecule ∙ sym own_molecule) (omega (arith, f.pair, own.2.of_pair)) in
            let next : (own.0 - 1) + 1 ≡ own.0 = omega arith in
            let between = molecule_between f.at (own.0 - 1) own.0 (omega arith) (omega arith) own.1 (f.molecule ∙ sym own_molecule) in
            (own.0 - 1, record { reached = omega (arith, own.1); inside = omega (arith, own.1); same = between ∙ ap (λ k. (entry_at entries k).molecule) (sym next) }, rw next own.2)

    -- a later pair with the molecule makes a joint that begins with this one
    later_joint : (k : ℕ) → j < k → k < length pairs → has_at pairs (molecule_at pairs j side) k ≡ true → (q : ℕ) × IsJoint entries (length entries) q × IsOf (entry_at entries q) j side
    later_joint k a b e = go (entry_for _ k b e)
      where
        go : HasEntry (molecule_at pairs j side) k → (q : ℕ) × IsJoint entries (length entries) q × IsOf (entry_at entries q) j side
        go f =
            let above = place_of_less own.0 f.at own.1 f.inside (own_molecule ∙ sym f.molecule) (omega (arith, f.pair, own.2.of_pair)) in
            let between = molecule_between own.0 (own.0 + 1) f.at (omega arith) (omega arith) f.inside (own_molecule ∙ sym f.molecule) in
            (own.0, record { reached = omega (arith, f.inside); inside = omega (arith, f.inside); same = own_molecule ∙ sym f.molecule ∙ sym between }, own.2)

    earlier_is : (v : ℕ) → SoFar entries (λ q. entry_at entries (q + 1)) (entry_at entries) (length entries) j side v → IsEarlier pairs (molecule_at pairs j side) j v
    earlier_is v (inl alone) =
        inl (alone.is, λ k a. false_from_ne_true _ (λ e. let q = earlier_joint k a e in alone.none q.0 q.1 q.2))
    earlier_is v (inr found) =
        let q = found.0 in
        let joint = found.1.joint in
        let molecule : (entry_at entries q).molecule ≡ molecule_at pairs j side = joint.same ∙ molecule_of_entry (q + 1) j side joint.inside found.1.entry in
        inr record {
          earlier = omega (arith, joint_rises q joint, found.1.is, found.1.entry.of_pair);
          has = rw (found.1.is, ← molecule) (joint_has q (omega (arith, joint.inside)));
          none_between = λ k a b. rw (← molecule) (joint_close q k joint (omega (arith, found.1.is)) (omega (arith, found.1.entry.of_pair)));
        }

    later_is : (v : ℕ) → SoFar entries (entry_at entries) (λ q. entry_at entries (q + 1)) (length entries) j side v → IsLater pairs (molecule_at pairs j side) j v
    later_is v (inl alone) =
        inl (alone.is, λ k a b. false_from_ne_true _ (λ e. let q = later_joint k a b e in alone.none q.0 q.1 q.2))
    later_is v (inr found) =
        let q = found.0 in
        let joint = found.1.joint in
        let molecule : (entry_at entries q).molecule ≡ molecule_at pairs j side = molecule_of_entry q j side (omega (arith, joint.inside)) found.1.entry in
        inr record {
          later = omega (arith, joint_rises q joint, found.1.is, found.1.entry.of_pair);
          in_list = omega (arith, found.1.is, h.in_list (q + 1) joint.inside);
          has = rw (found.1.is, ← molecule, joint.same) (joint_has (q + 1) joint.inside);
          none_between = λ k a b. rw (← molecule) (joint_close q k joint (omega (arith, found.1.entry.of_pair)) (omega (arith, found.1.is)));
        }

  -- links that hold what all entries say
  pub IsLinked-from_entries : (links : List Links) → length links ≡ length pairs → LinkedUpTo entries links (length entries) → IsLinked pairs links
  IsLinked-from_entries links e linked =
      record {
        ordered = ordered;
        one_each = e;
        earlier = λ j side l. earlier_is j side l _ (linked.earlier j side (omega arith));
        later = λ j side l. later_is j side l _ (linked.later j side (omega arith));
      }
