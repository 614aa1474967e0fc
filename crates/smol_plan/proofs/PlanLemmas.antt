-- What the links of a plan say of the pairs before and after.
use Rattle.std.proofs.Common.{◌≡◌, ℕ, ◌<◌, false, ◌++◌, List, length, get_or, take, drop, Option, Some, None, refl, sym, ◌∙◌, ap, ap₂, inl, inr, ⊎_elim, arith}
use Rattle.std.proofs.lemmas.Bool.{both_ways, cases_order}
use Rattle.std.proofs.lemmas.List.{get_or_read, drop_all, take_all, append-nil}
use Rattle.smol_plan.specs.declared.pair.Pair.{Pair}
use Rattle.smol_plan.specs.declared.pair.Side.{Side}
use Rattle.smol_plan.specs.Pair.{molecule_at, IsOrdered}
use Rattle.smol_plan.specs.Links.{has_at, source_of, IsNextAfter}
use Rattle.smol_plan.specs.declared.plan.Links.{Links}
use Rattle.smol_plan.specs.Linked.{unlinked, earlier_of, later_of, IsEarlier, IsLater, IsLinked}
use Rattle.smol_plan.proofs.LinkLemmas.{SourceIs, no_source, a_source, source_cases, source_is, source_tells, link_inside}
use Rattle.smol_plan.proofs.SideLemmas.{has_on_side, one_side}

-- where no earlier pair has the molecule there is no source
source_none : (pairs : List Pair) (j : ℕ) (side : Side) → j < length pairs → ((k : ℕ) → k < j → has_at pairs (molecule_at pairs j side) k ≡ false) → source_of pairs j side ≡ None
source_none pairs j side l none = go (source_cases pairs j side l)
  where
    go : SourceIs pairs j side → source_of pairs j side ≡ None
    go (no_source e h) = e
    go (a_source i e last) = absurd (both_ways _ (none i last.earlier) last.has)

-- an earlier neighbor that is the pair itself is none
pub source_from_own : (pairs : List Pair) (j : ℕ) (side : Side) (v : ℕ) → j < length pairs → IsEarlier pairs (molecule_at pairs j side) j v → v ≡ j → None ≡ source_of pairs j side
source_from_own pairs j side v l (inl h) e = sym (source_none pairs j side l h.1)
source_from_own pairs j side v l (inr h) e = absurd (omega (arith, h.earlier))

-- another one is the source
pub source_from_other : (pairs : List Pair) (j : ℕ) (side : Side) (v : ℕ) → j < length pairs → IsEarlier pairs (molecule_at pairs j side) j v → (v ≡ j → ⊥) → Some v ≡ source_of pairs j side
source_from_other pairs j side v l (inl h) n = absurd (n h.0)
source_from_other pairs j side v l (inr h) n = sym (source_is pairs j side v l h)

-- the next later pair on a molecule has this pair for its source there
pub source_of_next : (pairs : List Pair) (j : ℕ) (side : Side) (k : ℕ) (s : Side) → IsNextAfter pairs (molecule_at pairs j side) j k → molecule_at pairs k s ≡ molecule_at pairs j side → source_of pairs k s ≡ Some j
source_of_next pairs j side k s h e =
    source_is pairs k s j h.in_list record {
      earlier = h.later;
      has = rw e (has_on_side pairs (molecule_at pairs j side) j side refl);
      none_between = λ i a b. rw e (h.none_between i a b);
    }

-- a pair whose source this is on a molecule is the next later one
pub next_of_source : (pairs : List Pair) (j : ℕ) (side : Side) (k : ℕ) (s : Side) → molecule_at pairs k s ≡ molecule_at pairs j side → source_of pairs k s ≡ Some j → IsNextAfter pairs (molecule_at pairs j side) j k
next_of_source pairs j side k s e h =
    let last = source_tells pairs k s j h in
    record {
      later = last.earlier;
      in_list = link_inside pairs k s j h;
      has = has_on_side pairs (molecule_at pairs j side) k s e;
      none_between = λ i a b. rw (← e) (last.none_between i a b);
    }

-- there is one next later pair
pub one_next : (pairs : List Pair) (m j k i : ℕ) → IsNextAfter pairs m j k → IsNextAfter pairs m j i → k ≡ i
one_next pairs m j k i h w = ⊎_elim
    (λ e. e)
    (λ n. ⊎_elim
    (λ (l : k < i). absurd (both_ways _ (w.none_between k h.later l) h.has))
    (λ (l : i < k). absurd (both_ways _ (h.none_between i w.later l) w.has))
    n)
    (cases_order k i)

-- a later neighbor that is the pair itself is none, so that this pair is no source there
pub no_next : (pairs : List Pair) (j : ℕ) (side : Side) (v k : ℕ) (s : Side) → IsLater pairs (molecule_at pairs j side) j v → v ≡ j → molecule_at pairs k s ≡ molecule_at pairs j side → source_of pairs k s ≡ Some j → ⊥
no_next pairs j side v k s (inl h) e m h' =
    let next = next_of_source pairs j side k s m h' in
    both_ways _ (h.1 k next.later next.in_list) next.has
no_next pairs j side v k s (inr h) e m h' = omega (arith, h.later)

-- another one is the next later pair
pub next_from_other : (pairs : List Pair) (m j v : ℕ) → IsLater pairs m j v → (v ≡ j → ⊥) → IsNextAfter pairs m j v
next_from_other pairs m j v (inl h) n = absurd (n h.0)
next_from_other pairs m j v (inr h) n = h

-- the next later pair, with the side on which it has the molecule, is the one whose source this is
pub same_next : (pairs : List Pair) → IsOrdered pairs → (j : ℕ) (side : Side) (v : ℕ) (t : Side) → IsNextAfter pairs (molecule_at pairs j side) j v → molecule_at pairs v t ≡ molecule_at pairs j side → (k : ℕ) (s : Side) → molecule_at pairs k s ≡ molecule_at pairs j side → source_of pairs k s ≡ Some j → ◌≡◌ {A = Option (ℕ × Side)} (Some (v, t)) (Some (k, s))
same_next pairs ordered j side v t h e k s m h' =
    let same : v ≡ k = one_next pairs _ j v k h (next_of_source pairs j side k s m h') in
    let at_v : molecule_at pairs v s ≡ molecule_at pairs j side = rw same m in
    let sides : t ≡ s = one_side pairs ordered v t s h.in_list (e ∙ sym at_v) in
    ap₂ (λ (x : ℕ) (y : Side). Some (x, y)) same sides

-- what a read of the links of a pair gives
pub read_earlier : (pairs : List Pair) (links : List Links) → IsLinked pairs links → (j : ℕ) (side : Side) (x : Links) (v : ℕ) → j < length pairs → x ≡ get_or links j x → v ≡ earlier_of x side → IsEarlier pairs (molecule_at pairs j side) j v
read_earlier pairs links h j side x v l at is =
    rw (is ∙ ap (λ y. earlier_of y side) (get_or_read links j x (omega (arith, h.one_each)) at (unlinked 0))) (h.earlier j side l)

pub read_later : (pairs : List Pair) (links : List Links) → IsLinked pairs links → (j : ℕ) (side : Side) (x : Links) (v : ℕ) → j < length pairs → x ≡ get_or links j x → v ≡ later_of x side → IsLater pairs (molecule_at pairs j side) j v
read_later pairs links h j side x v l at is =
    rw (is ∙ ap (λ y. later_of y side) (get_or_read links j x (omega (arith, h.one_each)) at (unlinked 0))) (h.later j side l)

-- what a vector holds after all of it was written
pub written_back : {X : Type 0} (new old : List X) (n : ℕ) → length new ≡ length old → n ≡ length old → take n (new ++ drop (length new) old) ≡ new
written_back new old n e l =
    rw (drop_all (length new) old (omega (arith, e)), append-nil new, take_all n new (omega (arith, e, l))) refl
