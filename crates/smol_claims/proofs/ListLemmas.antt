-- Lists of pairs and of links: what is in them, and how often.
use Rattle.std.proofs.Common.{◌≡◌, ℕ, zero, suc, ◌+◌, ◌<◌, ◌≤◌, Bool, true, false, not, ◌&&◌, ◌||◌, ◌==◌, nat_lt, eqb, List, [], ◌∷◌, ◌++◌, length, refl, sym, ◌∙◌, ap, ⊎_elim, arith, if◌then◌else◌}
use Rattle.std.specs.List.{IsDistinct, AllByRecursion, list_any}
use Rattle.std.proofs.lemmas.Bool.{cases_eq, cases_lt, lt-ltb, le-ltb, eq-eqb, ne_eqb, eqb-true, and_parts, and_from, or_left, or_right, or_cases, or_parts, false≢true, both_ways}
use Rattle.std.proofs.lemmas.Map.Steps.{length-le_from_distinct_below}
use Rattle.smol_plan.specs.declared.pair.Pair.{Pair}
use Rattle.smol_plan.specs.declared.pair.Side.{Side}
use Rattle.smol_plan.specs.declared.pair.Side.TheVariants.{Low, High}
use Rattle.smol_plan.specs.Pair.{is_side}
use Rattle.smol_plan.specs.Links.{source_of, comes_from}
use Rattle.smol_plan.specs.Machine.{slice_of, has_no_link}
use Rattle.smol_plan.proofs.SideLemmas.{is_side-true, is_side-refl}
use Rattle.smol_plan.proofs.LinkLemmas.{link_inside}
use Rattle.smol_plan.proofs.GoodKept.{is_number_from}
use Rattle.smol_claims.specs.declared.view.Link.{Link}
use Rattle.smol_claims.specs.View.{has, times, but, is_link_of, has_link, without, free_below, link_from, links_below, links_from}

or_assoc : (a b c : Bool) → (a || (b || c)) ≡ ((a || b) || c)
or_assoc true b c = refl
or_assoc false b c = refl

-- what is taken out of a list or stays in it, where one more was in front
gone : (b a c : Bool) → (b ≡ false → a ≡ false) → (not b && c) ≡ (not b && (a || c))
gone true a c h = refl
gone false a c h = rw (h refl) refl

stays : (a b c : Bool) → (a ≡ true → b ≡ false) → (a || (not b && c)) ≡ (not b && (a || c))
stays true true c h = absurd (false≢true (sym (h refl)))
stays true false c h = refl
stays false b c h = refl

nothing_out : (b : Bool) → false ≡ (not b && false)
nothing_out true = refl
nothing_out false = refl

pub has-append : (xs ys : List ℕ) (j : ℕ) → has (xs ++ ys) j ≡ (has xs j || has ys j)
has-append [] ys j = refl
has-append (x ∷ xs) ys j = ap (λ b. (j == x) || b) (has-append xs ys j) ∙ or_assoc (j == x) (has xs j) (has ys j)

-- a pair is among the others where it was in the list and is not this one
pub has-but : (xs : List ℕ) (j k : ℕ) → has (but xs j) k ≡ (not (k == j) && has xs k)
has-but [] j k = nothing_out (k == j)
has-but (x ∷ xs) j k = ⊎_elim
    (λ (e : x ≡ j). rw (eq-eqb x j e) (has-but xs j k ∙ gone (k == j) (k == x) (has xs k) (λ h. ap (λ i. k == i) e ∙ h)))
    (λ (n : x ≡ j → ⊥). rw (ne_eqb x j n) (ap (λ b. (k == x) || b) (has-but xs j k) ∙ stays (k == x) (k == j) (has xs k) (λ h. ne_eqb k j (λ q. n (sym (eqb-true _ _ h) ∙ q)))))
    (cases_eq x j)

pub has_link-append : (xs ys : List Link) (k : ℕ) (t : Side) → has_link (xs ++ ys) k t ≡ (has_link xs k t || has_link ys k t)
has_link-append [] ys k t = refl
has_link-append (x ∷ xs) ys k t =
    ap (λ b. is_link_of x k t || b) (has_link-append xs ys k t) ∙ or_assoc (is_link_of x k t) (has_link xs k t) (has_link ys k t)

-- a link is its own
pub is_link_of-self : (l : Link) → is_link_of l l.pair l.side ≡ true
is_link_of-self l = and_from _ _ (eq-eqb l.pair l.pair refl) (is_side-refl l.side)

same_link : (x l : Link) (k : ℕ) (t : Side) → is_link_of l x.pair x.side ≡ true → is_link_of x k t ≡ is_link_of l k t
same_link x l k t e =
    let p = and_parts _ _ e in
    let pair_is : x.pair ≡ l.pair = eqb-true _ _ p.0 in
    rw (pair_is, is_side-true x.side l.side p.1) refl

other_link : (x l : Link) (k : ℕ) (t : Side) → is_link_of l x.pair x.side ≡ false → is_link_of x k t ≡ true → is_link_of l k t ≡ false
other_link x l k t n e =
    let p = and_parts _ _ e in
    let pair_is : k ≡ x.pair = eqb-true _ _ p.0 in
    rw (pair_is, is_side-true t x.side p.1) n

-- a link is among the others where it was in the list and is not this one
pub has_link-without : (ls : List Link) (l : Link) (k : ℕ) (t : Side) → has_link (without ls l) k t ≡ (not (is_link_of l k t) && has_link ls k t)
has_link-without [] l k t = nothing_out (is_link_of l k t)
has_link-without (x ∷ xs) l k t = go (has_link-without xs l k t) (is_link_of l x.pair x.side) refl
  where
    same_gone : (a b : Bool) → (not a && b) ≡ (not a && (a || b))
    same_gone true b = refl
    same_gone false b = refl

    go : has_link (without xs l) k t ≡ (not (is_link_of l k t) && has_link xs k t) → (b : Bool) → is_link_of l x.pair x.side ≡ b → has_link (if b then without xs l else x ∷ without xs l) k t ≡ (not (is_link_of l k t) && (is_link_of x k t || has_link xs k t))
    go so true e = rw (same_link x l k t e) (so ∙ same_gone (is_link_of l k t) (has_link xs k t))
    go so false e =
        ap (λ b. is_link_of x k t || b) so ∙ stays (is_link_of x k t) (is_link_of l k t) (has_link xs k t) (other_link x l k t e)

-- a list in which nothing is, is empty
pub nothing_in : (xs : List ℕ) → ((j : ℕ) → has xs j ≡ false) → xs ≡ []
nothing_in [] h = refl
nothing_in (x ∷ xs) h = absurd (both_ways _ (h x) (or_left _ (has xs x) (eq-eqb x x refl)))

pub no_link_in : (ls : List Link) → ((k : ℕ) (t : Side) → has_link ls k t ≡ false) → ls ≡ []
no_link_in [] h = refl
no_link_in (l ∷ ls) h =
    absurd (both_ways _ (h l.pair l.side) (or_left _ (has_link ls l.pair l.side) (is_link_of-self l)))

-- the numbers below n + 1 but n are those below n
lt_suc-other : (j n : ℕ) → (j ≡ n → ⊥) → nat_lt j (suc n) ≡ nat_lt j n
lt_suc-other j n h = ⊎_elim
    (λ (l : j < n). lt-ltb j (suc n) (omega arith) ∙ sym (lt-ltb j n l))
    (λ (l : n ≤ j). le-ltb j (suc n) (omega arith) ∙ sym (le-ltb j n l))
    (cases_lt j n)

-- which pairs of a slice have no link
pub has-free_below : (pairs : List Pair) (slice n j : ℕ) → has (free_below pairs slice n) j ≡ (nat_lt j n && ((slice_of j == slice) && has_no_link pairs j))
unfolding free_below
has-free_below pairs slice zero j = rw (le-ltb j 0 (omega arith)) refl
has-free_below pairs slice (suc n) j =
    go (has-free_below pairs slice n j) ((slice_of n == slice) && has_no_link pairs n) refl
  where
    here : (b : Bool) → ((slice_of n == slice) && has_no_link pairs n) ≡ b → j ≡ n → (nat_lt j (suc n) && ((slice_of j == slice) && has_no_link pairs j)) ≡ b
    here b e q =
        rw (lt-ltb j (suc n) (omega arith)) (ap (λ k. (slice_of k == slice) && has_no_link pairs k) q ∙ e)

    go : has (free_below pairs slice n) j ≡ (nat_lt j n && ((slice_of j == slice) && has_no_link pairs j)) → (b : Bool) → ((slice_of n == slice) && has_no_link pairs n) ≡ b → has (if b then n ∷ free_below pairs slice n else free_below pairs slice n) j ≡ (nat_lt j (suc n) && ((slice_of j == slice) && has_no_link pairs j))
    go so true e = ⊎_elim
        (λ (q : j ≡ n). or_left _ _ (eq-eqb j n q) ∙ sym (here true e q))
        (λ (h : j ≡ n → ⊥). rw (ne_eqb j n h, lt_suc-other j n h) so)
        (cases_eq j n)
    go so false e = ⊎_elim
        (λ (q : j ≡ n). so ∙ rw (le-ltb j n (omega arith)) (sym (here false e q)))
        (λ (h : j ≡ n → ⊥). rw (lt_suc-other j n h) so)
        (cases_eq j n)

-- the link of one pair on one side
has_link-link_from : (pairs : List Pair) (j i k : ℕ) (s t : Side) → has_link (link_from pairs j i s) k t ≡ (((k == i) && is_side t s) && comes_from pairs j i s)
has_link-link_from pairs j i k s t = go (comes_from pairs j i s) refl
  where
    go : (b : Bool) → comes_from pairs j i s ≡ b → has_link (if b then record { pair = i; side = s } ∷ [] else []) k t ≡ (((k == i) && is_side t s) && b)
    go true e = pad ((k == i) && is_side t s)
      where
        pad : (x : Bool) → (x || false) ≡ (x && true)
        pad true = refl
        pad false = refl
    go false e = pad ((k == i) && is_side t s)
      where
        pad : (x : Bool) → false ≡ (x && false)
        pad true = refl
        pad false = refl

has_link-links_below : (pairs : List Pair) (j n k : ℕ) (t : Side) → has_link (links_below pairs j n) k t ≡ (nat_lt k n && comes_from pairs j k t)
unfolding links_below
has_link-links_below pairs j zero k t = rw (le-ltb k 0 (omega arith)) refl
has_link-links_below pairs j (suc n) k t =
    has_link-append (link_from pairs j n Low) _ k t ∙ ap (λ b. has_link (link_from pairs j n Low) k t || b) (has_link-append (link_from pairs j n High) (links_below pairs j n) k t) ∙ rw (has_link-link_from pairs j n k Low t, has_link-link_from pairs j n k High t, has_link-links_below pairs j n k t) (go t)
  where
    go : (s : Side) → ((((k == n) && is_side s Low) && comes_from pairs j n Low) || ((((k == n) && is_side s High) && comes_from pairs j n High) || (nat_lt k n && comes_from pairs j k s))) ≡ (nat_lt k (suc n) && comes_from pairs j k s)
    go s = ⊎_elim
        (λ (q : k ≡ n). rw (q, eq-eqb n n refl, le-ltb n n (omega arith), lt-ltb n (suc n) (omega arith)) (at s))
        (λ (h : k ≡ n → ⊥). rw (ne_eqb k n h, lt_suc-other k n h) refl)
        (cases_eq k n)
      where
        or-false : (x : Bool) → (x || false) ≡ x
        or-false true = refl
        or-false false = refl

        at : (s : Side) → (((true && is_side s Low) && comes_from pairs j n Low) || (((true && is_side s High) && comes_from pairs j n High) || (false && comes_from pairs j n s))) ≡ (true && comes_from pairs j n s)
        at Low = or-false (comes_from pairs j n Low)
        at High = or-false (comes_from pairs j n High)

-- which links come from a pair
pub has_link-links_from : (pairs : List Pair) (j k : ℕ) (t : Side) → has_link (links_from pairs j) k t ≡ comes_from pairs j k t
has_link-links_from pairs j k t = has_link-links_below pairs j (length pairs) k t ∙ go (comes_from pairs j k t) refl
  where
    go : (b : Bool) → comes_from pairs j k t ≡ b → (nat_lt k (length pairs) && b) ≡ b
    go true e = rw (lt-ltb _ _ (link_inside pairs k t j (is_number_from j (source_of pairs k t) e))) refl
    go false e = pad (nat_lt k (length pairs))
      where
        pad : (x : Bool) → (x && false) ≡ false
        pad true = refl
        pad false = refl

pub times-append : (xs ys : List ℕ) (j : ℕ) → times (xs ++ ys) j ≡ times xs j + times ys j
times-append [] ys j = omega arith
times-append (x ∷ xs) ys j = omega (arith, times-append xs ys j)

-- what is not in a list is there 0 times
pub times-none : (xs : List ℕ) (j : ℕ) → has xs j ≡ false → times xs j ≡ 0
times-none [] j e = refl
times-none (x ∷ xs) j e =
    let p = or_parts (j == x) (has xs j) e in
    rw p.0 (omega (arith, times-none xs j p.1))

pub has-times : (xs : List ℕ) (j : ℕ) → has xs j ≡ true → 1 ≤ times xs j
has-times [] j e = absurd (false≢true e)
has-times (x ∷ xs) j e = ⊎_elim
    (λ (h : (j == x) ≡ true). rw h (omega arith))
    (λ (h : has xs j ≡ true). omega (arith, has-times xs j h))
    (or_cases _ _ e)

all_other : (x : ℕ) (xs : List ℕ) → times xs x ≡ 0 → AllByRecursion (λ y. eqb x y ≡ false) xs
all_other x [] e = tt
all_other x (y ∷ ys) e = go (λ h. all_other x ys h) (x == y) refl e
  where
    go : (times ys x ≡ 0 → AllByRecursion (λ z. eqb x z ≡ false) ys) → (b : Bool) → (x == y) ≡ b → (if b then 1 else 0) + times ys x ≡ 0 → AllByRecursion (λ z. eqb x z ≡ false) (y ∷ ys)
    go so true q h = absurd (omega arith)
    go so false q h = (q, so (omega arith))

is_distinct : (xs : List ℕ) → ((j : ℕ) → times xs j ≤ 1) → IsDistinct eqb xs
unfolding IsDistinct
is_distinct [] h = tt
is_distinct (x ∷ xs) h = (all_other x xs rest, is_distinct xs (λ j. omega (arith, h j)))
  where
    rest : times xs x ≡ 0
    rest =
        let here : (if x == x then 1 else 0) + times xs x ≤ 1 = h x in
        let both : 1 + times xs x ≤ 1 = rw (eq-eqb x x refl) at here in
        omega arith

in_list : (xs : List ℕ) (q : ℕ) → list_any (eqb q) xs ≡ true → has xs q ≡ true
in_list [] q e = e
in_list (x ∷ xs) q e = ⊎_elim
    (λ (h : (q == x) ≡ true). or_left _ _ h)
    (λ (h : list_any (eqb q) xs ≡ true). or_right _ _ (in_list xs q h))
    (or_cases _ _ e)

-- numbers below n, each at most once, are at most n
pub length-once : (xs : List ℕ) (n : ℕ) → ((j : ℕ) → times xs j ≤ 1) → ((j : ℕ) → n ≤ j → times xs j ≡ 0) → length xs ≤ n
length-once xs n once below = length-le_from_distinct_below xs n (is_distinct xs once) inside
  where
    inside : (q : ℕ) → list_any (eqb q) xs ≡ true → q < n
    inside q e = ⊎_elim
        (λ (l : q < n). l)
        (λ (l : n ≤ q). absurd (omega (arith, has-times xs q (in_list xs q e), below q l)))
        (cases_lt q n)
