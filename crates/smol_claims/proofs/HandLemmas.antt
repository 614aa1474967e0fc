-- What a worker has in hand, after each kind of step.
use Rattle.std.proofs.Common.{◌≡◌, ℕ, ◌+◌, ◌<◌, ◌≤◌, Bool, true, false, ◌||◌, ◌==◌, List, [], ◌∷◌, ◌++◌, length, length-append, refl, sym, ◌∙◌, ap, subst, ⊎_elim, arith, if◌then◌else◌}
use Rattle.std.proofs.lemmas.Bool.{cases_eq, cases_lt, cases_Bool, eq-eqb, ne_eqb, le-ltb, or_left, or_right, false_from_ne_true}
use Rattle.smol_claims.specs.declared.view.Link.{Link}
use Rattle.smol_claims.specs.declared.view.View.{View}
use Rattle.smol_claims.specs.View.{has, times, but, free_pairs, view_taking, view_telling}
use Rattle.smol_claims.specs.Plays.{IsNew, Decides}
use Rattle.smol_claims.specs.Hand.{IsInHand, IsDone, OnlyLooks}
use Rattle.smol_claims.proofs.ListLemmas.{has-append, has-but, times-append, times-none, has-times, has-free_below, length-once, nothing_in}

-- all that is in hand or decided has room in a list of all pairs
pub hand_room : (v : View) (stack : List ℕ) → IsInHand v stack → length stack + length v.mine ≤ length v.pairs
hand_room v stack h =
    let all = length-once (stack ++ v.mine) (length v.pairs) (λ j. omega (arith, times-append stack v.mine j, h.once j)) (λ j l. omega (arith, times-append stack v.mine j, h.inside j l)) in
    omega (arith, all, length-append stack v.mine)

last_in : (rest : List ℕ) (x : ℕ) → has (rest ++ x ∷ []) x ≡ true
last_in rest x = has-append rest (x ∷ []) x ∙ or_right (has rest x) _ (or_left _ false (eq-eqb x x refl))

one_at : (x : ℕ) → times (x ∷ []) x ≡ 1
one_at x = rw (eq-eqb x x refl) (omega arith)

-- the last of the stack is held, and is of the plan
pub hand_last : (v : View) (rest : List ℕ) (x : ℕ) → IsInHand v (rest ++ x ∷ []) → has v.held x ≡ true
hand_last v rest x h = h.same x ∙ last_in rest x

pub hand_inside : (v : View) (rest : List ℕ) (x : ℕ) → IsInHand v (rest ++ x ∷ []) → x < length v.pairs
hand_inside v rest x h = ⊎_elim
    (λ (l : x < length v.pairs). l)
    (λ (l : length v.pairs ≤ x). absurd (omega (arith, h.inside x l, has-times (rest ++ x ∷ []) x (last_in rest x))))
    (cases_lt x (length v.pairs))

-- looks change nothing in hand
pub hand_looked : (v w : View) (stack : List ℕ) → OnlyLooks v w → IsInHand v stack → IsInHand w stack
hand_looked v w stack looks h =
    record {
      same = λ j. ap (λ l. has l j) looks.held ∙ h.same j;
      once = λ j. omega (arith, h.once j, ap (λ l. times l j) looks.mine);
      inside = λ j l. omega (arith, h.inside j (omega (arith, l, ap length looks.pairs)), ap (λ l. times l j) looks.mine);
    }

or-false : (b : Bool) → (b || false) ≡ b
or-false true = refl
or-false false = refl

-- the last of the stack is decided
pub hand_decided : (v w : View) (rest : List ℕ) (x : ℕ) → IsInHand v (rest ++ x ∷ []) → Decides v x w → IsInHand w rest
hand_decided v w rest x h d = subst (λ u. IsInHand u rest) (sym d.view) record { same = same; once = once; inside = inside }
  where
    shares : (j : ℕ) → times (rest ++ x ∷ []) j ≡ times rest j + ((if j == x then 1 else 0) + 0)
    shares j = times-append rest (x ∷ []) j

    not_left : has rest x ≡ false
    not_left =
        false_from_ne_true (has rest x) (λ t. absurd (omega (arith, h.once x, times-append rest (x ∷ []) x, one_at x, has-times rest x t)))

    same : (j : ℕ) → has (but v.held x) j ≡ has rest j
    same j = has-but v.held x j ∙ ⊎_elim
        (λ (e : j ≡ x). rw (eq-eqb j x e) (sym (ap (has rest) e ∙ not_left)))
        (λ (n : j ≡ x → ⊥). rw (ne_eqb j x n) (h.same j ∙ has-append rest (x ∷ []) j ∙ rw (ne_eqb j x n) (or-false (has rest j))))
        (cases_eq j x)

    once : (j : ℕ) → times rest j + times (x ∷ v.mine) j ≤ 1
    once j = omega (arith, h.once j, shares j)

    inside : (j : ℕ) → length v.pairs ≤ j → times rest j + times (x ∷ v.mine) j ≡ 0
    inside j l = omega (arith, h.inside j l, shares j)

-- a link is told that was, and the pair goes on the stack
pub hand_received : (v w : View) (l : Link) (stack : List ℕ) → IsInHand v stack → w ≡ view_telling v l true → IsNew v l.pair → l.pair < length v.pairs → IsInHand w (stack ++ l.pair ∷ [])
hand_received v w l stack h e new below =
    subst (λ u. IsInHand u (stack ++ l.pair ∷ [])) (sym e) record { same = same; once = once; inside = inside }
  where
    swap : (a b : Bool) → (a || b) ≡ (b || (a || false))
    swap true true = refl
    swap true false = refl
    swap false true = refl
    swap false false = refl

    same : (j : ℕ) → has (l.pair ∷ v.held) j ≡ has (stack ++ l.pair ∷ []) j
    same j = ap (λ b. (j == l.pair) || b) (h.same j) ∙ swap (j == l.pair) (has stack j) ∙ sym (has-append stack (l.pair ∷ []) j)

    none_there : times stack l.pair ≡ 0
    none_there = times-none stack l.pair (sym (h.same l.pair) ∙ new.held)

    none_decided : times v.mine l.pair ≡ 0
    none_decided = times-none v.mine l.pair new.mine

    shares : (j : ℕ) → times (stack ++ l.pair ∷ []) j ≡ times stack j + ((if j == l.pair then 1 else 0) + 0)
    shares j = times-append stack (l.pair ∷ []) j

    once : (j : ℕ) → times (stack ++ l.pair ∷ []) j + times v.mine j ≤ 1
    once j = ⊎_elim
        (λ (q : j ≡ l.pair).
        let one : times (stack ++ l.pair ∷ []) l.pair + times v.mine l.pair ≤ 1 = omega (arith, times-append stack (l.pair ∷ []) l.pair, one_at l.pair, none_there, none_decided) in
        subst (λ i. times (stack ++ l.pair ∷ []) i + times v.mine i ≤ 1) (sym q) one)
        (λ (n : j ≡ l.pair → ⊥).
        let s : times (stack ++ l.pair ∷ []) j ≡ times stack j + (0 + 0) = rw (ne_eqb j l.pair n) at (shares j) in
        omega (arith, h.once j, s))
        (cases_eq j l.pair)

    inside : (j : ℕ) → length v.pairs ≤ j → times (stack ++ l.pair ∷ []) j + times v.mine j ≡ 0
    inside j beyond =
        let n : j ≡ l.pair → ⊥ = λ q. omega (arith, q, below, beyond) in
        let s : times (stack ++ l.pair ∷ []) j ≡ times stack j + (0 + 0) = rw (ne_eqb j l.pair n) at (shares j) in
        omega (arith, h.inside j beyond, s)

-- it is done where its stack is empty and it owes nothing
pub done_hand : (v : View) (stack : List ℕ) → IsInHand v stack → stack ≡ [] → v.owed ≡ [] → IsDone v stack
done_hand v stack h empty owed =
    record {
      held = nothing_in v.held (λ j. h.same j ∙ ap (λ l. has l j) empty);
      owed = owed;
      empty = empty;
      once = λ j. omega (arith, h.once j);
      inside = λ j l. omega (arith, h.inside j l);
    }

-- a slice is taken that was not, and its pairs without a link go on the stack
pub hand_taking : (v w : View) (slice : ℕ) (old stack : List ℕ) → IsDone v old → w ≡ view_taking v slice true → ((j : ℕ) → has stack j ≡ has (free_pairs v.pairs slice) j) → ((j : ℕ) → times stack j ≤ 1) → ((j : ℕ) → has (free_pairs v.pairs slice) j ≡ true → IsNew v j) → IsInHand w stack
hand_taking v w slice old stack d e same once new =
    subst (λ u. IsInHand u stack) (sym e) record { same = same_now; once = once_now; inside = inside_now }
  where
    same_now : (j : ℕ) → has (free_pairs v.pairs slice ++ v.held) j ≡ has stack j
    same_now j = has-append (free_pairs v.pairs slice) v.held j ∙ ap (λ b. has (free_pairs v.pairs slice) j || b) (ap (λ l. has l j) d.held) ∙ or-false (has (free_pairs v.pairs slice) j) ∙ sym (same j)

    once_now : (j : ℕ) → times stack j + times v.mine j ≤ 1
    once_now j = ⊎_elim
        (λ (h : has stack j ≡ true). omega (arith, once j, times-none v.mine j (new j (sym (same j) ∙ h)).mine))
        (λ (h : has stack j ≡ false). omega (arith, times-none stack j h, d.once j))
        (cases_Bool (has stack j))

    beyond : (j : ℕ) → length v.pairs ≤ j → has stack j ≡ false
    beyond j l = same j ∙ has-free_below v.pairs slice (length v.pairs) j ∙ rw (le-ltb j (length v.pairs) l) refl

    inside_now : (j : ℕ) → length v.pairs ≤ j → times stack j + times v.mine j ≡ 0
    inside_now j l = omega (arith, times-none stack j (beyond j l), d.inside j l)
