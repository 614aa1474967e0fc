-- Pairs of molecules, each with those behind it.
use Rattle.std.proofs.Common.{◌≡◌, ◌≤◌, ◌<◌, ◌+◌, ◌*◌, ◌&&◌, ℕ, zero, suc, Bool, true, false, nat_lt, List, [], ◌∷◌, ◌++◌, length, length-append, get_or, drop, map, filter, count_by, Option, arith, refl, sym, ap, ◌∙◌, if◌then◌else◌}
use Rattle.std.proofs.lemmas.Bool.Decides.{nat_tests}
use Rattle.std.proofs.lemmas.List.{drop_more, get_or-drop, length-drop, length-map}
use Rattle.std.proofs.lemmas.List.Sums.{sum_by-append, sum_by-cons}
use Rattle.smol_cells.specs.Placed.{counted}
use Rattle.smol_types.specs.declared.state.Mol.{Mol}
use Rattle.smol_stats.specs.Radial.{pairs_of}
use Rattle.smol_stats.specs.Tally.{IsPlaced, raised}
use Rattle.smol_stats.proofs.Tallies.{raised_at}

absurd_of : false ≡ true → ⊥
absurd_of same = grind (arith, same)

not_both : (b : Bool) → b ≡ false → b ≡ true → ⊥
not_both b out is = absurd_of (sym out ∙ is)

is_behind : (i j : ℕ) → i < j → nat_lt i j ≡ true
is_behind i j behind = grind (arith, nat_tests)

not_behind : (i j : ℕ) (b : Bool) → j ≤ i → (nat_lt i j && b) ≡ false
not_behind i j b before = let out : nat_lt i j ≡ false = grind (arith, nat_tests) in ap (λ (c : Bool). c && b) out

pub count_cons : {X : Type 0} (p : X → Bool) (x : X) (xs : List X) (is : Bool) → p x ≡ is → count_by p (x ∷ xs) ≡ (if is then 1 else 0) + count_by p xs
count_cons p x xs is same = sum_by-cons (λ x. if p x then 1 else 0) x xs ∙ ap (λ (b : Bool). (if b then 1 else 0) + count_by p xs) same

pub count_append : {X : Type 0} (p : X → Bool) (xs ys : List X) → count_by p (xs ++ ys) ≡ count_by p xs + count_by p ys
count_append p xs ys = sum_by-append (λ x. if p x then 1 else 0) xs ys

pub count_map : {X Y : Type 0} (p : Y → Bool) (f : X → Y) (xs : List X) → count_by p (map f xs) ≡ count_by (λ x. p (f x)) xs
count_map p f [] = refl
count_map p f (x ∷ xs) =
    count_cons p (f x) (map f xs) (p (f x)) refl ∙ ap (λ n. (if p (f x) then 1 else 0) + n) (count_map p f xs) ∙ sym (count_cons (λ x. p (f x)) x xs (p (f x)) refl)

-- the pairs from a molecule on: those of it with those behind it, and those behind
pub pairs_from : (p : Mol × Mol → Bool) (mols : List Mol) (i : ℕ) (nobody : Mol) → i < length mols
    → count_by p (pairs_of (drop i mols)) ≡ count_by (λ (other : Mol). p (get_or mols i nobody, other)) (drop (i + 1) mols) + count_by p (pairs_of (drop (i + 1) mols))
pairs_from p mols i nobody within =
    let mol = get_or mols i nobody in
    let rest = drop (i + 1) mols in
    ap (λ (l : List Mol). count_by p (pairs_of l)) (drop_more mols i nobody within)
    ∙ count_append p (map (λ (other : Mol). (mol, other)) rest) (pairs_of rest)
    ∙ ap (λ n. n + count_by p (pairs_of rest)) (count_map p (λ (other : Mol). (mol, other)) rest)

-- few molecules have few pairs
pub few_pairs : (mols : List Mol) → length mols ≤ 1000000 → length (pairs_of mols) ≤ length mols * 1000000
few_pairs [] few = omega arith
few_pairs (mol ∷ mols) few =
    let fewer : length mols ≤ 1000000 = omega (arith, few) in
    let rest = few_pairs mols fewer in
    let long = length-append (map (λ (other : Mol). (mol, other)) mols) (pairs_of mols) in
    let same = length-map {B = Mol × Mol} mols (λ (other : Mol). (mol, other)) in
    omega (arith, long, same, rest, few)

kept_case : (q r : ℕ → Bool) (x : ℕ) (xs : List ℕ) (is kept : Bool) → q x ≡ is → r x ≡ kept → (q x ≡ true → r x ≡ true) → count_by q (filter r xs) ≡ count_by q xs
    → count_by q (if kept then x ∷ filter r xs else filter r xs) ≡ count_by q (x ∷ xs)
kept_case q r x xs is true a b keeps rest =
    count_cons q x (filter r xs) is a ∙ ap (λ n. (if is then 1 else 0) + n) rest ∙ sym (count_cons q x xs is a)
kept_case q r x xs false false a b keeps rest =
    let none : (if false then 1 else 0) + count_by q xs ≡ count_by q xs = omega arith in
    rest ∙ sym (count_cons q x xs false a ∙ none)
kept_case q r x xs true false a b keeps rest = absurd (not_both (r x) b (keeps a))

-- what is counted among those that are kept is counted among all, where all of it is kept
pub count_kept : (q r : ℕ → Bool) (first n : ℕ) → ((j : ℕ) → j < first + n → q j ≡ true → r j ≡ true) → count_by q (filter r (counted first n)) ≡ count_by q (counted first n)
count_kept q r first zero kept = refl
count_kept q r first (suc n) kept =
    let rest = count_kept q r (suc first) n (λ j within. kept j (omega (arith, within))) in
    let all = kept_case q r first (counted (suc first) n) (q first) (r first) refl refl (kept first (omega arith)) rest in
    all

counted_split : (first m n : ℕ) → counted first (m + n) ≡ counted first m ++ counted (first + m) n
counted_split first zero n =
    let a : 0 + n ≡ n = omega arith in
    let b : first ≡ first + 0 = omega arith in
    ap (λ k. counted first k) a ∙ ap (λ k. counted k n) b
counted_split first (suc m) n =
    let longer : suc m + n ≡ suc (m + n) = omega arith in
    let later : suc first + m ≡ first + suc m = omega arith in
    ap (λ k. counted first k) longer ∙ ap (λ (l : List ℕ). first ∷ l) (counted_split (suc first) m n ∙ ap (λ k. counted (suc first) m ++ counted k n) later)

none_of : (q : ℕ → Bool) (first n : ℕ) → ((j : ℕ) → j < first + n → q j ≡ false) → count_by q (counted first n) ≡ 0
none_of q first zero out = refl
none_of q first (suc n) out =
    let here = count_cons q first (counted (suc first) n) false (out first (omega arith)) in
    let rest = none_of q (suc first) n (λ j within. out j (omega (arith, within))) in
    omega (arith, here, rest)

-- indexes of things that pass are as many as the things
all_of : {X : Type 0} (q : ℕ → Bool) (p : X → Bool) (first : ℕ) (xs : List X) (d : X) → ((j : ℕ) → j < length xs → q (first + j) ≡ p (get_or xs j d)) → count_by q (counted first (length xs)) ≡ count_by p xs
all_of q p first [] d same = refl
all_of q p first (x ∷ xs) d same =
    let here : q first ≡ p x = ap q (omega arith) ∙ same 0 (omega arith) in
    let rest = all_of q p (suc first) xs d (λ j within. ap q (omega arith) ∙ same (suc j) (omega (arith, within))) in
    count_cons q first (counted (suc first) (length xs)) (p x) here ∙ ap (λ n. (if p x then 1 else 0) + n) rest ∙ sym (count_cons p x xs (p x) refl)

-- the indexes behind one whose molecule passes are as many as the molecules behind it that pass
pub behind_counted : (p : Mol → Bool) (mols : List Mol) (i : ℕ) (nobody : Mol) → i < length mols
    → count_by (λ j. nat_lt i j && p (get_or mols j nobody)) (counted 0 (length mols)) ≡ count_by p (drop (i + 1) mols)
behind_counted p mols i nobody within =
    let q : ℕ → Bool = λ j. nat_lt i j && p (get_or mols j nobody) in
    let rest = drop (i + 1) mols in
    let parts : length mols ≡ (i + 1) + length rest = omega (arith, length-drop (i + 1) mols, within) in
    let split = ap (λ n. count_by q (counted 0 n)) parts ∙ ap (λ (l : List ℕ). count_by q l) (counted_split 0 (i + 1) (length rest)) ∙ count_append q (counted 0 (i + 1)) (counted (0 + (i + 1)) (length rest)) in
    let before : count_by q (counted 0 (i + 1)) ≡ 0 = none_of q 0 (i + 1) (λ j within. not_behind i j (p (get_or mols j nobody)) (omega (arith, within))) in
    let after : count_by q (counted (0 + (i + 1)) (length rest)) ≡ count_by p rest = all_of q p (0 + (i + 1)) rest nobody (λ j there.
    let later : nat_lt i (0 + (i + 1) + j) ≡ true = is_behind i (0 + (i + 1) + j) (omega arith) in
    ap (λ b. b && p (get_or mols (0 + (i + 1) + j) nobody)) later ∙ ap (λ k. p (get_or mols k nobody)) (omega arith) ∙ ap p (sym (get_or-drop (i + 1) mols j nobody))) in
    split ∙ (λ k. before k + after k) ∙ omega arith

-- with one of what is left counted, the counts come to the same
pub left_next : {X : Type 0} (is_at : ℕ → X → Bool) (n : ℕ) (thing : X) (at : Option ℕ) (counts new : List ℕ) (rest before : List X) (k : ℕ) → IsPlaced is_at n thing at → length counts ≡ n → new ≡ raised counts at → before ≡ thing ∷ rest
    → get_or new k 0 + count_by (is_at k) rest ≡ get_or counts k 0 + count_by (is_at k) before
left_next {X} is_at n thing at counts new rest before k placed long new_is left =
    let one : ℕ = if is_at k thing then 1 else 0 in
    let a : get_or new k 0 ≡ get_or counts k 0 + one = ap (λ (l : List ℕ). get_or l k 0) new_is ∙ raised_at is_at n thing at counts k placed long in
    let b : count_by (is_at k) before ≡ one + count_by (is_at k) rest = ap (λ (l : List X). count_by (is_at k) l) left ∙ count_cons (is_at k) thing rest (is_at k thing) refl in
    omega (arith, a, b)

known_more : (r : ℕ → Bool) (x bound : ℕ) (xs : List ℕ) (is : Bool) → x < bound → ((k d : ℕ) → k < length xs → get_or xs k d < bound)
    → (k d : ℕ) → k < length (if is then x ∷ xs else xs) → get_or (if is then x ∷ xs else xs) k d < bound
known_more r x bound xs true below known zero d there = below
known_more r x bound xs true below known (suc k) d there = known k d (omega (arith, there))
known_more r x bound xs false below known k d there = known k d there

-- numbers that are kept are as low as all
pub kept_known : (r : ℕ → Bool) (first n bound : ℕ) → first + n ≤ bound → (k d : ℕ) → k < length (filter r (counted first n)) → get_or (filter r (counted first n)) k d < bound
kept_known r first zero bound within k d there = absurd (omega (arith, there))
kept_known r first (suc n) bound within k d there =
    known_more r first bound (filter r (counted (suc first) n)) (r first) (omega (arith, within)) (kept_known r (suc first) n bound (omega (arith, within))) k d there
