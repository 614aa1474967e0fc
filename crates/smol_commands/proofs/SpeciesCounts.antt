-- Counts of molecules, species by species.
use Rattle.std.proofs.Common.{◌≡◌, ◌≢◌, ◌≤◌, ◌<◌, ◌+◌, ◌==◌, ℕ, zero, suc, Bool, true, false, if◌then◌else◌, List, [], ◌∷◌, ◌++◌, length, get_or, set, take, arith, refl, sym, ap, ◌∙◌, get_or-set_other, get_or-set_same}
use Rattle.std.proofs.lemmas.Bool.Decides.{nat_tests}
use Rattle.std.proofs.lemmas.Grind.{same_number_lists}
use Rattle.std.proofs.lemmas.List.Sums.{count_by-le-length, count_by_more_yes, count_by_more_no, sum_by-append}
use Rattle.std.proofs.lemmas.List.Elements.{filter_more}
use Rattle.std.specs.Prelude.{filter}
use Rattle.smol_types.specs.declared.species.Species.{Species}
use Rattle.smol_types.specs.declared.state.Mol.{Mol}
use Rattle.smol_meaning.specs.Lines.{number_of, counts_from}

-- no more molecules of a species than molecules
pub count_is_small : (mols : List Mol) (number : ℕ) → number_of mols number ≤ length mols
count_is_small mols number = count_by-le-length (λ (mol : Mol). mol.species == number) mols

pub length_counts : (mols : List Mol) (number : ℕ) (species : List Species) → length (counts_from mols number species) ≡ length species
length_counts mols number [] = refl
length_counts mols number (one ∷ species) = ap suc (length_counts mols (number + 1) species)

count_at : (mols : List Mol) (number : ℕ) (species : List Species) (k : ℕ) → k < length species → get_or (counts_from mols number species) k 0 ≡ number_of mols (number + k)
count_at mols number [] k within = absurd (omega arith)
count_at mols number (one ∷ species) zero within = ap (number_of mols) (omega arith)
count_at mols number (one ∷ species) (suc k) within =
    count_at mols (number + 1) species k (omega arith) ∙ ap (number_of mols) (omega arith)

-- numbers that are the count of each species are the counts
pub counts_are : (mols : List Mol) (species : List Species) (counts : List ℕ) → length counts ≡ length species → ((k : ℕ) → k < length species → get_or counts k 0 ≡ number_of mols k) → counts ≡ counts_from mols 0 species
counts_are mols species counts same_length counted =
    same_number_lists counts (counts_from mols 0 species) (same_length ∙ sym (length_counts mols 0 species))
    (λ k within.
    let there : k < length species = omega (arith, same_length) in
    counted k there ∙ sym (count_at mols 0 species k there ∙ ap (number_of mols) (omega arith)))

-- the molecule at i is counted at its species alone
more_counted : (mols : List Mol) (i : ℕ) (nobody : Mol) (k : ℕ) (is : Bool) → i < length mols → ((get_or mols i nobody).species == k) ≡ is → number_of (take (i + 1) mols) k ≡ number_of (take i mols) k + (if is then 1 else 0)
more_counted mols i nobody k true within same = count_by_more_yes (λ (mol : Mol). mol.species == k) mols i nobody within same
more_counted mols i nobody k false within other =
    count_by_more_no (λ (mol : Mol). mol.species == k) mols i nobody within other ∙ omega arith

one_raised : (counts : List ℕ) (number k : ℕ) (is : Bool) → number < length counts → (number == k) ≡ is → get_or (set counts number (get_or counts number 0 + 1)) k 0 ≡ get_or counts k 0 + (if is then 1 else 0)
one_raised counts number k true there same =
    let e : number ≡ k = grind (arith, nat_tests) in
    rw (← e) (get_or-set_same counts number (get_or counts number 0 + 1) 0 there)
one_raised counts number k false there other =
    let ne : k ≢ number = grind (arith, nat_tests) in rw get_or-set_other (omega arith)

-- one molecule more is counted
pub one_counted : (mols : List Mol) (i : ℕ) (nobody : Mol) (counts : List ℕ) (count k : ℕ) → i < length mols → (get_or mols i nobody).species < length counts → count ≡ get_or counts (get_or mols i nobody).species 0 → get_or counts k 0 ≡ number_of (take i mols) k → get_or (set counts (get_or mols i nobody).species (count + 1)) k 0 ≡ number_of (take (i + 1) mols) k
one_counted mols i nobody counts count k within there is_count counted =
    let number = (get_or mols i nobody).species in
    rw is_count
    (one_raised counts number k (number == k) there refl ∙ ap (λ (n : ℕ). n + (if number == k then 1 else 0)) counted
    ∙ sym (more_counted mols i nobody k (number == k) within refl))

number_of-one : (seen : List Mol) (mol : Mol) (k : ℕ) → number_of (seen ++ mol ∷ []) k ≡ number_of seen k + (if mol.species == k then 1 else 0)
number_of-one seen mol k =
    sum_by-append (λ (mol : Mol). if mol.species == k then 1 else 0) seen (mol ∷ [])
    ∙ ap (λ n. number_of seen k + n) (omega arith)

-- one molecule more is counted, behind those that were seen
pub one_more_counted : (seen : List Mol) (mol : Mol) (counts : List ℕ) (count k : ℕ) → mol.species < length counts → count ≡ get_or counts mol.species 0 → get_or counts k 0 ≡ number_of seen k → get_or (set counts mol.species (count + 1)) k 0 ≡ number_of (seen ++ mol ∷ []) k
one_more_counted seen mol counts count k there is_count counted =
    rw is_count
    (one_raised counts mol.species k (mol.species == k) there refl
    ∙ ap (λ (n : ℕ). n + (if mol.species == k then 1 else 0)) counted
    ∙ sym (number_of-one seen mol k))

-- the molecules so far that pass, with one more
pub passed_more : (p : Mol → Bool) (mols : List Mol) (i : ℕ) (nobody : Mol) (is : Bool) → i < length mols → p (get_or mols i nobody) ≡ is → filter p (take (i + 1) mols) ≡ filter p (take i mols) ++ (if is then get_or mols i nobody ∷ [] else [])
passed_more p mols i nobody is within same =
    filter_more p mols i nobody within
    ∙ ap (λ b. filter p (take i mols) ++ (if b then get_or mols i nobody ∷ [] else [])) same
