-- Lists of pages as contracts see them.
use Rattle.std.proofs.Common.{◌≡◌, ◌<◌, ℕ, ◌+◌, List, [], length, get_or, set, ◌++◌, ◌≢◌, replicate, take, drop, Some, refl, sym, ap, subst, ◌∙◌, arith, below_more, get_or-set_other, get_or-set_same}
use Rattle.std.proofs.Math.Seq.{take-append_seam}
use Rattle.std.specs.Prelude.{slice_get, option_map}
use Rattle.std.specs.Global.{Vec}
use Rattle.std.proofs.lemmas.List.{map-set, length-map, same_lists, get_or-replicate, length-replicate, get_or_default}
use Rattle.std.proofs.lemmas.Option.{slice_get-map, slice_get_read}
use Rattle.smol_print.specs.Page.{all_bytes}

pub length-all_bytes : (pages : List (Vec ℕ)) → length (all_bytes pages) ≡ length pages
length-all_bytes pages = length-map pages (λ (page : Vec ℕ). page.items)

-- one page is written on
pub all_bytes-set : (pages : List (Vec ℕ)) (outlet : ℕ) (last : Vec ℕ) → all_bytes (set pages outlet last) ≡ set (all_bytes pages) outlet last.items
all_bytes-set pages outlet last = map-set (λ (page : Vec ℕ). page.items) pages outlet last

-- the bytes of a page
pub bytes_at : (pages : List (Vec ℕ)) (outlet : ℕ) (page : Vec ℕ) → outlet < length (all_bytes pages) → page ≡ get_or pages outlet page → slice_get (all_bytes pages) outlet ≡ Some page.items
bytes_at pages outlet page within is =
    slice_get-map (λ (page : Vec ℕ). page.items) pages outlet
    ∙ ap (option_map (λ (page : Vec ℕ). page.items)) (slice_get_read pages (length pages) outlet page refl (omega (arith, length-all_bytes pages)) is)

-- pages that are empty one by one
pub all_empty : (pages : List (List ℕ)) → ((k : ℕ) → k < length pages → get_or pages k [] ≡ []) → pages ≡ replicate (length pages) []
all_empty pages empty =
    same_lists pages (replicate (length pages) []) (sym (length-replicate (length pages) []))
    (λ k d within.
    get_or_default pages k d [] within ∙ empty k within ∙ sym (get_or-replicate (length pages) k [] d within))

-- one page more is empty
pub one_more_empty : (pages : List (Vec ℕ)) (i : ℕ) (last : Vec ℕ) → i < length pages → last.items ≡ [] → ((k : ℕ) → k < i → get_or (all_bytes pages) k [] ≡ []) → (k : ℕ) → k < i + 1 → get_or (all_bytes (set pages i last)) k [] ≡ []
one_more_empty pages i last within cleared before k below =
    let there : i < length (all_bytes pages) = omega (arith, length-all_bytes pages) in
    let P : List (List ℕ) → Type 0 = λ all. get_or all k [] ≡ [] in
    subst P (sym (all_bytes-set pages i last))
    (below_more (λ k. get_or (set (all_bytes pages) i last.items) k [] ≡ []) i
    (λ k h. let ne : k ≢ i = omega arith in rw get_or-set_other (before k h))
    (get_or-set_same (all_bytes pages) i last.items [] there ∙ cleared) k below)

-- all pages were emptied
pub all_emptied : (pages emptied : List (Vec ℕ)) (n : ℕ) → n ≡ length pages → length emptied ≡ length pages → ((k : ℕ) → k < length pages → get_or (all_bytes emptied) k [] ≡ []) → all_bytes (take n (emptied ++ drop (length emptied) pages)) ≡ replicate (length (all_bytes pages)) []
all_emptied pages emptied n all same empty =
    ap (λ n. all_bytes (take n (emptied ++ drop (length emptied) pages))) (all ∙ sym same)
    ∙ ap all_bytes (take-append_seam emptied (drop (length emptied) pages))
    ∙ all_empty (all_bytes emptied) (λ k within. empty k (omega (arith, same, length-all_bytes emptied)))
    ∙ ap (λ n. replicate n []) (omega (arith, same, length-all_bytes emptied, length-all_bytes pages))
