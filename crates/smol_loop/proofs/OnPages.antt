-- Pages with their outlets.
use Rattle.std.proofs.Common.{◌≡◌, ℕ, ◌+◌, List, [], ◌∷◌, ◌++◌, length, take, drop, arith, sym, subst, ap, ◌∙◌, Option, Some}
use Rattle.std.specs.Prelude.{slice_get}
use Rattle.std.proofs.lemmas.List.{take_more, length-take-le, take-append-drop}
use Rattle.std.proofs.lemmas.Option.{get_or_from_slice_get, slice_get_within}
use Rattle.smol_edge.specs.Faults.{Tells}
use Rattle.smol_edge.specs.Outlets.{Appends, AppendsFrontOf, Written}
use Rattle.smol_edge.proofs.Pieces.{Appends-then}
use Rattle.smol_edge.proofs.PieceFronts.{AppendsFrontOf-after, AppendsFrontOf-longer}
use Rattle.smol_edge.proofs.Telling.{Tells-then}
use Rattle.smol_loop.specs.Parts.{on_pages}

on_pages-append : (outlet : ℕ) (xs ys : List (List ℕ)) → on_pages outlet (xs ++ ys) ≡ on_pages outlet xs ++ on_pages (outlet + length xs) ys
on_pages-append outlet [] ys = ap (λ n. on_pages n ys) (omega arith)
on_pages-append outlet (x ∷ xs) ys =
    ap (λ l. (outlet, x) ∷ l) (on_pages-append (outlet + 1) xs ys ∙ ap (λ n. on_pages (outlet + 1) xs ++ on_pages n ys) (omega arith))

-- one page more
on_pages-more : (pages : List (List ℕ)) (i : ℕ) (page : List ℕ) → slice_get pages i ≡ Some page → on_pages 0 (take (i + 1) pages) ≡ on_pages 0 (take i pages) ++ (i, page) ∷ []
on_pages-more pages i page is =
    let within = slice_get_within pages i page is in
    let all : length (take i pages) ≡ i = length-take-le i pages (omega arith) in
    ap (on_pages 0) (take_more pages i page within ∙ ap (λ x. take i pages ++ x ∷ []) (get_or_from_slice_get pages i page page is))
    ∙ on_pages-append 0 (take i pages) (page ∷ [])
    ∙ ap (λ n. on_pages 0 (take i pages) ++ (n, page) ∷ []) (omega arith)

-- the pages up to one of them, and those that are left
on_pages-left : (pages : List (List ℕ)) (i : ℕ) → on_pages 0 pages ≡ on_pages 0 (take i pages) ++ on_pages (0 + length (take i pages)) (drop i pages)
on_pages-left pages i = ap (on_pages 0) (sym (take-append-drop i pages)) ∙ on_pages-append 0 (take i pages) (drop i pages)

-- one page more was written
pub one_more_written : (pages : List (List ℕ)) (i : ℕ) (page : List ℕ) (a b c : Option Written) → slice_get pages i ≡ Some page → Tells a b (Appends (on_pages 0 (take i pages))) → Tells b c (Appends ((i, page) ∷ [])) → Tells a c (Appends (on_pages 0 (take (i + 1) pages)))
one_more_written pages i page a b c is before now =
    subst (λ pieces. Tells a c (Appends pieces)) (sym (on_pages-more pages i page is))
    (Tells-then a b c _ _ _ (Appends-then (on_pages 0 (take i pages)) ((i, page) ∷ [])) before now)

-- a front of one page more was written
pub front_written : (pages : List (List ℕ)) (i : ℕ) (page : List ℕ) (a b c : Option Written) → slice_get pages i ≡ Some page → Tells a b (Appends (on_pages 0 (take i pages))) → Tells b c (AppendsFrontOf ((i, page) ∷ [])) → Tells a c (AppendsFrontOf (on_pages 0 pages))
front_written pages i page a b c is before now =
    let rest = on_pages (0 + length (take (i + 1) pages)) (drop (i + 1) pages) in
    subst (λ pieces. Tells a c (AppendsFrontOf pieces))
    (ap (λ front. front ++ rest) (sym (on_pages-more pages i page is)) ∙ sym (on_pages-left pages (i + 1)))
    (Tells-then a b c _ _ _
    (λ x y z first second. AppendsFrontOf-longer (on_pages 0 (take i pages) ++ (i, page) ∷ []) rest x z
    (AppendsFrontOf-after (on_pages 0 (take i pages)) ((i, page) ∷ []) x y z first second)) before now)
