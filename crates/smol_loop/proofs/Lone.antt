-- What one command printed, as it is written: its piece stands alone on the pages.
use Rattle.std.proofs.Common.{◌≡◌, ◌<◌, ◌≤◌, ℕ, zero, suc, ◌+◌, ◌==◌, ◌≢◌, if◌then◌else◌, true, false, List, [], ◌∷◌, ◌++◌, length, get_or, take, replicate, arith, refl, sym, ap, subst, ◌∙◌, Option, inl, inr}
use Rattle.std.proofs.lemmas.Bool.{cases_lt}
use Rattle.std.proofs.lemmas.Bool.Decides.{nat_tests}
use Rattle.std.proofs.lemmas.List.{append-nil, length-replicate, get_or-replicate}
use Rattle.smol_edge.specs.Faults.{Tells}
use Rattle.smol_edge.specs.Outlets.{Appends, AppendsFrontOf, Piece, Written, bytes_on}
use Rattle.smol_edge.proofs.PieceFronts.{Appends-same, AppendsFrontOf-bytes, AppendsFrontOf-nothing}
use Rattle.smol_edge.proofs.Pieces.{Appends-nothing}
use Rattle.smol_edge.proofs.Telling.{Tells-same, Tells-weaker}
use Rattle.smol_meaning.specs.Stretch.{Stretch}
use Rattle.smol_meaning.proofs.Performing.{PrintsOnce}
use Rattle.smol_commands.specs.Performs.{Adds}
use Rattle.smol_loop.specs.Parts.{on_pages}

past_end : (xs : List (List ℕ)) (i : ℕ) → length xs ≤ i → get_or xs i [] ≡ []
past_end [] i past = refl
past_end (x ∷ xs) zero past = absurd (omega arith)
past_end (x ∷ xs) (suc i) past = past_end xs i (omega arith)

nothing_taken : (n : ℕ) → take {A = ℕ} n [] ≡ []
nothing_taken zero = refl
nothing_taken (suc n) = refl

-- a piece for this outlet, and one for another
piece_here : (outlet out : ℕ) (text : List ℕ) (more : List Piece) → out ≡ outlet → bytes_on outlet ((out, text) ∷ more) ≡ text ++ bytes_on outlet more
piece_here outlet out text more same =
    let test : (out == outlet) ≡ true = grind (arith, nat_tests) in
    ap (λ b. (if b then text else []) ++ bytes_on outlet more) test

piece_elsewhere : (outlet out : ℕ) (text : List ℕ) (more : List Piece) → out ≢ outlet → bytes_on outlet ((out, text) ∷ more) ≡ bytes_on outlet more
piece_elsewhere outlet out text more other =
    let test : (out == outlet) ≡ false = grind (arith, nat_tests) in
    ap (λ b. (if b then text else []) ++ bytes_on outlet more) test

before_first : (outlet first : ℕ) (pages : List (List ℕ)) → outlet < first → bytes_on outlet (on_pages first pages) ≡ []
before_first outlet first [] below = refl
before_first outlet first (page ∷ pages) below =
    piece_elsewhere outlet first page (on_pages (first + 1) pages) (omega arith) ∙ before_first outlet (first + 1) pages (omega arith)

-- an outlet gets its page, where it is among those from the first number on
bytes_of_page : (first : ℕ) (pages : List (List ℕ)) (k : ℕ) → bytes_on (first + k) (on_pages first pages) ≡ get_or pages k []
bytes_of_page first [] k = refl
bytes_of_page first (page ∷ pages) zero =
    piece_here (first + 0) first page (on_pages (first + 1) pages) (omega arith)
    ∙ ap (λ back. page ++ back) (before_first (first + 0) (first + 1) pages (omega arith))
    ∙ append-nil page
bytes_of_page first (page ∷ pages) (suc k) =
    piece_elsewhere (first + suc k) first page (on_pages (first + 1) pages) (omega arith)
    ∙ ap (λ n. bytes_on n (on_pages (first + 1) pages)) (omega arith)
    ∙ bytes_of_page (first + 1) pages k

bytes_of_pages : (pages : List (List ℕ)) (outlet : ℕ) → bytes_on outlet (on_pages 0 pages) ≡ get_or pages outlet []
bytes_of_pages pages outlet = ap (λ n. bytes_on n (on_pages 0 pages)) (omega arith) ∙ bytes_of_page 0 pages outlet

other_outlet : (outlet out : ℕ) (text : List ℕ) → out < outlet → bytes_on outlet ((out, text) ∷ []) ≡ []
other_outlet outlet out text below = piece_elsewhere outlet out text [] (omega arith)

-- the pieces of a command are for outlets that there are
no_piece_beyond : (count outlet : ℕ) (stretch : Stretch) → PrintsOnce count stretch → count ≤ outlet → bytes_on outlet stretch.pieces ≡ []
no_piece_beyond count outlet stretch prints beyond =
    elim prints.pieces [
      | inl none ↦ ap (bytes_on outlet) none
      | inr one ↦ ap (bytes_on outlet) one.3 ∙ other_outlet outlet one.0 one.1 (let there = one.2 in omega arith)
    ]

-- what is on the pages is what the command printed
pub on_pages_are : (count : ℕ) (stretch : Stretch) (pages : List (List ℕ)) → PrintsOnce count stretch → Adds stretch.pieces (replicate count []) pages → (outlet : ℕ) → bytes_on outlet (on_pages 0 pages) ≡ bytes_on outlet stretch.pieces
on_pages_are count stretch pages prints adds outlet =
    let blank : length (replicate {A = List ℕ} count []) ≡ count = length-replicate count [] in
    elim (cases_lt outlet count) [
      | inl within ↦ bytes_of_pages pages outlet ∙ adds.pages outlet (omega arith)
          ∙ ap (λ front. front ++ bytes_on outlet stretch.pieces) (get_or-replicate count outlet [] [] within)
      | inr beyond ↦ bytes_of_pages pages outlet
          ∙ past_end pages outlet (let same = adds.count in omega arith)
          ∙ sym (no_piece_beyond count outlet stretch prints beyond)
    ]

-- a front of a list of pieces that says to each outlet what one piece says is a front of that piece
lone_front : (out : ℕ) (text : List ℕ) (xs : List Piece) (a b : Written) → ((outlet : ℕ) → bytes_on outlet xs ≡ bytes_on outlet ((out, text) ∷ [])) → AppendsFrontOf xs a b → AppendsFrontOf ((out, text) ∷ []) a b
lone_front out text xs a b same front =
    let at = AppendsFrontOf-bytes xs a b front out in
    let Fits : ℕ → Type 0 = λ outlet. b.bytes outlet ≡ a.bytes outlet ++ bytes_on outlet ((out, take at.0 text) ∷ []) in
    let here : Fits out =
    at.1
    ∙ ap (λ back. a.bytes out ++ take at.0 back) (same out ∙ piece_here out out text [] refl ∙ append-nil text)
    ∙ ap (λ back. a.bytes out ++ back) (sym (piece_here out out (take at.0 text) [] refl ∙ append-nil (take at.0 text))) in
    record { count = at.0; appends = record { names = front.appends.names; bytes = λ outlet. at_outlet at.0 here outlet } }
  where
    elsewhere : (count outlet : ℕ) → out ≢ outlet → b.bytes outlet ≡ a.bytes outlet ++ bytes_on outlet ((out, take count text) ∷ [])
    elsewhere count outlet other =
        let there = AppendsFrontOf-bytes xs a b front outlet in
        there.1
        ∙ ap (λ back. a.bytes outlet ++ take there.0 back) (same outlet ∙ piece_elsewhere outlet out text [] other)
        ∙ ap (λ back. a.bytes outlet ++ back) (nothing_taken there.0 ∙ sym (piece_elsewhere outlet out (take count text) [] other))

    at_outlet : (count : ℕ) → b.bytes out ≡ a.bytes out ++ bytes_on out ((out, take count text) ∷ []) → (outlet : ℕ) → b.bytes outlet ≡ a.bytes outlet ++ bytes_on outlet ((out, take count text) ∷ [])
    at_outlet count here outlet =
        elim (cases_lt out outlet) [
          | inl below ↦ elsewhere count outlet (omega arith)
          | inr above ↦ elim (cases_lt outlet out) [
            | inl beyond ↦ elsewhere count outlet (omega arith)
            | inr within ↦ let same_outlet : out ≡ outlet = omega arith in
                let P : ℕ → Type 0 = λ o. b.bytes o ≡ a.bytes o ++ bytes_on o ((out, take count text) ∷ []) in
                subst P same_outlet here
          ]
        ]

no_front : (xs : List Piece) (a b : Written) → ((outlet : ℕ) → bytes_on outlet xs ≡ []) → AppendsFrontOf xs a b → AppendsFrontOf [] a b
no_front xs a b none front = record {
  count = 0;
  appends = record {
    names = front.appends.names;
    bytes = λ outlet.
        (AppendsFrontOf-bytes xs a b front outlet).1
        ∙ ap (λ back. a.bytes outlet ++ take (AppendsFrontOf-bytes xs a b front outlet).0 back) (none outlet)
        ∙ ap (λ back. a.bytes outlet ++ back) (nothing_taken (AppendsFrontOf-bytes xs a b front outlet).0);
  };
}

-- a front of the pages is a front of what the command printed
pub front_of_command : (count : ℕ) (stretch : Stretch) (pages : List (List ℕ)) (a b : Written) → PrintsOnce count stretch → Adds stretch.pieces (replicate count []) pages → AppendsFrontOf (on_pages 0 pages) a b → AppendsFrontOf stretch.pieces a b
front_of_command count stretch pages a b prints adds front =
    let same = on_pages_are count stretch pages prints adds in
    elim prints.pieces [
      | inl none ↦ subst (λ pieces. AppendsFrontOf pieces a b) (sym none) (no_front (on_pages 0 pages) a b (λ outlet. same outlet ∙ ap (bytes_on outlet) none) front)
      | inr one ↦ subst (λ pieces. AppendsFrontOf pieces a b) (sym one.3)
          (lone_front one.0 one.1 (on_pages 0 pages) a b (λ outlet. same outlet ∙ ap (bytes_on outlet) one.3) front)
    ]

-- the pages of a command are written whole, or a front of them
pub command_written : (count : ℕ) (stretch : Stretch) (old pages : List (List ℕ)) (a b : Option Written) → PrintsOnce count stretch → old ≡ replicate count [] → Adds stretch.pieces old pages → Tells a b (Appends (on_pages 0 pages)) → Tells a b (Appends stretch.pieces)
command_written count stretch old pages a b prints blank adds told =
    let same = on_pages_are count stretch pages prints (subst (λ all. Adds stretch.pieces all pages) blank adds) in
    Tells-weaker a b _ _ (λ x y appends. Appends-same (on_pages 0 pages) stretch.pieces x y same appends) told

pub command_cut : (count : ℕ) (stretch : Stretch) (old pages : List (List ℕ)) (a b : Option Written) → PrintsOnce count stretch → old ≡ replicate count [] → Adds stretch.pieces old pages → Tells a b (AppendsFrontOf (on_pages 0 pages)) → Tells a b (AppendsFrontOf stretch.pieces)
command_cut count stretch old pages a b prints blank adds told =
    let added = subst (λ all. Adds stretch.pieces all pages) blank adds in
    Tells-weaker a b _ _ (λ x y front. front_of_command count stretch pages x y prints added front) told

pub nothing_written : (pieces : List Piece) (a : Option Written) → pieces ≡ [] → Tells a a (Appends pieces)
nothing_written pieces a none =
    Tells-same a (Appends pieces) (λ x. subst (λ all. Appends all x x) (sym none) (Appends-nothing x))

pub front_nothing : (pieces : List Piece) (a : Option Written) → Tells a a (AppendsFrontOf pieces)
front_nothing pieces a = Tells-same a (AppendsFrontOf pieces) (λ x. AppendsFrontOf-nothing pieces x x (Appends-nothing x))
