-- What the seat of a worker knows, and what it knows after each kind of step.
use Rattle.std.specs.Prelude.{ℕ, zero, suc, ◌+◌, ◌-◌, Bool, false, ◌||◌, ◌&&◌, ◌==◌, max, List, [], ◌∷◌, ◌++◌, length, slice_index_or, Some, None, if◌then◌else◌}
use Rattle.smol_plan.specs.declared.pair.Pair.{Pair}
use Rattle.smol_plan.specs.declared.pair.Side.{Side}
use Rattle.smol_plan.specs.declared.pair.Side.TheVariants.{Low, High}
use Rattle.smol_plan.specs.Pair.{is_side}
use Rattle.smol_plan.specs.Links.{comes_from}
use Rattle.smol_plan.specs.Machine.{slice_of, has_no_link}
use Rattle.smol_claims.specs.declared.view.Link.{Link}
use Rattle.smol_claims.specs.declared.view.View.{View}

-- whether a number is in a list
abbrev pub has : List ℕ → ℕ → Bool
has [] j = false
has (x ∷ xs) j = (j == x) || has xs j

-- how often a number is in a list
abbrev pub times : List ℕ → ℕ → ℕ
times [] j = 0
times (x ∷ xs) j = (if j == x then 1 else 0) + times xs j

-- the numbers of a list but this one
abbrev pub but : List ℕ → ℕ → List ℕ
but [] j = []
but (x ∷ xs) j = if x == j then but xs j else x ∷ but xs j

-- whether a link is that of this pair on this side
abbrev pub is_link_of : Link → ℕ → Side → Bool
is_link_of l j side = (j == l.pair) && is_side side l.side

-- whether the link of a pair on a side is in a list
abbrev pub has_link : List Link → ℕ → Side → Bool
has_link [] j side = false
has_link (l ∷ ls) j side = is_link_of l j side || has_link ls j side

-- the links of a list but this one
abbrev pub without : List Link → Link → List Link
without [] l = []
without (x ∷ xs) l = if is_link_of l x.pair x.side then without xs l else x ∷ without xs l

-- the pairs below n that are of the slice and have no link
unfoldable pub free_below : List Pair → ℕ → ℕ → List ℕ
free_below pairs slice zero = []
free_below pairs slice (suc n) =
    if (slice_of n == slice) && has_no_link pairs n then n ∷ free_below pairs slice n else free_below pairs slice n

-- the pairs of a slice that have no link
abbrev pub free_pairs : List Pair → ℕ → List ℕ
free_pairs pairs slice = free_below pairs slice (length pairs)

-- the link of k on a side where it comes from the pair j
abbrev pub link_from : List Pair → ℕ → ℕ → Side → List Link
link_from pairs j k side = if comes_from pairs j k side then record { pair = k; side = side } ∷ [] else []

-- the links of the pairs below n that come from the pair j
unfoldable pub links_below : List Pair → ℕ → ℕ → List Link
links_below pairs j zero = []
links_below pairs j (suc k) = link_from pairs j k Low ++ (link_from pairs j k High ++ links_below pairs j k)

-- the links that come from the pair j
abbrev pub links_from : List Pair → ℕ → List Link
links_from pairs j = links_below pairs j (length pairs)

-- a seat with this share that has done nothing
abbrev pub newcomer : List Pair → ℕ → ℕ → View
newcomer pairs workers share =
    record { pairs = pairs; workers = workers; held = []; owed = []; mine = []; seen = 0; share = share; last = None; looks = 0 }

-- a seat that was joined into another one
abbrev pub spent : View
spent = newcomer [] 0 0

-- the view of a seat
abbrev pub view_at : List View → ℕ → View
view_at views w = slice_index_or views w spent

-- after a take of the slice: where it was not taken before, the seat holds its pairs without a link;
-- and it has seen one slice more where it had seen all before this one
abbrev pub view_taking : View → ℕ → Bool → View
view_taking v slice is_new =
    record v {
      held = if is_new then free_pairs v.pairs slice ++ v.held else v.held;
      seen = if v.seen == slice then suc slice else v.seen;
    }

-- after a look at the pair that found this word
abbrev pub view_looking : View → ℕ → ℕ → View
view_looking v j word = record v { last = Some record { pair = j; word = word }; looks = v.looks + 1 }

-- after the seat decides the pair: it holds the pair no longer, and owes each link that comes from it
abbrev pub view_deciding : View → ℕ → View
view_deciding v j = record v { held = but v.held j; owed = links_from v.pairs j ++ v.owed; mine = j ∷ v.mine }

-- after the seat tells the link: it owes the link no longer, and holds the pair where that was its last one
abbrev pub view_telling : View → Link → Bool → View
view_telling v l is_last = record v { held = if is_last then l.pair ∷ v.held else v.held; owed = without v.owed l }

-- after a new seat was split from the seat, with one part of its share
abbrev pub view_splitting : View → View
view_splitting v = record v { share = v.share - 1 }

-- of that new seat
abbrev pub view_of_new : View → View
view_of_new v = newcomer v.pairs v.workers 1

-- after another seat was joined into the seat
abbrev pub view_joining : View → View → View
view_joining v w = record v { mine = v.mine ++ w.mine; seen = max v.seen w.seen; share = v.share + w.share }
