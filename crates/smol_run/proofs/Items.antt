-- What the words spell from a place on, one item after another.
use Rattle.std.proofs.Common.{◌≡◌, ◌+◌, ◌<◌, ℕ, Bool, if◌then◌else◌, Option, true, false, List, [], ◌∷◌, ◌++◌, IsSome, IfSome, length, map, drop, Some, None, Ok, Err, Result, MatchResult, refl, sym, ◌∙◌, ap, arith, add-one, string_bytes, String, Global, drop-cons}
use Rattle.std.specs.Prelude.{slice_get, codes}
use Rattle.std.specs.Option.{option_and_then, option_map, option_to_list}
use Rattle.std.specs.Str.{bytes_eq}
use Rattle.std.specs.Result.{result_ok}
use Rattle.std.proofs.lemmas.Option.{slice_get-map, slice_get_within, get_or_from_slice_get}
use Rattle.smol_run.specs.declared.words.Item.{Item}
use Rattle.smol_run.specs.declared.words.Item.TheVariants.{Name, Seed, Workers, Runs}
use Rattle.smol_run.specs.declared.words.Job.{Job}
use Rattle.smol_run.specs.declared.words.Found.{Found}
use Rattle.smol_run.specs.declared.words.WordFault.{WordFault}
use Rattle.smol_types.specs.declared.fault.Kind.{Kind}
use Rattle.smol_line.specs.Numbers.{count_in}
use Rattle.smol_line.proofs.Ranges.{count_in-low, count_in-high}
use Rattle.smol_run.specs.Words.{AreRuns, AreWorkers, Finds, optional_entry, is_file_name, IsSecond, item_of_two, items_of, job_by, joined_items, NamesWithin, names_in, only_entry, file_job, run_counts_in, runs_in, RunsWithin, seed_in, seeds_in, StandsAt, item_len, worker_counts_in, workers_in, WorkersWithin}

-- the entry at a place stands before those behind it
pub drop_at : {X : Type 0} (xs : List X) (place : ℕ) (x : X) → slice_get xs place ≡ Some x → drop place xs ≡ x ∷ drop (place + 1) xs
drop_at xs place x is =
    rw (drop-cons xs place x (slice_get_within xs place x is), get_or_from_slice_get xs place x x is, ← add-one place) refl

-- the word at a place
pub word_at : (words : List (String Global)) (place : ℕ) (word : String Global) → slice_get words place ≡ Some word → slice_get (map string_bytes words) place ≡ Some (string_bytes word)
word_at words place word is = rw (slice_get-map string_bytes words place, is) refl

-- a name is an item by itself
pub items_of-name : (index : ℕ) (word : List ℕ) (words : List (List ℕ)) → is_file_name word ≡ true → items_of index (word ∷ words) ≡ joined_items (Some (Name index)) (items_of (index + 1) words)
items_of-name index word [] is = rw is refl
items_of-name index word (behind ∷ words) is = rw is refl

-- any other word needs one behind it
pub items_of-two : (index : ℕ) (word behind : List ℕ) (words : List (List ℕ)) → is_file_name word ≡ false → items_of index (word ∷ behind ∷ words) ≡ joined_items (item_of_two word behind) (items_of (index + 2) words)
items_of-two index word behind words not = rw not refl

-- the word at this place is a name
pub StandsAt-name : (words : List (List ℕ)) (place : ℕ) (word : List ℕ) → slice_get words place ≡ Some word → is_file_name word ≡ true → StandsAt (Name place) place words
StandsAt-name words place word is named = record {
  fits = omega (arith, slice_get_within words place word is);
  within = slice_get_within words place word is;
  workers = tt;
  runs = tt;
  first = rw (drop_at words place word is) (items_of-name place word (drop (place + 1) words) named);
}

-- a value is what it is the value of
value_is : (value : Result ℕ Kind) (found : ℕ) → result_ok value ≡ Some found → value ≡ Ok found
value_is (Ok number) found is = cc
value_is (Err kind) found is = absurd (cc)

-- a number of workers is one from 1 to 16
workers_in-within : (word : List ℕ) (found : ℕ) → workers_in word ≡ Some found → AreWorkers found
workers_in-within word found is =
    let value = value_is (count_in 1 16 word) found is in
    record { least = count_in-low 1 16 word found value; most = count_in-high 1 16 word found value }

-- and a number of runs one from 1 to 1,000
runs_in-within : (word : List ℕ) (found : ℕ) → runs_in word ≡ Some found → AreRuns found
runs_in-within word found is =
    let value = value_is (count_in 1 1000 word) found is in
    record { least = count_in-low 1 1000 word found value; most = count_in-high 1 1000 word found value }

-- the item has two words, and is no name, nor too few or too many workers or runs
abbrev HasTwoWords : Item → Type 0
HasTwoWords item = (item_len item ≡ 2) × ((count : ℕ) → NamesWithin count item) × WorkersWithin item × RunsWithin item

-- where the word says what the number is, both are an item
two_words_by : (says_seed says_workers says_runs : Bool) (seed workers runs : Option ℕ) (item : Item)
    → ((found : ℕ) → workers ≡ Some found → AreWorkers found) → ((found : ℕ) → runs ≡ Some found → AreRuns found)
    → (if says_seed then option_map Seed seed else (if says_workers then option_map Workers workers
    else (if says_runs then option_map Runs runs else None))) ≡ Some item → HasTwoWords item
two_words_by true says_workers says_runs (Some seed) workers runs item team within is =
    let same : item ≡ Seed seed = cc in
    rw same (refl, λ count. tt, tt, tt)
two_words_by true says_workers says_runs None workers runs item team within is = absurd (cc)
two_words_by false true says_runs seed (Some workers) runs item team within is =
    let same : item ≡ Workers workers = cc in
    rw same (refl, λ count. tt, team workers refl, tt)
two_words_by false true says_runs seed None runs item team within is = absurd (cc)
two_words_by false false true seed workers (Some runs) item team within is =
    let same : item ≡ Runs runs = cc in
    rw same (refl, λ count. tt, tt, within runs refl)
two_words_by false false true seed workers None item team within is = absurd (cc)
two_words_by false false false seed workers runs item team within is = absurd (cc)

two_words : (word number : List ℕ) (item : Item) → item_of_two word number ≡ Some item → HasTwoWords item
two_words word number item is =
    two_words_by (bytes_eq word (codes "--seed")) (bytes_eq word (codes "--workers")) (bytes_eq word (codes "--runs")) (seed_in number)
    (workers_in number) (runs_in number) item (workers_in-within number) (runs_in-within number) is

-- the words from this place on, of which the first is no name
items_of-drop_two : (words : List (List ℕ)) (place : ℕ) (word behind : List ℕ) → slice_get words place ≡ Some word → slice_get words (place + 1) ≡ Some behind → is_file_name word ≡ false → items_of place (drop place words) ≡ joined_items (item_of_two word behind) (items_of (place + 2) (drop (place + 2) words))
items_of-drop_two words place word behind is next not =
    let sum : place + 1 + 1 ≡ place + 2 = omega arith in
    rw (drop_at words place word is, drop_at words (place + 1) behind next, sum)
    (items_of-two place word behind (drop (place + 2) words) not)

-- the words at this place and behind it spell an item, or the words from here on spell none
pub StandsAt-two : (words : List (List ℕ)) (place : ℕ) (word behind : List ℕ) (item : Result Item WordFault) → slice_get words place ≡ Some word → slice_get words (place + 1) ≡ Some behind → is_file_name word ≡ false → result_ok item ≡ item_of_two word behind → MatchResult item (λ item. StandsAt item place words) (λ _. items_of place (drop place words) ≡ None)
StandsAt-two words place word behind (Ok item) is next not found =
    let two = two_words word behind item (sym found) in
    let inside : place + 1 < length words = slice_get_within words (place + 1) behind next in
    record {
      fits = rw two.0 (omega arith);
      within = two.1 (length words);
      workers = two.2;
      runs = two.3;
      first = rw two.0 (items_of-drop_two words place word behind is next not ∙ ap (λ item. joined_items item (items_of (place + 2) (drop (place + 2) words))) (sym found));
    }
StandsAt-two words place word behind (Err fault) is next not found =
    items_of-drop_two words place word behind is next not ∙ ap (λ item. joined_items item (items_of (place + 2) (drop (place + 2) words))) (sym found)

-- what was found and further items ask for
abbrev pub job_of_more : Found → Option (List Item) → Option Job
job_of_more found items =
    option_and_then (λ items. file_job (option_to_list found.name ++ names_in items) (option_to_list found.seed ++ seeds_in items)
    (option_to_list found.workers ++ worker_counts_in items) (option_to_list found.runs ++ run_counts_in items)) items

-- an item that was added counts as found
pub job_of_more-Finds : (item : Item) (old new : Found) (items : Option (List Item)) → Finds item old new → job_of_more old (joined_items (Some item) items) ≡ job_of_more new items
job_of_more-Finds item old new None adds = refl
job_of_more-Finds (Name index) old new (Some items) adds = rw (adds.1, adds.0) refl
job_of_more-Finds (Seed seed) old new (Some items) adds = rw (adds.1, adds.0) refl
job_of_more-Finds (Workers workers) old new (Some items) adds = rw (adds.1, adds.0) refl
job_of_more-Finds (Runs runs) old new (Some items) adds = rw (adds.1, adds.0) refl

-- a name behind a name is one too many
only_entry-second : (name : Option ℕ) (index : ℕ) (names : List ℕ) → IsSome name → only_entry (option_to_list name ++ index ∷ names) ≡ None
only_entry-second None index names some = absurd (cc)
only_entry-second (Some first) index names some = refl

-- so is a seed behind a seed, and a number of workers or of runs behind another
optional_entry-second : (given : Option ℕ) (second : ℕ) (others : List ℕ) → IsSome given → optional_entry (option_to_list given ++ second ∷ others) ≡ None
optional_entry-second None second others some = absurd (cc)
optional_entry-second (Some first) second others some = refl

-- too many seeds ask for nothing
no_seed : (name : Option ℕ) (workers runs : Option (Option ℕ))
    → option_and_then (λ (index : ℕ). option_and_then (λ seed. option_and_then (λ given. option_map (job_by index seed given) runs) workers) None) name
    ≡ None
no_seed None workers runs = refl
no_seed (Some index) workers runs = refl

-- nor do too many numbers of workers
no_workers : (name : Option ℕ) (seed runs : Option (Option ℕ))
    → option_and_then (λ (index : ℕ). option_and_then (λ seed. option_and_then (λ given. option_map (job_by index seed given) runs) None) seed) name
    ≡ None
no_workers None seed runs = refl
no_workers (Some index) None runs = refl
no_workers (Some index) (Some seed) runs = refl

-- nor too many numbers of runs
no_runs : (name : Option ℕ) (seed workers : Option (Option ℕ))
    → option_and_then (λ (index : ℕ). option_and_then (λ seed. option_and_then (λ given. option_map (job_by index seed given) None) workers) seed) name
    ≡ None
no_runs None seed workers = refl
no_runs (Some index) None workers = refl
no_runs (Some index) (Some seed) None = refl
no_runs (Some index) (Some seed) (Some workers) = refl

-- a second item of a kind asks for nothing
pub job_of_more-IsSecond : (item : Item) (found : Found) (items : Option (List Item)) → IsSecond item found → job_of_more found (joined_items (Some item) items) ≡ None
job_of_more-IsSecond item found None second = refl
job_of_more-IsSecond (Name index) found (Some items) second = rw (only_entry-second found.name index (names_in items) second) refl
job_of_more-IsSecond (Seed seed) found (Some items) second =
    rw (optional_entry-second found.seed seed (seeds_in items) second)
    (no_seed (only_entry (option_to_list found.name ++ names_in items)) (optional_entry (option_to_list found.workers ++ worker_counts_in items))
    (optional_entry (option_to_list found.runs ++ run_counts_in items)))
job_of_more-IsSecond (Workers workers) found (Some items) second =
    rw (optional_entry-second found.workers workers (worker_counts_in items) second)
    (no_workers (only_entry (option_to_list found.name ++ names_in items)) (optional_entry (option_to_list found.seed ++ seeds_in items))
    (optional_entry (option_to_list found.runs ++ run_counts_in items)))
job_of_more-IsSecond (Runs runs) found (Some items) second =
    rw (optional_entry-second found.runs runs (run_counts_in items) second)
    (no_runs (only_entry (option_to_list found.name ++ names_in items)) (optional_entry (option_to_list found.seed ++ seeds_in items))
    (optional_entry (option_to_list found.workers ++ worker_counts_in items)))

-- a name that was found stays one of the words
pub named-Finds : (item : Item) (old new : Found) (count : ℕ) → Finds item old new → NamesWithin count item → IfSome old.name (λ index. index < count) → IfSome new.name (λ index. index < count)
named-Finds (Name index) old new count adds within named = rw adds.1 within
named-Finds (Seed seed) old new count adds within named = rw adds.1 named
named-Finds (Workers workers) old new count adds within named = rw adds.1 named
named-Finds (Runs runs) old new count adds within named = rw adds.1 named

-- workers that were found stay 1 to 16
pub workers-Finds : (item : Item) (old new : Found) → Finds item old new → WorkersWithin item → IfSome old.workers AreWorkers → IfSome new.workers AreWorkers
workers-Finds (Name index) old new adds within before = rw adds.1 before
workers-Finds (Seed seed) old new adds within before = rw adds.1 before
workers-Finds (Workers workers) old new adds within before = rw adds.1 within
workers-Finds (Runs runs) old new adds within before = rw adds.1 before

-- and runs 1 to 1,000
pub runs-Finds : (item : Item) (old new : Found) → Finds item old new → RunsWithin item → IfSome old.runs AreRuns → IfSome new.runs AreRuns
runs-Finds (Name index) old new adds within before = rw adds.1 before
runs-Finds (Seed seed) old new adds within before = rw adds.1 before
runs-Finds (Workers workers) old new adds within before = rw adds.1 before
runs-Finds (Runs runs) old new adds within before = rw adds.1 within
