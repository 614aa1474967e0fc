-- What the words of the command line ask for.
use Rattle.std.specs.Prelude.{◌≡◌, ℕ, ◌+◌, ◌<◌, ◌≤◌, Bool, false, not, nat_eq, unwrap_or, if◌then◌else◌, List, [], ◌∷◌, Option, None, Some, IfSome, IsSome, codes, length, drop}
use Rattle.std.specs.List.{starts_with}
use Rattle.std.specs.Option.{option_map, option_and_then}
use Rattle.std.specs.Result.{result_ok}
use Rattle.std.specs.Str.{bytes_eq}
use Rattle.smol_num.specs.Digits.{count_of}
use Rattle.smol_line.specs.Numbers.{count_in}
use Rattle.smol_run.specs.declared.words.Job.{Job}
use Rattle.smol_run.specs.declared.words.Job.TheVariants.{File, Make}
use Rattle.smol_run.specs.declared.words.Item.{Item}
use Rattle.smol_run.specs.declared.words.Item.TheVariants.{Name, Seed, Workers, Runs}
use Rattle.smol_run.specs.declared.words.Found.{Found}

-- no file's name is empty or begins with two dashes
abbrev pub is_file_name : List ℕ → Bool
is_file_name [] = false
is_file_name (byte ∷ bytes) = not (starts_with nat_eq (byte ∷ bytes) (codes "--"))

-- a seed: 1 to 20 decimal digits, up to 2^64 - 1
abbrev pub seed_in : List ℕ → Option ℕ
seed_in word = result_ok (count_of word 18446744073709551615)

-- a number of workers: 1 to 20 decimal digits, from 1 to 16
abbrev pub workers_in : List ℕ → Option ℕ
workers_in word = result_ok (count_in 1 16 word)

-- a number of runs: 1 to 20 decimal digits, from 1 to 1,000
abbrev pub runs_in : List ℕ → Option ℕ
runs_in word = result_ok (count_in 1 1000 word)

-- a word that says what the number behind it is
abbrev pub item_of_two : List ℕ → List ℕ → Option Item
item_of_two word number =
    if bytes_eq word (codes "--seed") then option_map Seed (seed_in number)
    else (if bytes_eq word (codes "--workers") then option_map Workers (workers_in number)
    else (if bytes_eq word (codes "--runs") then option_map Runs (runs_in number) else None))

-- an item before others, where all are there
abbrev pub joined_items : Option Item → Option (List Item) → Option (List Item)
joined_items item items = option_and_then (λ first. option_map (λ others. first ∷ others) items) item

-- the items that the words spell, in order, where the first word has this index: a file's name is one word, and else it takes two
abbrev pub items_of : ℕ → List (List ℕ) → Option (List Item)
items_of index [] = Some []
items_of index (word ∷ []) = if is_file_name word then Some (Name index ∷ []) else None
items_of index (word ∷ behind ∷ words) =
    if is_file_name word
    then joined_items (Some (Name index)) (items_of (index + 1) (behind ∷ words))
    else joined_items (item_of_two word behind) (items_of (index + 2) words)

-- the indices of the names among the items
abbrev pub names_in : List Item → List ℕ
names_in [] = []
names_in (Name index ∷ items) = index ∷ names_in items
names_in (Seed seed ∷ items) = names_in items
names_in (Workers workers ∷ items) = names_in items
names_in (Runs runs ∷ items) = names_in items

-- the seeds among the items
abbrev pub seeds_in : List Item → List ℕ
seeds_in [] = []
seeds_in (Name index ∷ items) = seeds_in items
seeds_in (Seed seed ∷ items) = seed ∷ seeds_in items
seeds_in (Workers workers ∷ items) = seeds_in items
seeds_in (Runs runs ∷ items) = seeds_in items

-- the numbers of workers among the items
abbrev pub worker_counts_in : List Item → List ℕ
worker_counts_in [] = []
worker_counts_in (Name index ∷ items) = worker_counts_in items
worker_counts_in (Seed seed ∷ items) = worker_counts_in items
worker_counts_in (Workers workers ∷ items) = workers ∷ worker_counts_in items
worker_counts_in (Runs runs ∷ items) = worker_counts_in items

-- the numbers of runs among the items
abbrev pub run_counts_in : List Item → List ℕ
run_counts_in [] = []
run_counts_in (Name index ∷ items) = run_counts_in items
run_counts_in (Seed seed ∷ items) = run_counts_in items
run_counts_in (Workers workers ∷ items) = run_counts_in items
run_counts_in (Runs runs ∷ items) = runs ∷ run_counts_in items

-- the entry of a list that has exactly one
abbrev pub only_entry : List ℕ → Option ℕ
only_entry [] = None
only_entry (entry ∷ []) = Some entry
only_entry (first ∷ second ∷ entries) = None

-- the entry of a list that has at most one, if there is one
abbrev pub optional_entry : List ℕ → Option (Option ℕ)
optional_entry [] = Some None
optional_entry (entry ∷ []) = Some (Some entry)
optional_entry (first ∷ second ∷ entries) = None

-- a run of the file of this name with this seed or none, by the workers that are given, or else by one. Or as many runs as are given
abbrev pub job_by : ℕ → Option ℕ → Option ℕ → Option ℕ → Job
job_by index seed given runs = File index seed (unwrap_or given 1) runs

-- exactly one name, at most one seed, at most one number of workers and at most one number of runs ask for that file to be run
abbrev pub file_job : List ℕ → List ℕ → List ℕ → List ℕ → Option Job
file_job names seeds worker_counts run_counts =
    option_and_then (λ index. option_and_then (λ seed. option_and_then (λ given. option_map (job_by index seed given)
    (optional_entry run_counts))
    (optional_entry worker_counts))
    (optional_entry seeds))
    (only_entry names)

-- words that spell items ask for what the items ask for
abbrev pub items_job : List (List ℕ) → Option Job
items_job words = option_and_then (λ items. file_job (names_in items) (seeds_in items) (worker_counts_in items) (run_counts_in items))
    (items_of 0 words)

-- a number of molecules: 1 to 20 decimal digits, from 1 to 1,000,000
abbrev pub molecules_in : List ℕ → Option ℕ
molecules_in word = result_ok (count_in 1 1000000 word)

-- the number behind `--make`, where these are all words
abbrev pub made_of : List (List ℕ) → Option ℕ
made_of [] = None
made_of (word ∷ []) = None
made_of (word ∷ number ∷ []) = if bytes_eq word (codes "--make") then molecules_in number else None
made_of (word ∷ number ∷ third ∷ words) = None

-- a run of the text that is made for so many molecules, or else this
abbrev pub made_or : Option ℕ → Option Job → Option Job
made_or (Some n) job = Some (Make n)
made_or None job = job

-- `--make` and a number ask for a run of the text that is made, and words that spell items for what the items ask for. Every other
-- list of words is refused
abbrev pub job_of : List (List ℕ) → Option Job
job_of words = made_or (made_of words) (items_job words)

-- the file's name is one of so many words, where there is one
abbrev pub NamesWord : ℕ → Job → Type 0
NamesWord count (File index seed workers runs) = index < count
NamesWord count (Make n) = Unit {0}

-- there are 1 to 16 workers
pub record AreWorkers (workers : ℕ) : Type 0 where
  pub least : 1 ≤ workers
  pub most : workers ≤ 16

-- 1 to 16 workers run the file, where there is one
abbrev pub RunsByWorkers : Job → Type 0
RunsByWorkers (File index seed workers runs) = AreWorkers workers
RunsByWorkers (Make n) = Unit {0}

-- there are 1 to 1,000 runs
pub record AreRuns (runs : ℕ) : Type 0 where
  pub least : 1 ≤ runs
  pub most : runs ≤ 1000

-- the file is run once, or 1 to 1,000 times
abbrev pub MakesRuns : Job → Type 0
MakesRuns (File index seed workers runs) = IfSome runs AreRuns
MakesRuns (Make n) = Unit {0}

-- there are 1 to 1,000,000 molecules
pub record AreMolecules (n : ℕ) : Type 0 where
  pub least : 1 ≤ n
  pub most : n ≤ 1000000

-- a text is made for 1 to 1,000,000 molecules alone
abbrev pub MakesMolecules : Job → Type 0
MakesMolecules (File index seed workers runs) = Unit {0}
MakesMolecules (Make n) = AreMolecules n

-- the words name no file: they are refused, or ask for a text that is made
abbrev pub NamesNoFile : Option Job → Type 0
NamesNoFile None = Unit {0}
NamesNoFile (Some (File index seed workers runs)) = ⊥
NamesNoFile (Some (Make n)) = Unit {0}

-- how many words spell the item
abbrev pub item_len : Item → ℕ
item_len (Name index) = 1
item_len (Seed seed) = 2
item_len (Workers workers) = 2
item_len (Runs runs) = 2

-- a name is one of so many words
abbrev pub NamesWithin : ℕ → Item → Type 0
NamesWithin count (Name index) = index < count
NamesWithin count (Seed seed) = Unit {0}
NamesWithin count (Workers workers) = Unit {0}
NamesWithin count (Runs runs) = Unit {0}

-- workers are 1 to 16
abbrev pub WorkersWithin : Item → Type 0
WorkersWithin (Name index) = Unit {0}
WorkersWithin (Seed seed) = Unit {0}
WorkersWithin (Workers workers) = AreWorkers workers
WorkersWithin (Runs runs) = Unit {0}

-- runs are 1 to 1,000
abbrev pub RunsWithin : Item → Type 0
RunsWithin (Name index) = Unit {0}
RunsWithin (Seed seed) = Unit {0}
RunsWithin (Workers workers) = Unit {0}
RunsWithin (Runs runs) = AreRuns runs

-- the item is what the words spell first, from this index on
pub record StandsAt (item : Item) (index : ℕ) (words : List (List ℕ)) : Type 0 where
  pub fits : index + item_len item ≤ length words
  pub within : NamesWithin (length words) item
  pub workers : WorkersWithin item
  pub runs : RunsWithin item
  pub first : items_of index (drop index words)
      ≡ joined_items (Some item) (items_of (index + item_len item) (drop (index + item_len item) words))

-- the item was found, as the first of its kind
abbrev pub Finds : Item → Found → Found → Type 0
Finds (Name index) old new = (old.name ≡ None) × (new ≡ record old { name = Some index })
Finds (Seed seed) old new = (old.seed ≡ None) × (new ≡ record old { seed = Some seed })
Finds (Workers workers) old new = (old.workers ≡ None) × (new ≡ record old { workers = Some workers })
Finds (Runs runs) old new = (old.runs ≡ None) × (new ≡ record old { runs = Some runs })

-- one of its kind was found before
abbrev pub IsSecond : Item → Found → Type 0
IsSecond (Name index) found = IsSome found.name
IsSecond (Seed seed) found = IsSome found.seed
IsSecond (Workers workers) found = IsSome found.workers
IsSecond (Runs runs) found = IsSome found.runs
