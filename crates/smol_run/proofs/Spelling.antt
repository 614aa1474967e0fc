-- Words ask for a run exactly where they spell items with one name, and at most one seed, one number of workers and one number of runs.
use Rattle.std.proofs.Common.{◌≡◌, ◌+◌, ◌↔◌, inl, inr, ℕ, Bool, if◌then◌else◌, true, false, List, [], ◌∷◌, Option, Some, None, refl, sym, ◌∙◌, ap}
use Rattle.std.specs.Prelude.{codes, unwrap_or}
use Rattle.std.specs.Option.{option_and_then, option_map, option_to_list}
use Rattle.std.specs.Str.{bytes_eq}
use Rattle.std.proofs.lemmas.Bool.{cases_Bool}
use Rattle.std.proofs.lemmas.Option.{option_and_then_some}
use Rattle.std.proofs.lemmas.Slice.Eq.{bytes_eq-Decides}
use Rattle.smol_run.specs.declared.words.Item.{Item}
use Rattle.smol_run.specs.declared.words.Item.TheVariants.{Name, Seed, Workers, Runs}
use Rattle.smol_run.specs.declared.words.Job.{Job}
use Rattle.smol_run.specs.declared.words.Job.TheVariants.{File}
use Rattle.smol_run.specs.Words.{is_file_name, item_of_two, items_of, job_by, job_of, joined_items, names_in, only_entry, optional_entry, file_job, items_job, made_of, made_or, molecules_in, run_counts_in, runs_in, seed_in, seeds_in, worker_counts_in, workers_in}
use Rattle.smol_run.proofs.Items.{items_of-name, items_of-two}

-- the words spell the items in order, where the first word has this index: a name by itself, and a seed,
-- a number of workers or a number of runs behind its word
abbrev pub Spell : ℕ → List Item → List (List ℕ) → Type 0
Spell index [] words = words ≡ []
Spell index (Name place ∷ items) words =
    (word : List ℕ) × (others : List (List ℕ)) × (words ≡ word ∷ others) × (is_file_name word ≡ true) × (place ≡ index)
    × Spell (index + 1) items others
Spell index (Seed seed ∷ items) words =
    (number : List ℕ) × (others : List (List ℕ)) × (words ≡ codes "--seed" ∷ number ∷ others) × (seed_in number ≡ Some seed)
    × Spell (index + 2) items others
Spell index (Workers workers ∷ items) words =
    (number : List ℕ) × (others : List (List ℕ)) × (words ≡ codes "--workers" ∷ number ∷ others) × (workers_in number ≡ Some workers)
    × Spell (index + 2) items others
Spell index (Runs runs ∷ items) words =
    (number : List ℕ) × (others : List (List ℕ)) × (words ≡ codes "--runs" ∷ number ∷ others) × (runs_in number ≡ Some runs)
    × Spell (index + 2) items others

-- words that spell items have them
pub items_of-Spell : (index : ℕ) (items : List Item) (words : List (List ℕ)) → Spell index items words → items_of index words ≡ Some items
items_of-Spell index [] words spell = rw spell refl
items_of-Spell index (Name place ∷ items) words spell =
    rw (spell.2, items_of-name index spell.0 spell.1 spell.3, items_of-Spell (index + 1) items spell.1 spell.5, spell.4) refl
items_of-Spell index (Seed seed ∷ items) words spell =
    rw (spell.2, items_of-Spell (index + 2) items spell.1 spell.4, spell.3) refl
items_of-Spell index (Workers workers ∷ items) words spell =
    rw (spell.2, items_of-Spell (index + 2) items spell.1 spell.4, spell.3) refl
items_of-Spell index (Runs runs ∷ items) words spell =
    rw (spell.2, items_of-Spell (index + 2) items spell.1 spell.4, spell.3) refl

-- an item before others, where all are there, is the first of the list
joined_items_is : (first : Option Item) (rest : Option (List Item)) (items : List Item) → joined_items first rest ≡ Some items → (item : Item) × (others : List Item) × (first ≡ Some item) × (rest ≡ Some others) × (items ≡ item ∷ others)
joined_items_is None rest items is = absurd (cc)
joined_items_is (Some item) None items is = absurd (cc)
joined_items_is (Some item) (Some others) items is = (item, others, refl, refl, cc)

-- an item of two words is a seed, a number of workers or a number of runs behind its word
spell_item_by : (index : ℕ) (word number : List ℕ) (others : List (List ℕ)) (item : Item) (rest : List Item) (says_seed says_workers says_runs : Bool)
    (seed workers runs : Option ℕ) → bytes_eq word (codes "--seed") ≡ says_seed → bytes_eq word (codes "--workers") ≡ says_workers
    → bytes_eq word (codes "--runs") ≡ says_runs → seed_in number ≡ seed → workers_in number ≡ workers → runs_in number ≡ runs
    → (if says_seed then option_map Seed seed else (if says_workers then option_map Workers workers
    else (if says_runs then option_map Runs runs else None))) ≡ Some item
    → Spell (index + 2) rest others → Spell index (item ∷ rest) (word ∷ number ∷ others)
spell_item_by index word number others item rest true b c (Some value) workers runs as_seed as_workers as_runs seed_is workers_is runs_is is deeper =
    let same : item ≡ Seed value = cc in
    rw same (number, others, ap (λ first. first ∷ number ∷ others) ((bytes_eq-Decides word (codes "--seed")).0 as_seed), seed_is, deeper)
spell_item_by index word number others item rest true b c None workers runs as_seed as_workers as_runs seed_is workers_is runs_is is deeper = absurd (cc)
spell_item_by index word number others item rest false true c seed (Some value) runs as_seed as_workers as_runs seed_is workers_is runs_is is deeper =
    let same : item ≡ Workers value = cc in
    rw same (number, others, ap (λ first. first ∷ number ∷ others) ((bytes_eq-Decides word (codes "--workers")).0 as_workers), workers_is, deeper)
spell_item_by index word number others item rest false true c seed None runs as_seed as_workers as_runs seed_is workers_is runs_is is deeper = absurd (cc)
spell_item_by index word number others item rest false false true seed workers (Some value) as_seed as_workers as_runs seed_is workers_is runs_is is deeper =
    let same : item ≡ Runs value = cc in
    rw same (number, others, ap (λ first. first ∷ number ∷ others) ((bytes_eq-Decides word (codes "--runs")).0 as_runs), runs_is, deeper)
spell_item_by index word number others item rest false false true seed workers None as_seed as_workers as_runs seed_is workers_is runs_is is deeper = absurd (cc)
spell_item_by index word number others item rest false false false seed workers runs as_seed as_workers as_runs seed_is workers_is runs_is is deeper = absurd (cc)

-- a name and what is behind it
spell_name : (index : ℕ) (word : List ℕ) (others : List (List ℕ)) (items : List Item) → is_file_name word ≡ true → ((rest : List Item) → items_of (index + 1) others ≡ Some rest → Spell (index + 1) rest others) → items_of index (word ∷ others) ≡ Some items → Spell index items (word ∷ others)
spell_name index word others items named deeper is =
    let parts = joined_items_is (Some (Name index)) (items_of (index + 1) others) items (sym (items_of-name index word others named) ∙ is) in
    let whole : items ≡ Name index ∷ parts.1 = cc (parts.2, parts.4) in
    rw whole (word, others, refl, named, refl, deeper parts.1 parts.3)

-- two words that are an item and what is behind both
spell_two : (index : ℕ) (word behind : List ℕ) (others : List (List ℕ)) (items : List Item) → is_file_name word ≡ false → ((rest : List Item) → items_of (index + 2) others ≡ Some rest → Spell (index + 2) rest others) → items_of index (word ∷ behind ∷ others) ≡ Some items → Spell index items (word ∷ behind ∷ others)
spell_two index word behind others items not deeper is =
    let parts = joined_items_is (item_of_two word behind) (items_of (index + 2) others) items (sym (items_of-two index word behind others not) ∙ is) in
    rw parts.4
    (spell_item_by index word behind others parts.0 parts.1 (bytes_eq word (codes "--seed")) (bytes_eq word (codes "--workers"))
    (bytes_eq word (codes "--runs")) (seed_in behind) (workers_in behind) (runs_in behind) refl refl refl refl refl refl parts.2 (deeper parts.1 parts.3))

-- words that have items spell them
pub Spell-items_of : (index : ℕ) (words : List (List ℕ)) (items : List Item) → items_of index words ≡ Some items → Spell index items words
Spell-items_of index [] items is =
    let none : items ≡ [] = cc in
    rw none refl
Spell-items_of index (word ∷ []) items is =
    elim (cases_Bool (is_file_name word)) [
      | inl named ↦ spell_name index word [] items named (λ rest. Spell-items_of (index + 1) [] rest) is
      | inr not ↦ let none : items_of index (word ∷ []) ≡ None = rw not refl in absurd (cc)
    ]
Spell-items_of index (word ∷ behind ∷ words) items is =
    elim (cases_Bool (is_file_name word)) [
      | inl named ↦ spell_name index word (behind ∷ words) items named (λ rest. Spell-items_of (index + 1) (behind ∷ words) rest) is
      | inr not ↦ spell_two index word behind words items not (λ rest. Spell-items_of (index + 2) words rest) is
    ]

-- the words spell items of which this is the only name, this the only seed or none is one, this the only number of runs or none is
-- one, and these are the only workers, or no item says how many and there is one
pub record AskForRun (words : List (List ℕ)) (index : ℕ) (seed : Option ℕ) (workers : ℕ) (runs : Option ℕ) : Type 0 where
  pub items : List Item
  pub spell : Spell 0 items words
  pub one_name : names_in items ≡ index ∷ []
  pub seed_is : seeds_in items ≡ option_to_list seed
  pub given : Option ℕ
  pub given_is : worker_counts_in items ≡ option_to_list given
  pub workers_are : workers ≡ unwrap_or given 1
  pub runs_are : run_counts_in items ≡ option_to_list runs

-- the list with this only entry
only_entry_is : (entries : List ℕ) (entry : ℕ) → only_entry entries ≡ Some entry → entries ≡ entry ∷ []
only_entry_is [] entry is = absurd (cc)
only_entry_is (first ∷ []) entry is = cc
only_entry_is (first ∷ second ∷ entries) entry is = absurd (cc)

-- the list with this entry or none
optional_entry_is : (entries : List ℕ) (entry : Option ℕ) → optional_entry entries ≡ Some entry → entries ≡ option_to_list entry
optional_entry_is [] entry is =
    let none : entry ≡ None = cc in
    rw none refl
optional_entry_is (first ∷ []) entry is =
    let some : entry ≡ Some first = cc in
    rw some refl
optional_entry_is (first ∷ second ∷ entries) entry is = absurd (cc)

-- a job has a name, may have a seed, has the workers that are given or one, and may have a number of runs
job_has : (name : Option ℕ) (seeds worker_counts run_counts : Option (Option ℕ)) (index : ℕ) (seed : Option ℕ) (workers : ℕ) (runs : Option ℕ)
    → option_and_then (λ index. option_and_then (λ seed. option_and_then (λ given. option_map (job_by index seed given) run_counts) worker_counts) seeds) name
    ≡ Some (File index seed workers runs)
    → (name ≡ Some index) × (seeds ≡ Some seed) × (given : Option ℕ) × (worker_counts ≡ Some given) × (workers ≡ unwrap_or given 1)
    × (run_counts ≡ Some runs)
job_has None seeds worker_counts run_counts index seed workers runs is = absurd (cc)
job_has (Some name) None worker_counts run_counts index seed workers runs is = absurd (cc)
job_has (Some name) (Some chosen) None run_counts index seed workers runs is = absurd (cc)
job_has (Some name) (Some chosen) (Some given) None index seed workers runs is = absurd (cc)
job_has (Some name) (Some chosen) (Some given) (Some count) index seed workers runs is = (cc, cc, given, refl, cc, cc)

-- a list of one entry, or of none, has that entry or none
optional_entry-only : (entry : Option ℕ) → optional_entry (option_to_list entry) ≡ Some entry
optional_entry-only None = refl
optional_entry-only (Some entry) = refl

-- the one name, at most one seed, at most one number of workers and at most one number of runs make the job of these
file_job-only : (index : ℕ) (seed given runs : Option ℕ)
    → file_job (index ∷ []) (option_to_list seed) (option_to_list given) (option_to_list runs) ≡ Some (File index seed (unwrap_or given 1) runs)
file_job-only index seed given runs = rw (optional_entry-only seed, optional_entry-only given, optional_entry-only runs) refl

-- items ask for a run exactly where words spell one name, and at most one seed, one number of workers and one number of runs
items_job-AskForRun : (words : List (List ℕ)) (index : ℕ) (seed : Option ℕ) (workers : ℕ) (runs : Option ℕ)
    → (items_job words ≡ Some (File index seed workers runs)) ↔ AskForRun words index seed workers runs
items_job-AskForRun words index seed workers runs = (
  (λ asks. option_and_then_some (λ items. file_job (names_in items) (seeds_in items) (worker_counts_in items) (run_counts_in items)) (items_of 0 words)
      (File index seed workers runs) asks
      (λ items have is.
      let parts = job_has (only_entry (names_in items)) (optional_entry (seeds_in items)) (optional_entry (worker_counts_in items))
      (optional_entry (run_counts_in items)) index seed workers runs is in
      record {
        items = items;
        spell = Spell-items_of 0 words items have;
        one_name = only_entry_is (names_in items) index parts.0;
        seed_is = optional_entry_is (seeds_in items) seed parts.1;
        given = parts.2;
        given_is = optional_entry_is (worker_counts_in items) parts.2 parts.3;
        workers_are = parts.4;
        runs_are = optional_entry_is (run_counts_in items) runs parts.5;
      })),
  (λ asks. rw (items_of-Spell 0 asks.items words asks.spell, asks.one_name, asks.seed_is, asks.given_is, asks.workers_are, asks.runs_are)
      (file_job-only index seed asks.given runs)),
)

-- the words are `--make` and a number of molecules
abbrev pub AskForMade : List (List ℕ) → ℕ → Type 0
AskForMade words n = (number : List ℕ) × (words ≡ codes "--make" ∷ number ∷ []) × (molecules_in number ≡ Some n)

-- two words are `--make` and a number, where they have the number
made_of_by : (word number : List ℕ) (n : ℕ) (says : Bool) → bytes_eq word (codes "--make") ≡ says
    → (if says then molecules_in number else None) ≡ Some n → AskForMade (word ∷ number ∷ []) n
made_of_by word number n true same is = (number, ap (λ first. first ∷ number ∷ []) ((bytes_eq-Decides word (codes "--make")).0 same), is)
made_of_by word number n false same is = absurd (cc)

made_of-AskForMade : (words : List (List ℕ)) (n : ℕ) → made_of words ≡ Some n → AskForMade words n
made_of-AskForMade [] n is = absurd (cc)
made_of-AskForMade (word ∷ []) n is = absurd (cc)
made_of-AskForMade (word ∷ number ∷ []) n is = made_of_by word number n (bytes_eq word (codes "--make")) refl is
made_of-AskForMade (word ∷ number ∷ third ∷ words) n is = absurd (cc)

-- `--make` begins no items
no_items : (words : List (List ℕ)) (n : ℕ) → AskForMade words n → items_job words ≡ None
no_items words n asks = rw asks.1 refl

-- what is made comes first, and words that ask for it ask for nothing else
made_or-is : (made : Option ℕ) (items : Option Job) (index : ℕ) (seed : Option ℕ) (workers : ℕ) (runs : Option ℕ)
    → ((n : ℕ) → made ≡ Some n → items ≡ None) → (made_or made items ≡ Some (File index seed workers runs)) ↔ (items ≡ Some (File index seed workers runs))
made_or-is None items index seed workers runs apart = (λ is. is, λ is. is)
made_or-is (Some n) items index seed workers runs apart =
    (λ is. absurd (cc), λ is. let none : items ≡ None = apart n refl in absurd (cc))

-- words ask for a run of a file exactly where they spell one name, and at most one seed, one number of workers and one number of runs
pub job_of-AskForRun : (words : List (List ℕ)) (index : ℕ) (seed : Option ℕ) (workers : ℕ) (runs : Option ℕ)
    → (job_of words ≡ Some (File index seed workers runs)) ↔ AskForRun words index seed workers runs
job_of-AskForRun words index seed workers runs =
    let items = items_job-AskForRun words index seed workers runs in
    let made = made_or-is (made_of words) (items_job words) index seed workers runs (λ n is. no_items words n (made_of-AskForMade words n is)) in
    (λ is. items.0 (made.0 is), λ asks. made.1 (items.1 asks))
