-- What many runs give is what becomes of them.
use Rattle.std.proofs.Common.{◌≡◌, ℕ, suc, ◌+◌, List, [], ◌∷◌, All, refl, ap, ◌∙◌, length}
use Rattle.std.proofs.lemmas.List.Elements.{All-cons, All-nil}
use Rattle.smol_types.specs.declared.draft.Draft.{Draft}
use Rattle.smol_sweep.specs.declared.outcome.Outcome.{Outcome as End}
use Rattle.smol_sweep.specs.Seeds.{AreGiven, seed_at}
use Rattle.smol_sweep.specs.Table.{AreAlike, IsAlike, table_of}
use Rattle.smol_loop.specs.EndOfRun.{end_of_run}
use Rattle.smol_run.specs.Outcome.{ends_from}

-- what a run with a seed gives
abbrev pub Gives : Draft → ℕ → End → Type 0
Gives draft seed end = (end ≡ end_of_run draft seed) × IsAlike (length draft.species) end

-- an end and those behind it
next_end : (draft : Draft) (first number left : ℕ) (end : End) (ends : List End) → end ≡ end_of_run draft (seed_at first number)
    → ends ≡ ends_from draft first (number + 1) left → end ∷ ends ≡ ends_from draft first number (suc left)
next_end draft first number left end ends is are =
    ap (λ one. one ∷ ends) is ∙ ap (λ more. end_of_run draft (seed_at first number) ∷ more) are

pub ends_are : (draft : Draft) (first number : ℕ) (ends : List End) → AreGiven (Gives draft) first number ends
    → ends ≡ ends_from draft first number (length ends)
ends_are draft first number [] given = refl
ends_are draft first number (end ∷ ends) given =
    next_end draft first number (length ends) end ends given.0.0 (ends_are draft first (number + 1) ends given.1)

all_alike : (draft : Draft) (first number : ℕ) (ends : List End) → AreGiven (Gives draft) first number ends → All (IsAlike (length draft.species)) ends
all_alike draft first number [] given = All-nil (IsAlike (length draft.species))
all_alike draft first number (end ∷ ends) given =
    All-cons (IsAlike (length draft.species)) end ends given.0.1 (all_alike draft first (number + 1) ends given.1)

-- the table of what so many runs give is that of what becomes of them
pub table_is : (draft : Draft) (first count : ℕ) (ends : List End) (text : List ℕ) → length ends ≡ count → AreGiven (Gives draft) first 0 ends
    → text ≡ table_of first ends → text ≡ table_of first (ends_from draft first 0 count)
table_is draft first count ends text so_many given is =
    is ∙ ap (table_of first) (ends_are draft first 0 ends given ∙ ap (ends_from draft first 0) so_many)

-- all of them tell of the species of the configuration
pub ends_alike : (draft : Draft) (first : ℕ) (ends : List End) → AreGiven (Gives draft) first 0 ends → AreAlike ends
ends_alike draft first ends given = record { species = length draft.species; alike = all_alike draft first 0 ends given }
