-- Who reacts in a step, said of one molecule and of one pair at a time.
use Rattle.std.specs.Prelude.{◌≡◌, ℕ, ◌+◌, ◌*◌, ◌<◌, ◌≤◌, ◌⊎◌, Bool, true, false, List, [], ◌∷◌, length, All, Some, slice_get, sum_by, take, unsigned_abs}
use Rattle.smol_num.specs.declared.quantities.Micro.{Micro}
use Rattle.smol_geom.specs.Place.{square_of_distance}
use Rattle.smol_plan.specs.declared.pair.Pair.{Pair}
use Rattle.smol_types.specs.declared.draft.Draft.{Draft}
use Rattle.smol_types.specs.declared.reaction.Reaction.{Reaction}
use Rattle.smol_types.specs.declared.state.Mol.{Mol}
use Rattle.smol_types.specs.Reactions.{share_of}
use Rattle.smol_streams.specs.Chance.{first_order_word, pair_word}
use Rattle.smol_meaning.specs.Encounters.{Encounter, pair_of, square_between}
use Rattle.smol_meaning.specs.Sight.{are_hidden}

-- how many of the random words are those of the first reactions, so many of them, for single molecules of a species
abbrev pub words_of_first : Draft → ℕ → ℕ → ℕ
words_of_first draft species count = sum_by (share_of species) (take count draft.reactions)

-- the molecule draws one of the words that reaction r has in step k: the reactions before r have the words below them
pub record DrawsAlone (draft : Draft) (seed k : ℕ) (mol : Mol) (r : ℕ) : Type 0 where
  pub there : r < length draft.reactions
  pub from : words_of_first draft mol.species r ≤ first_order_word seed mol.serial k
  pub below : first_order_word seed mol.serial k < words_of_first draft mol.species (r + 1)

-- the molecule draws a word of no reaction, so that it may still meet another
abbrev pub DrawsNone : Draft → ℕ → ℕ → Mol → Type 0
DrawsNone draft seed k mol = (r : ℕ) → DrawsAlone draft seed k mol r → ⊥

-- the reactants are one of each of two species, in either order
abbrev pub AreOfTwo : ℕ → ℕ → List ℕ → Type 0
AreOfTwo a b reactants = (reactants ≡ a ∷ b ∷ []) ⊎ (reactants ≡ b ∷ a ∷ [])

-- two molecules of the list, the first at the lower rank, neither of which reacts alone, may react by a reaction in step k: it is one
-- of their species and has a radius, they are no farther apart than that and not hidden from each other, and their word is below the
-- reaction's threshold. Distances are in ticks, of which a micro has two
pub record MayMeet (draft : Draft) (seed k : ℕ) (mols : List Mol) (e : Encounter) : Type 0 where
  pub first : slice_get mols e.rank_a ≡ Some e.a
  pub second : slice_get mols e.rank_b ≡ Some e.b
  pub apart : e.rank_a < e.rank_b
  pub first_free : DrawsNone draft seed k e.a
  pub second_free : DrawsNone draft seed k e.b
  pub reaction : Reaction
  pub listed : slice_get draft.reactions e.reaction ≡ Some reaction
  pub species : AreOfTwo e.a.species e.b.species reaction.reactants
  pub radius : Micro
  pub given : reaction.radius ≡ Some radius
  pub near : square_of_distance e.a.place e.b.place ≤ 4 * (unsigned_abs radius.0 * unsigned_abs radius.0)
  pub seen : are_hidden draft e.a e.b ≡ false
  pub word : pair_word seed e.rank_a e.rank_b k e.reaction < reaction.threshold.0

-- the first pair comes before the second: by the lower serial, then by the higher one, then by the reaction
abbrev pub ComesBefore : Pair → Pair → Type 0
ComesBefore p q = (p.a < q.a) ⊎ ((p.a ≡ q.a) × ((p.b < q.b) ⊎ ((p.b ≡ q.b) × (p.reaction < q.reaction))))

-- each pair comes before all that follow it
abbrev pub AreInOrder : List Pair → Type 0
AreInOrder [] = Unit {0}
AreInOrder (pair ∷ pairs) = All (ComesBefore pair) pairs × AreInOrder pairs

-- the first encounter comes before the second: by the serials and the reaction, and where the nearest come first by the distance
-- before these
abbrev pub ComesFirst : Bool → Encounter → Encounter → Type 0
ComesFirst false e f = ComesBefore (pair_of e) (pair_of f)
ComesFirst true e f =
    (square_between e < square_between f) ⊎ ((square_between e ≡ square_between f) × ComesBefore (pair_of e) (pair_of f))

-- each comes before all that follow it, where this says what comes before what
abbrev pub AreOrderedBy : {X : Type 0} → (X → X → Type 0) → List X → Type 0
AreOrderedBy Before [] = Unit {0}
AreOrderedBy Before (x ∷ xs) = All (Before x) xs × AreOrderedBy Before xs
