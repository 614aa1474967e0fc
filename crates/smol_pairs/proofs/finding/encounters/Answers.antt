use Rattle.std.proofs.Common.{◌≡◌, ℕ, ◌<◌, Bool, List, length, map, All, sym, ap, subst, ◌∙◌, arith}
use Rattle.std.specs.Prelude.{Contains}
use Rattle.std.specs.List.Sorted.{IsStrictlyIncreasing}
use Rattle.std.proofs.lemmas.List.Elements.{All-weaker, All-contains}
use Rattle.smol_types.specs.declared.draft.Draft.{Draft}
use Rattle.smol_types.specs.declared.state.Mol.{Mol}
use Rattle.smol_types.specs.Sound.{IsSound}
use Rattle.smol_meaning.specs.Encounters.{Encounter, encounters_of}
use Rattle.smol_meaning.specs.Events.{is_free}
use Rattle.smol_pairs.specs.declared.seeker.Seeker.{Seeker}
use Rattle.smol_pairs.specs.Encounters.{AreRanksIn, ranks_of}
use Rattle.smol_pairs.specs.Keys.{IsOfKey}
use Rattle.smol_pairs.specs.Listing.{key_in}
use Rattle.smol_pairs.specs.Met.{Has, two_at}
use Rattle.smol_pairs.specs.Reach.{longest_of, reaches_of}
use Rattle.smol_pairs.specs.Seekers.{AreCovered, IsSeeker, nobody, rank_of}
use Rattle.smol_pairs.proofs.AllMet.{all_have}
use Rattle.smol_pairs.proofs.KeysFound.{all_found, all_of_key}
use Rattle.smol_pairs.proofs.Meetings.{all_ranks, no_encounters}
use Rattle.smol_pairs.proofs.finding.encounters.Goals as goal

pub seekers_of-requires-clause-species : goal.seekers_of-requires-clause-species
seekers_of-requires-clause-species g c =
    subst (λ (draft : Draft). All (λ (mol : Mol). mol.species < length draft.species) c.args.mols.now) (sym c.requires.reaches) c.requires.moved.species

pub keys_among-requires-clause-seekers : goal.keys_among-requires-clause-seekers
keys_among-requires-clause-seekers g c κs out =
    let mols = c.args.mols.now in
    subst (All (IsSeeker c.args.panels.now c.args.seed c.args.k mols)) (sym c.deref.ensures.value)
    (subst (λ (draft : Draft). c.args.free.now ≡ map (is_free draft c.args.seed c.args.k) mols → All (IsSeeker draft c.args.seed c.args.k mols) c.in_ok-seekers.seekers.items)
    c.requires.reaches (c.in_ok-seekers.ensures.seekers c.args.seed c.args.k) c.requires.free)

-- each of what was found has ranks of the list
pub in_order-requires-clause-ranks : goal.in_order-requires-clause-ranks
in_order-requires-clause-ranks g c =
    let mols = c.args.mols.now in
    let all = map ranks_of (encounters_of c.args.panels.now c.args.seed c.args.k mols) in
    All-weaker (Contains all) (AreRanksIn mols)
    (λ e has. All-contains (AreRanksIn mols) all e (all_ranks c.args.panels.now c.args.seed c.args.k mols) has)
    c.in_ok-keys.keys c.in_ok-keys.ensures.sound

pub in_order-requires-clause-room : goal.in_order-requires-clause-room
in_order-requires-clause-room g c =
    let draft = c.args.panels.now in
    let mols = c.args.mols.now in
    let all = map ranks_of (encounters_of draft c.args.seed c.args.k mols) in
    let sound : IsSound draft = subst IsSound c.requires.reaches c.longest.ensures.sound in
    All-weaker (Contains all) IsOfKey
    (λ e has. All-contains IsOfKey all e
    (all_of_key draft c.args.seed c.args.k nobody mols (omega (arith, c.requires.moved.count)) (omega (arith, sound.reaction_count))) has)
    c.in_ok-keys.keys c.in_ok-keys.ensures.sound

pub returns-in_default-clause-encounters : goal.returns-in_default-clause-encounters
returns-in_default-clause-encounters g c =
    let draft = c.args.panels.now in
    let none = ap (λ (draft : Draft). longest_of (reaches_of draft)) (sym c.requires.reaches) ∙ sym c.longest.ensures.value ∙ c.in_default.is in
    c.new.ensures.items ∙ sym (ap (map ranks_of) (no_encounters draft c.args.seed c.args.k c.args.mols.now c.requires.moved.species none))

pub returns-clause-encounters : goal.returns-clause-encounters
returns-clause-encounters g c =
    let draft = c.args.panels.now in
    let seed = c.args.seed in
    let k = c.args.k in
    let mols = c.args.mols.now in
    let seekers = c.in_ok-seekers.seekers.items in
    let keys = c.in_ok-keys.keys in
    let found = c.in_ok-found.found.items in
    let all = map ranks_of (encounters_of draft seed k mols) in
    let same = c.in_ok-found.ensures.same in
    let sound : IsSound draft = subst IsSound c.requires.reaches c.longest.ensures.sound in
    let covered = subst (λ (draft : Draft). c.args.free.now ≡ map (is_free draft seed k) mols → AreCovered draft seed k mols (length mols) seekers)
    c.requires.reaches (c.in_ok-seekers.ensures.covered seed k) c.requires.free in
    let has = subst (λ (xs : List Seeker). (i j : ℕ) → i < j → Contains (map rank_of xs) i → Contains (map rank_of xs) j → Has draft seed k mols keys i j)
    c.deref.ensures.value c.in_ok-keys.ensures.has in
    all_found draft seed k nobody mols found (omega (arith, c.requires.moved.count)) (omega (arith, sound.reaction_count))
    (subst (λ (nearest : Bool). IsStrictlyIncreasing (map (key_in nearest mols) found))
    (c.nearest.ensures.value ∙ ap (λ (draft : Draft). draft.nearest) c.config.ensures.value) c.in_ok-found.ensures.rising)
    (All-weaker (Contains keys) (Contains all) (λ e is. All-contains (Contains all) keys e c.in_ok-keys.ensures.sound is) found same.old)
    (λ i j less within free_i free_j.
    All-weaker (λ (e : Encounter). Contains keys (ranks_of e)) (λ (e : Encounter). Contains found (ranks_of e))
    (λ e is. All-contains (Contains found) keys (ranks_of e) same.kept is) (two_at draft seed k mols i j)
    (all_have draft seed k mols seekers keys covered has i j less within free_i free_j))

pub returns-clause-ranks : goal.returns-clause-ranks
returns-clause-ranks g c =
    subst (All (AreRanksIn c.args.mols.now)) (sym (returns-clause-encounters g c)) (all_ranks c.args.panels.now c.args.seed c.args.k c.args.mols.now)
