-- A search goes on.
use Rattle.std.proofs.Common.{◌≡◌, ℕ, ◌≤◌, ◌+◌, ◌<◌, ◌++◌, List, ⊎_elim, arith}
use Rattle.std.specs.Prelude.{Contains}
use Rattle.std.proofs.lemmas.Bool.{cases_lt}
use Rattle.std.proofs.lemmas.List.Elements.{All-append}
use Rattle.smol_pairs.specs.declared.encounter.Encounter.{Encounter as Ranks}
use Rattle.smol_pairs.specs.declared.search.Search.{Search}
use Rattle.smol_pairs.specs.Searching.{AreFound, HaveMetAt, IsGrownIn, all_of}
use Rattle.smol_pairs.specs.Seekers.{seeker_at}
use Rattle.smol_pairs.proofs.MetLemmas.{grown_append, grown_behind, grown_more, grown_same, met_more}

module _ (search : Search) where
  pub grown_first : (found : List Ranks) → IsGrownIn search found found
  grown_first found = grown_same (all_of search) found

  pub grown_then : (one two three : List Ranks) → IsGrownIn search one two → IsGrownIn search two three → IsGrownIn search one three
  grown_then one two three first second = grown_more (all_of search) one two three first second

  -- those that have met stay so
  pub met_still : (old new : List Ranks) (p q : ℕ) → IsGrownIn search old new → HaveMetAt search old p q → HaveMetAt search new p q
  met_still old new p q grown met =
      met_more search.panels.now search.seed search.k search.mols.now old new (seeker_at search.seekers.now p).rank (seeker_at search.seekers.now q).rank grown met

  -- what is found of two parts is found of both together
  pub found_both : (front back : List Ranks) (start middle end : ℕ) → AreFound search start middle front → AreFound search middle end back
      → AreFound search start end (front ++ back)
  found_both front back start middle end low high = record {
    sound = All-append (Contains (all_of search)) front back low.sound high.sound;
    met = λ p q from below behind inside. ⊎_elim
        (λ (less : p < middle). met_still front (front ++ back) p q (grown_append (all_of search) front back high.sound) (low.met p q from less behind inside))
        (λ (more : middle ≤ p). met_still back (front ++ back) p q (grown_behind (all_of search) back front low.sound) (high.met p q more below behind inside))
        (cases_lt p middle);
  }

  -- a number so far, or the next one
  pub so_far_or_next : (P : Type 0) (n next : ℕ) → n < next + 1 → (n < next → P) → (n ≡ next → P) → P
  so_far_or_next P n next below before here =
      ⊎_elim (λ (less : n < next). before less) (λ (more : next ≤ n). here (omega (arith, more, below))) (cases_lt n next)
