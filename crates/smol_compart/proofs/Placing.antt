-- Molecules that are placed one after the other.
use Rattle.std.proofs.Common.{◌≡◌, ℕ, suc, ◌+◌, ◌-◌, ◌<◌, List, [], ◌∷◌, ◌++◌, Result, Ok, Err, refl, sym, ap, ◌∙◌, arith, append_assoc, length, get_or, take, drop, sum_by, drop-cons, add-one}
use Rattle.std.proofs.lemmas.Grind.{common_steps}
use Rattle.smol_types.specs.declared.draft.Draft.{Draft}
use Rattle.smol_types.specs.declared.placing.Placing.{Placing}
use Rattle.smol_types.specs.declared.state.Mol.{Mol}
use Rattle.smol_types.specs.Placings.{placed_by}
use Rattle.smol_meaning.specs.Placement.{NoPlace, placed_from, placed_behind, placed_many, placed_one, placed_together}

-- what is placed behind molecules, where it begins with one more
together-behind : (front : List Mol) (mol : Mol) (rest : Result (List Mol) NoPlace)
    → placed_together (Ok front) (placed_behind (Ok mol) rest) ≡ placed_together (Ok (front ++ mol ∷ [])) rest
together-behind front mol (Ok more) = ap (λ (mols : List Mol). Ok mols) (sym (append_assoc front (mol ∷ []) more))
together-behind front mol (Err fault) = refl

-- what is placed behind molecules, where it begins with some more
pub together-together : (front back : List Mol) (rest : Result (List Mol) NoPlace)
    → placed_together (Ok front) (placed_together (Ok back) rest) ≡ placed_together (Ok (front ++ back)) rest
together-together front back (Ok more) = ap (λ (mols : List Mol). Ok mols) (sym (append_assoc front back more))
together-together front back (Err fault) = refl

module _ (draft : Draft) (seed : ℕ) (placing : Placing) (serial : ℕ) where
  -- what is left of a statement, with its next molecule
  pub many_next : (i n : ℕ) → i < n
      → placed_many draft seed placing (serial + i) (n - i)
      ≡ placed_behind (placed_one draft seed placing (serial + i)) (placed_many draft seed placing (serial + (i + 1)) (n - (i + 1)))
  many_next i n more =
      let left : n - i ≡ suc (n - (i + 1)) = omega arith in
      let next : serial + i + 1 ≡ serial + (i + 1) = omega arith in
      ap (λ (k : ℕ). placed_many draft seed placing (serial + i) k) left
      ∙ ap (λ (s : ℕ). placed_behind (placed_one draft seed placing (serial + i)) (placed_many draft seed placing s (n - (i + 1)))) next

  -- where its next molecule has a place, this stands behind the earlier ones
  pub many_more : (i n : ℕ) (so_far : List Mol) (mol : Mol) → i < n → placed_one draft seed placing (serial + i) ≡ Ok mol
      → placed_together (Ok (so_far ++ mol ∷ [])) (placed_many draft seed placing (serial + (i + 1)) (n - (i + 1)))
      ≡ placed_together (Ok so_far) (placed_many draft seed placing (serial + i) (n - i))
  many_more i n so_far mol more here =
      let rest = placed_many draft seed placing (serial + (i + 1)) (n - (i + 1)) in
      sym (together-behind so_far mol rest)
      ∙ ap (λ (one : Result Mol NoPlace). placed_together (Ok so_far) (placed_behind one rest)) (sym here)
      ∙ ap (λ (all : Result (List Mol) NoPlace). placed_together (Ok so_far) all) (sym (many_next i n more))

  -- where it has none, the statement has none
  pub many_fault : (i n : ℕ) (fault : NoPlace) → i < n → placed_one draft seed placing (serial + i) ≡ Err fault
      → placed_many draft seed placing (serial + i) (n - i) ≡ Err fault
  many_fault i n fault more here =
      many_next i n more
      ∙ ap (λ (one : Result Mol NoPlace). placed_behind one (placed_many draft seed placing (serial + (i + 1)) (n - (i + 1)))) here

-- what a statement places is known where molecules with it are
behind_ok : (so_far mols : List Mol) (many rest : Result (List Mol) NoPlace) → placed_together (Ok so_far) many ≡ Ok mols
    → placed_together (Ok mols) rest ≡ placed_together (Ok so_far) (placed_together many rest)
behind_ok so_far mols (Err fault) rest e = absurd (cc)
behind_ok so_far mols (Ok back) rest e =
    let whole : mols ≡ so_far ++ back = cc in
    ap (λ (front : List Mol). placed_together (Ok front) rest) whole ∙ sym (together-together so_far back rest)

-- the statements that are left, with the next one
pub from_more : (draft : Draft) (seed next i : ℕ) (placings : List Placing) (d : Placing) (so_far mols : List Mol) → i < length placings
    → placed_together (Ok so_far) (placed_many draft seed (get_or placings i d) next (placed_by (get_or placings i d))) ≡ Ok mols
    → placed_together (Ok mols) (placed_from draft seed (next + placed_by (get_or placings i d)) (drop (i + 1) placings))
    ≡ placed_together (Ok so_far) (placed_from draft seed next (drop i placings))
from_more draft seed next i placings d so_far mols more here =
    let placing = get_or placings i d in
    let split : drop i placings ≡ placing ∷ drop (i + 1) placings = rw (add-one, drop-cons placings i d) refl in
    behind_ok so_far mols (placed_many draft seed placing next (placed_by placing)) (placed_from draft seed (next + placed_by placing) (drop (i + 1) placings)) here
    ∙ ap (λ (left : List Placing). placed_together (Ok so_far) (placed_from draft seed next left)) (sym split)

pub placed_more : (placings : List Placing) (i : ℕ) (d : Placing) → i < length placings
    → sum_by placed_by (take i placings) + placed_by (get_or placings i d) ≡ sum_by placed_by (take (i + 1) placings)
placed_more placings i d more = grind (arith, common_steps)
