-- Encounters are listed by the lower serial, then by the higher one, then by the reaction.
use Rattle.std.proofs.Common.{◌≡◌, ℕ, ◌+◌, ◌≤◌, Bool, true, false, cond, inl, inr, List, [], ◌∷◌, ◌++◌, map, All, refl, sym, subst, ◌∙◌, arith}
use Rattle.std.proofs.lemmas.List.Elements.{All-append, All-cons, All-head, All-map, All-nil, All-tail, All-weaker}
use Rattle.smol_types.specs.declared.draft.Draft.{Draft}
use Rattle.smol_types.specs.declared.reaction.Reaction.{Reaction}
use Rattle.smol_types.specs.declared.state.Mol.{Mol}
use Rattle.smol_types.specs.State.{Ascend}
use Rattle.smol_meaning.specs.Encounters.{Encounter, candidates_of, encounters_from, encounters_of, encounters_of_two, encounters_with, listed, may_react, pair_of}
use Rattle.smol_meaning.specs.Events.{is_free}
use Rattle.smol_meaning.specs.Who.{AreInOrder, AreOrderedBy, ComesBefore, ComesFirst}
use Rattle.smol_meaning.proofs.Listing.{nearest_order}
use Rattle.smol_meaning.proofs.Meeting.{encounter}

-- an encounter comes before another
abbrev Before : Encounter → Encounter → Type 0
Before e f = ComesBefore (pair_of e) (pair_of f)

abbrev InOrder : List Encounter → Type 0
InOrder es = AreOrderedBy Before es

joined : (xs ys : List Encounter) → InOrder xs → InOrder ys → All (λ e. All (Before e) ys) xs → InOrder (xs ++ ys)
joined [] ys front back each = back
joined (x ∷ xs) ys front back each = (
  All-append (Before x) xs ys front.0 (All-head (λ e. All (Before e) ys) x xs each),
  joined xs ys front.1 back (All-tail (λ e. All (Before e) ys) x xs each),
)

-- of those that are taken the same holds as of all
taken_order : (here : Bool) (es : List Encounter) → InOrder es → InOrder (cond here es [])
taken_order true es order = order
taken_order false es order = tt

taken_all : (P : Encounter → Type 0) (here : Bool) (es : List Encounter) → All P es → All P (cond here es [])
taken_all P true es all = all
taken_all P false es all = All-nil P

-- encounters of one molecule with another, by reactions from this number on
record IsOf (a b : Mol) (number : ℕ) (e : Encounter) : Type 0 where
  first : e.a.serial ≡ a.serial
  second : e.b.serial ≡ b.serial
  from : number ≤ e.reaction

-- and of one molecule with those from this serial on
record IsWith (a : Mol) (low : ℕ) (e : Encounter) : Type 0 where
  first : e.a.serial ≡ a.serial
  second : low ≤ e.b.serial

-- and of molecules from this serial on
abbrev IsFrom : ℕ → Encounter → Type 0
IsFrom low e = low ≤ e.a.serial

module _ (draft : Draft) (seed k : ℕ) where
  two_of : (rank_a : ℕ) (a : Mol) (rank_b : ℕ) (b : Mol) (number : ℕ) (reactions : List Reaction)
      → All (IsOf a b number) (encounters_of_two draft seed k rank_a a rank_b b number reactions)
  two_of rank_a a rank_b b number [] = All-nil (IsOf a b number)
  two_of rank_a a rank_b b number (reaction ∷ reactions) =
      go (may_react draft seed k reaction (encounter rank_a a rank_b b number))
      (All-weaker (IsOf a b (number + 1)) (IsOf a b number)
      (λ e is. record { first = is.first; second = is.second; from = let f = is.from in omega (arith, f) }) _
      (two_of rank_a a rank_b b (number + 1) reactions))
    where
      go : (here : Bool) → All (IsOf a b number) (encounters_of_two draft seed k rank_a a rank_b b (number + 1) reactions)
          → All (IsOf a b number) (cond here
          (encounter rank_a a rank_b b number ∷ encounters_of_two draft seed k rank_a a rank_b b (number + 1) reactions)
          (encounters_of_two draft seed k rank_a a rank_b b (number + 1) reactions))
      go true rest = All-cons (IsOf a b number) _ _ (record { first = refl; second = refl; from = omega arith }) rest
      go false rest = rest

  two_order : (rank_a : ℕ) (a : Mol) (rank_b : ℕ) (b : Mol) (number : ℕ) (reactions : List Reaction)
      → InOrder (encounters_of_two draft seed k rank_a a rank_b b number reactions)
  two_order rank_a a rank_b b number [] = tt
  two_order rank_a a rank_b b number (reaction ∷ reactions) =
      go (may_react draft seed k reaction (encounter rank_a a rank_b b number)) (two_order rank_a a rank_b b (number + 1) reactions)
    where
      before : (f : Encounter) → IsOf a b (number + 1) f → Before (encounter rank_a a rank_b b number) f
      before f is = inr (sym is.first, inr (sym is.second, let l = is.from in omega (arith, l)))

      go : (here : Bool) → InOrder (encounters_of_two draft seed k rank_a a rank_b b (number + 1) reactions)
          → InOrder (cond here (encounter rank_a a rank_b b number ∷ encounters_of_two draft seed k rank_a a rank_b b
          (number + 1) reactions)
          (encounters_of_two draft seed k rank_a a rank_b b (number + 1) reactions))
      go true rest = (
        All-weaker (IsOf a b (number + 1)) (Before (encounter rank_a a rank_b b number)) before _
            (two_of rank_a a rank_b b (number + 1) reactions),
        rest,
      )
      go false rest = rest

  with_of : (rank_a : ℕ) (a : Mol) (rank_b low next : ℕ) (mols : List Mol) → Ascend low next mols
      → All (IsWith a low) (encounters_with draft seed k rank_a a rank_b mols)
  with_of rank_a a rank_b low next [] up = All-nil (IsWith a low)
  with_of rank_a a rank_b low next (b ∷ mols) up =
      All-append (IsWith a low) _ (encounters_with draft seed k rank_a a (rank_b + 1) mols)
      (taken_all (IsWith a low) (is_free draft seed k b) (encounters_of_two draft seed k rank_a a rank_b b 0 draft.reactions)
      (All-weaker (IsOf a b 0) (IsWith a low) (λ e is. record { first = is.first; second = let s = is.second in omega (arith, s, up.0) }) _
      (two_of rank_a a rank_b b 0 draft.reactions)))
      (All-weaker (IsWith a (b.serial + 1)) (IsWith a low)
      (λ e is. record { first = is.first; second = let s = is.second in omega (arith, s, up.0) }) _
      (with_of rank_a a (rank_b + 1) (b.serial + 1) next mols up.1))

  with_order : (rank_a : ℕ) (a : Mol) (rank_b low next : ℕ) (mols : List Mol) → Ascend low next mols
      → InOrder (encounters_with draft seed k rank_a a rank_b mols)
  with_order rank_a a rank_b low next [] up = tt
  with_order rank_a a rank_b low next (b ∷ mols) up =
      let behind = encounters_with draft seed k rank_a a (rank_b + 1) mols in
      let all = with_of rank_a a (rank_b + 1) (b.serial + 1) next mols up.1 in
      joined _ behind
      (taken_order (is_free draft seed k b) (encounters_of_two draft seed k rank_a a rank_b b 0 draft.reactions)
      (two_order rank_a a rank_b b 0 draft.reactions))
      (with_order rank_a a (rank_b + 1) (b.serial + 1) next mols up.1)
      (taken_all (λ e. All (Before e) behind) (is_free draft seed k b) (encounters_of_two draft seed k rank_a a rank_b b 0 draft.reactions)
      (All-weaker (IsOf a b 0) (λ e. All (Before e) behind) (λ e of.
      All-weaker (IsWith a (b.serial + 1)) (Before e) (λ f with_.
      inr (of.first ∙ sym with_.first, inl (let s = of.second in let t = with_.second in omega (arith, s, t)))) behind all) _
      (two_of rank_a a rank_b b 0 draft.reactions)))

  from_of : (rank low next : ℕ) (mols : List Mol) → Ascend low next mols → All (IsFrom low) (encounters_from draft seed k rank mols)
  from_of rank low next [] up = All-nil (IsFrom low)
  from_of rank low next (a ∷ mols) up =
      All-append (IsFrom low) _ (encounters_from draft seed k (rank + 1) mols)
      (taken_all (IsFrom low) (is_free draft seed k a) (encounters_with draft seed k rank a (rank + 1) mols)
      (All-weaker (IsWith a (a.serial + 1)) (IsFrom low) (λ e is. let f = is.first in omega (arith, f, up.0)) _
      (with_of rank a (rank + 1) (a.serial + 1) next mols up.1)))
      (All-weaker (IsFrom (a.serial + 1)) (IsFrom low) (λ e is. omega (arith, is, up.0)) _
      (from_of (rank + 1) (a.serial + 1) next mols up.1))

  from_order : (rank low next : ℕ) (mols : List Mol) → Ascend low next mols → InOrder (encounters_from draft seed k rank mols)
  from_order rank low next [] up = tt
  from_order rank low next (a ∷ mols) up =
      let behind = encounters_from draft seed k (rank + 1) mols in
      let all = from_of (rank + 1) (a.serial + 1) next mols up.1 in
      joined _ behind
      (taken_order (is_free draft seed k a) (encounters_with draft seed k rank a (rank + 1) mols)
      (with_order rank a (rank + 1) (a.serial + 1) next mols up.1))
      (from_order (rank + 1) (a.serial + 1) next mols up.1)
      (taken_all (λ e. All (Before e) behind) (is_free draft seed k a) (encounters_with draft seed k rank a (rank + 1) mols)
      (All-weaker (IsWith a (a.serial + 1)) (λ e. All (Before e) behind) (λ e with_.
      All-weaker (IsFrom (a.serial + 1)) (Before e) (λ f from. inl (let s = with_.first in omega (arith, s, from))) behind all) _
      (with_of rank a (rank + 1) (a.serial + 1) next mols up.1)))

  in_order_of : (es : List Encounter) → InOrder es → AreInOrder (map pair_of es)
  in_order_of [] order = tt
  in_order_of (e ∷ es) order = (All-map (ComesBefore (pair_of e)) pair_of es order.0, in_order_of es order.1)

  -- where serials ascend the encounters are in order
  pub encounters_in_order : (low next : ℕ) (mols : List Mol) → Ascend low next mols
      → AreOrderedBy (ComesFirst draft.nearest) (encounters_of draft seed k mols)
  unfolding encounters_of
  encounters_in_order low next mols up = go draft.nearest
    where
      go : (nearest : Bool) → AreOrderedBy (ComesFirst nearest) (listed nearest (encounters_from draft seed k 0 mols))
      go false = from_order 0 low next mols up
      go true = nearest_order Before (encounters_from draft seed k 0 mols) (from_order 0 low next mols up)

  -- and where distances don't count so are the candidates
  pub candidates_in_order : (low next : ℕ) (mols : List Mol) → draft.nearest ≡ false → Ascend low next mols
      → AreInOrder (candidates_of draft seed k mols)
  unfolding encounters_of
  candidates_in_order low next mols serial up =
      subst (λ (nearest : Bool). AreInOrder (map pair_of (listed nearest (encounters_from draft seed k 0 mols)))) (sym serial)
      (in_order_of (encounters_from draft seed k 0 mols) (from_order 0 low next mols up))
