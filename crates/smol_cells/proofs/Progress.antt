-- An iterator whose call gave the first of what was left is nearer to its end.
use Rattle.std.proofs.Common.{◌≡◌, ℕ, ◌<◌, List, ◌∷◌, length, sym, subst, arith}
use Rattle.std.specs.Prelude.{Some}
use Rattle.std.specs.Iterator.{MakesProgress, item_count}

pub progress : {S : Type 0} (can : S → Type 0) → ((s : S) → can s) → (left : S → List ℕ) (s t : S) (x : ℕ) → left s ≡ x ∷ left t
    → MakesProgress can (item_count left) s (Some x) t
progress can always left s t x e = record {
  on = λ _. (always t, tt, subst (λ (xs : List ℕ). length (left t) < length xs) (sym e) (omega arith));
  keeps = always t;
  rests = λ _. tt;
}
