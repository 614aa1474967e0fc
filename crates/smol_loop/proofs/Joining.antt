-- Parts of a run that are made one after the other.
use Rattle.std.proofs.Common.{◌≡◌, ℕ, List, [], ◌++◌, append_assoc, refl, sym, ap, subst, ◌∙◌, Option, Result, Ok, Err}
use Rattle.smol_edge.specs.Faults.{Tells}
use Rattle.smol_edge.specs.Outlets.{Appends, AppendsFrontOf, Piece, Written}
use Rattle.smol_edge.proofs.Pieces.{Appends-nothing, Appends-then}
use Rattle.smol_edge.proofs.PieceFronts.{AppendsFrontOf-after, AppendsFrontOf-longer}
use Rattle.smol_edge.proofs.Telling.{Tells-same, Tells-then, Tells-weaker}
use Rattle.smol_types.specs.declared.state.State.{State}
use Rattle.smol_meaning.specs.Stretch.{Ending, GoesOn, Stopped, Over, Stretch, followed_by, followed_if, joined}
use Rattle.smol_commands.specs.declared.flow.Flow.{Flow}
use Rattle.smol_commands.specs.declared.flow.Flow.TheVariants.{Go, Stop}
use Rattle.smol_loop.specs.declared.run_fault.RunFault.{RunFault}
use Rattle.smol_loop.specs.declared.run_fault.RunFault.TheVariants as fault
use Rattle.smol_loop.specs.Parts.{CountsFault, EndsPart, GivesPart, Leaves}

-- of a whole these pieces come first, and then the rest
pub record Behind (done : List Piece) (rest total : Stretch) : Type 0 where
  pub pieces : total.pieces ≡ done ++ rest.pieces
  pub last : total.last ≡ rest.last
  pub ending : total.ending ≡ rest.ending

-- of a whole this rest is left to be made: outlets were given all before it, and no write failed
pub record Left (rest total : Stretch) (told tells : Option Written) (before after : ℕ) : Type 0 where
  pub done : List Piece
  pub behind : Behind done rest total
  pub given : Tells told tells (Appends done)
  pub faults : after ≡ before

-- all of it is left
pub all_left : (total : Stretch) (a : Option Written) (l : ℕ) → Left total total a a l l
all_left total a l = record {
  done = [];
  behind = record { pieces = refl; last = refl; ending = refl };
  given = Tells-same a (Appends []) Appends-nothing;
  faults = refl;
}

-- the pieces of a first part that goes on come before what follows
goes_behind : (done : List Piece) (one : Stretch) (next : State → Stretch) (total : Stretch) (state : State) → Behind done (followed_by one next) total → EndsPart one state (Ok Go) → Behind (done ++ one.pieces) (next state) total
goes_behind done one next total state behind ends =
    let is : followed_by one next ≡ joined one (next one.last) = ap (λ (ending : Ending). followed_if one ending next) ends.1 in
    record {
      pieces =
          behind.pieces ∙ ap (λ (s : Stretch). done ++ s.pieces) is
          ∙ sym (append_assoc done one.pieces (next one.last).pieces)
          ∙ ap (λ (s : State). (done ++ one.pieces) ++ (next s).pieces) (sym ends.0);
      last = behind.last ∙ ap (λ (s : Stretch). s.last) is ∙ ap (λ (s : State). (next s).last) (sym ends.0);
      ending = behind.ending ∙ ap (λ (s : Stretch). s.ending) is ∙ ap (λ (s : State). (next s).ending) (sym ends.0);
    }

-- the first part of the rest goes on, and what follows is left
pub goes_on : {one total : Stretch} {state : State} {a b c : Option Written} {l m n : ℕ} (next : State → Stretch) → Left (followed_by one next) total a b l m → Leaves one (Ok Go) state b c m n → Left (next state) total a c l n
goes_on {one} {total} {state} {a} {b} {c} next left first = record {
  done = left.done ++ one.pieces;
  behind = goes_behind left.done one next total state left.behind first.ended;
  given = Tells-then a b c _ _ _ (Appends-then left.done one.pieces) left.given first.given;
  faults = first.faults ∙ left.faults;
}

-- the last part of a whole ends as the whole does, and gives the pieces that it lacks
last_ends : (done : List Piece) (one total : Stretch) (state : State) (result : Result Flow RunFault) → Behind done one total → EndsPart one state result → EndsPart total state result
last_ends done one total state (Ok flow) behind ends = (ends.0 ∙ sym behind.last, behind.ending ∙ ends.1)
last_ends done one total state (Err (fault.NoPlace line serial)) behind ends = absurd ends
last_ends done one total state (Err (fault.TooManyMolecules step)) behind ends = behind.ending ∙ ends
last_ends done one total state (Err fault.OutputFault) behind ends = tt
last_ends done one total state (Err fault.OutOfMemory) behind ends = tt

last_gives : (done : List Piece) (one total : Stretch) (result : Result Flow RunFault) (a b c : Option Written) → Behind done one total → Tells a b (Appends done) → Tells b c (GivesPart one.pieces result) → Tells a c (GivesPart total.pieces result)
last_gives done one total (Ok flow) a b c behind first second = subst (λ pieces. Tells a c (Appends pieces)) (sym behind.pieces) (Tells-then a b c _ _ _ (Appends-then done one.pieces) first second)
last_gives done one total (Err (fault.NoPlace line serial)) a b c behind first second = subst (λ pieces. Tells a c (Appends pieces)) (sym behind.pieces) (Tells-then a b c _ _ _ (Appends-then done one.pieces) first second)
last_gives done one total (Err (fault.TooManyMolecules step)) a b c behind first second = subst (λ pieces. Tells a c (Appends pieces)) (sym behind.pieces) (Tells-then a b c _ _ _ (Appends-then done one.pieces) first second)
last_gives done one total (Err fault.OutputFault) a b c behind first second = subst (λ pieces. Tells a c (AppendsFrontOf pieces)) (sym behind.pieces) (Tells-then a b c _ _ _ (AppendsFrontOf-after done one.pieces) first second)
last_gives done one total (Err fault.OutOfMemory) a b c behind first second = subst (λ pieces. Tells a c (AppendsFrontOf pieces)) (sym behind.pieces) (Tells-then a b c _ _ _ (AppendsFrontOf-after done one.pieces) first second)

-- the last part of a whole leaves what the whole does
pub last_leaves : {one total : Stretch} {state : State} {a b c : Option Written} {l m n : ℕ} (result : Result Flow RunFault) → Left one total a b l m → Leaves one result state b c m n → Leaves total result state a c l n
last_leaves {one} {total} {state} {a} {b} {c} {l} {m} {n} result left last = record {
  ended = last_ends left.done one total state result left.behind last.ended;
  given = last_gives left.done one total result a b c left.behind left.given last.given;
  faults = subst (λ k. CountsFault result k n) left.faults last.faults;
}

-- a front of the first part is one of the part and what follows
front_followed : (one : Stretch) (next : State → Stretch) (ending : Ending) (a b : Written) → AppendsFrontOf one.pieces a b → AppendsFrontOf (followed_if one ending next).pieces a b
front_followed one next GoesOn a b front = AppendsFrontOf-longer one.pieces (next one.last).pieces a b front
front_followed one next Stopped a b front = front
front_followed one next (Over step) a b front = front

-- a part that stops or fails is all that is made of it and what would follow
nothing_follows : (one : Stretch) (next : State → Stretch) (state : State) (a b : Option Written) (l m : ℕ) (result : Result Flow RunFault) → (result ≡ Ok Go → ⊥) → Leaves one result state a b l m → Leaves (followed_by one next) result state a b l m
nothing_follows one next state a b l m (Ok Go) ends leaves = absurd (ends refl)
nothing_follows one next state a b l m (Ok Stop) ends leaves =
    subst (λ (s : Stretch). Leaves s (Ok Stop) state a b l m) (sym (ap (λ (e : Ending). followed_if one e next) leaves.ended.1)) leaves
nothing_follows one next state a b l m (Err (fault.NoPlace line serial)) ends leaves = absurd leaves.ended
nothing_follows one next state a b l m (Err (fault.TooManyMolecules step)) ends leaves =
    subst (λ (s : Stretch). Leaves s (Err (fault.TooManyMolecules step)) state a b l m) (sym (ap (λ (e : Ending). followed_if one e next) leaves.ended)) leaves
nothing_follows one next state a b l m (Err fault.OutputFault) ends leaves =
    record { ended = tt; given = Tells-weaker a b _ _ (front_followed one next one.ending) leaves.given; faults = leaves.faults }
nothing_follows one next state a b l m (Err fault.OutOfMemory) ends leaves =
    record { ended = tt; given = Tells-weaker a b _ _ (front_followed one next one.ending) leaves.given; faults = leaves.faults }

-- the first part of the rest stops or fails, and so the whole does
pub ends_there : {one total : Stretch} {state : State} {a b c : Option Written} {l m n : ℕ} (next : State → Stretch) (result : Result Flow RunFault) → (result ≡ Ok Go → ⊥) → Left (followed_by one next) total a b l m → Leaves one result state b c m n → Leaves total result state a c l n
ends_there {one} {total} {state} {a} {b} {c} {l} {m} {n} next result ends left first =
    last_leaves result left (nothing_follows one next state b c m n result ends first)
