-- What is found stays right as panels and walls are looked at, one after the other in any order.
use Rattle.std.proofs.Common.{⊎_elim, ◌≡◌, ℕ, ◌+◌, ◌<◌, ◌≤◌, ◌↔◌, Bool, true, false, IsTrue, inl, List, [], ◌∷◌, length, get_or, Option, Some, None, refl, sym, ◌∙◌, ap, subst, arith}
use Rattle.std.specs.Prelude.{Contains, map, slice_get}
use Rattle.std.proofs.lemmas.Bool.{both_ways, cases_lt, cond_both, false_from_ne_true}
use Rattle.std.proofs.lemmas.List.{get_or-map, length-map}
use Rattle.std.proofs.lemmas.Option.{slice_get-get_or}
use Rattle.smol_geom.specs.declared.cuboid.Cuboid.{Cuboid}
use Rattle.smol_geom.specs.declared.moment.Moment.{Moment}
use Rattle.smol_geom.specs.Axes.{on_axis}
use Rattle.smol_geom.specs.Moments.{IsMoment, is_before}
use Rattle.smol_geom.proofs.Order.{before_trans, not_before_itself}
use Rattle.smol_types.specs.declared.draft.Draft.{Draft}
use Rattle.smol_types.specs.Sound.{IsSound}
use Rattle.smol_cells.proofs.Members.{contains_of_has, has_of_contains}
use Rattle.smol_meaning.specs.declared.sheet.Sheet.{Sheet}
use Rattle.smol_meaning.specs.declared.sheet.Sheet.TheVariants.{Rectangle, Plane}
use Rattle.smol_meaning.specs.Folds.{IsSheet}
use Rattle.smol_meaning.specs.Plates.{sheet_axis}
use Rattle.smol_meaning.specs.Seen.{plates_of}
use Rattle.smol_sheets.specs.declared.sheet.Stand.{Stand}
use Rattle.smol_sheets.specs.Sheets.{IsReached, sheet_of, sheets_of, stand_of}
use Rattle.smol_sheets.proofs.Numbered.{sheet_count, sheets_fit}
use Rattle.smol_travel.specs.declared.leg.Leg.{Leg}
use Rattle.smol_travel.specs.Legs.{IsBetween, IsLeg, IsSpan, meets}
use Rattle.smol_travel.specs.Looked.{AreLeft, IsMetBy, IsNeverMet, IsNextBut, NoneSooner, nowhere, plate_at}
use Rattle.smol_travel.specs.Meetings.{ComesLater, IsNext, NoneMet, sooner_of}
use Rattle.smol_travel.proofs.Span.{never_met, span_reaches}

pub count_is : (draft : Draft) → length (sheets_of draft) ≡ length (plates_of draft)
count_is draft = length-map (plates_of draft) sheet_of

-- where the panel or wall of a number stands
pub stands_at : (draft : Draft) (sheets : List Sheet) (n : ℕ) (d : Sheet) → sheets ≡ sheets_of draft → n < length sheets
    → get_or sheets n d ≡ (plate_at draft n).sheet
stands_at draft sheets n d is l =
    let within = subst (λ k. n < k) (ap length is ∙ count_is draft) l in
    ap (λ xs. get_or xs n d) is ∙ get_or-map sheet_of (plates_of draft) n nowhere d within

axis_below : (sheet : Sheet) → IsSheet sheet → sheet_axis sheet < 3
axis_below (Rectangle rect) is = is.shape.axis
axis_below (Plane axis plane) is = is.across

module _ (draft : Draft) (n : ℕ) (stands : List Stand) (d : Stand) (sound : IsSound draft) (l : n < length (sheets_of draft)) (are : stands ≡ map stand_of (sheets_of draft)) where
  abbrev sheet : Sheet
  sheet = (plate_at draft n).sheet

  at : get_or (sheets_of draft) n sheet ≡ sheet
  at = stands_at draft (sheets_of draft) n sheet refl l

  fits : IsSheet sheet
  fits = subst IsSheet at (sheets_fit draft sound n sheet l)

  stand_is : get_or stands n d ≡ stand_of sheet
  stand_is = ap (λ xs. get_or xs n d) are ∙ get_or-map stand_of (sheets_of draft) n sheet d l ∙ ap stand_of at

  -- it stands across an axis
  pub stand_across : (get_or stands n d).axis < 3
  stand_across = subst (λ (s : Stand). s.axis < 3) (sym stand_is) (axis_below sheet fits)

  -- one that stands outside the span is never met
  pub outside : (leg : Leg) (span : Cuboid) (t : Bool)
      → (IsTrue t ↔ IsBetween (on_axis span.low (get_or stands n d).axis) (on_axis span.high (get_or stands n d).axis) (get_or stands n d).plane) → t ≡ false
      → IsLeg leg → IsSpan leg span → IsNeverMet draft leg n
  outside leg span t says out is_leg is_span =
      never_met leg span sheet (get_or stands n d).axis (get_or stands n d).plane t fits is_leg is_span
      (ap (λ (s : Stand). s.axis) stand_is) (ap (λ (s : Stand). s.plane) stand_is) says out

-- at first each panel that is met is among those near the span
pub near_left : (draft : Draft) (leg : Leg) (span : Cuboid) (first : ℕ) (left : List ℕ) → first ≤ length draft.panels → IsSpan leg span
    → ((number : ℕ) (sheet : Sheet) → number < length draft.panels → slice_get (sheets_of draft) number ≡ Some sheet → IsReached span sheet → Contains left number)
    → (m : Moment) → IsMoment leg.from leg.by m → AreLeft draft leg first left m
near_left draft leg span first left some is_span near m is = λ n before met.
    let below : n < length draft.panels = omega (arith, before, some) in
    let sheet = (plate_at draft n).sheet in
    let within : n < length (sheets_of draft) = omega (arith, sheet_count draft, below) in
    near n sheet below
    (slice_get-get_or (sheets_of draft) n sheet within ∙ ap (λ (s : Sheet). Some s) (stands_at draft (sheets_of draft) n sheet refl within))
    (span_reaches leg span is_span m is sheet met)

-- one that isn't met can be left out
pub left_out : (draft : Draft) (leg : Leg) (bound number : ℕ) (left : List ℕ) (m : Moment) → AreLeft draft leg bound (number ∷ left) m
    → (IsMetBy draft leg m number → ⊥) → AreLeft draft leg bound left m
left_out draft leg bound number left m are none = λ n below met.
    ⊎_elim
    (λ (same : number ≡ n). absurd (none (subst (IsMetBy draft leg m) (sym same) met)))
    (λ more. contains_of_has left n more)
    (has_of_contains (number ∷ left) n (are n below met))

-- of one more it is not known yet whether it is met
pub one_more : (draft : Draft) (leg : Leg) (bound : ℕ) (m : Moment) → AreLeft draft leg bound [] m → AreLeft draft leg (bound + 1) (bound ∷ []) m
one_more draft leg bound m are = λ n below met.
    ⊎_elim
    (λ (less : n < bound). absurd (has_of_contains [] n (are n less met)))
    (λ (past : bound ≤ n). let same : bound ≡ n = omega arith in contains_of_has (bound ∷ []) n (inl same))
    (cases_lt n bound)

-- where none is left, none is met
none_left : (draft : Draft) (leg : Leg) (bound : ℕ) (m : Moment) → length (sheets_of draft) ≤ bound → AreLeft draft leg bound [] m → NoneMet (sheets_of draft) leg m
none_left draft leg bound m all are = λ k d l.
    false_from_ne_true _ (λ met.
    has_of_contains [] k (are k (omega (arith, all, l)) (ap (meets leg m) (sym (stands_at draft (sheets_of draft) k d refl l)) ∙ met)))

module _ (draft : Draft) (leg : Leg) (last : Moment) (bound : ℕ) where
  -- before anything is looked at there is no next meeting
  pub next_first : (left : List ℕ) → ((m : Moment) → IsMoment leg.from leg.by m → AreLeft draft leg bound left m) → IsNextBut draft leg last bound left None
  next_first left near = record { later = λ m h. near m h.moment }

  pub next_more : (next : Option Moment) → IsNextBut draft leg last bound [] next → IsNextBut draft leg last (bound + 1) (bound ∷ []) next
  next_more None old = record { later = λ m h. one_more draft leg bound m (old.later m h) }
  next_more (Some n) old =
      record { is_later = old.is_later; sooner = λ m h b. one_more draft leg bound m (old.sooner m h b) }

  pub next_of_all : (next : Option Moment) → length (sheets_of draft) ≤ bound → IsNextBut draft leg last bound [] next → IsNext (sheets_of draft) leg last next
  next_of_all None all old = record { none = λ m h. none_left draft leg bound m all (old.later m h) }
  next_of_all (Some n) all old =
      record { is_later = old.is_later; none_before = λ m h b. none_left draft leg bound m all (old.sooner m h b) }

  den_of : (m : Moment) → ComesLater leg last m → 0 < m.den
  den_of m h = omega (arith, h.moment.begun, h.moment.unfinished)

  module _ (number : ℕ) (left : List ℕ) where
    -- one that is met no more changes nothing
    pub next_same : (next : Option Moment) → IsNextBut draft leg last bound (number ∷ left) next
        → ((m : Moment) → ComesLater leg last m → IsMetBy draft leg m number → ⊥) → IsNextBut draft leg last bound left next
    next_same None old never = record { later = λ m h. left_out draft leg bound number left m (old.later m h) (never m h) }
    next_same (Some n) old never =
        record { is_later = old.is_later; sooner = λ m h b. left_out draft leg bound number left m (old.sooner m h b) (never m h) }

    -- one that is met at a moment makes this the next one, where it comes before the next one so far
    pub next_met : (next : Option Moment) (met : Moment) → IsNextBut draft leg last bound (number ∷ left) next
        → ComesLater leg last met
        → ((m : Moment) → ComesLater leg last m → IsMetBy draft leg m number → ◌≡◌ {A = Moment} met m)
        → NoneSooner draft leg last bound left (sooner_of next met)
    next_met None met old later only =
        record {
          is_later = later;
          sooner = λ m h b. left_out draft leg bound number left m (old.later m h)
              (λ e. both_ways _ (not_before_itself m) (subst (λ x. is_before m x ≡ true) (only m h e) b));
        }
    next_met (Some n) met old later only =
        cond_both (is_before met n) met n (λ x. NoneSooner draft leg last bound left x)
        (λ first. record {
          is_later = later;
          sooner = λ m h b. left_out draft leg bound number left m
              (old.sooner m h (before_trans m met n (den_of m h) (den_of met later) (den_of n old.is_later) b first))
              (λ e. both_ways _ (not_before_itself m) (subst (λ x. is_before m x ≡ true) (only m h e) b));
        })
        (λ second. record {
          is_later = old.is_later;
          sooner = λ m h b. left_out draft leg bound number left m (old.sooner m h b)
              (λ e. both_ways _ second (subst (λ x. is_before x n ≡ true) (sym (only m h e)) b));
        })

-- what is there, or else this
abbrev pub some_or : Moment → Option Moment → Moment
some_or d None = d
some_or d (Some m) = m
