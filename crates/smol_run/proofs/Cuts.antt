-- How calls one after the other come to an outcome, or are cut off on the way to it.
use Rattle.std.proofs.Common.{◌≡◌, ℕ, ◌<◌, List, [], ◌++◌, length, take, Option, None, Some, IfSome, Result, Ok, Err, IsErr, IsOkAnd, refl, sym, ◌∙◌, ap, arith}
use Rattle.std.proofs.lemmas.List.{append-nil, take_all}
use Rattle.smol_edge.specs.Faults.{Tells}
use Rattle.smol_edge.specs.Source.{Reading}
use Rattle.smol_edge.proofs.Telling.{Tells-same, Tells-then, Tells-weaker}
use Rattle.smol_edge.specs.Outlets.{Appends, AppendsFrontOf, Piece, Written, bytes_on, front_of}
use Rattle.smol_edge.proofs.Pieces.{Appends-then}
use Rattle.smol_edge.proofs.PieceFronts.{AppendsFrontOf-after, AppendsFrontOf-longer, byte_count, bytes_on-front_of-zero, front_of-all}
use Rattle.smol_meaning.specs.Placement.{NoPlace}
use Rattle.smol_meaning.specs.Stretch.{Ending, GoesOn, Stopped, Over, Stretch}
use Rattle.smol_loop.specs.Simulation.{IsComplete, pieces_of}
use Rattle.smol_run.specs.declared.status.Status.{Status}
use Rattle.smol_run.specs.declared.status.Status.TheVariants as status
use Rattle.smol_run.specs.declared.stop.Stop.{Stop}
use Rattle.smol_run.specs.Outcome.{Outcome, error_line, no_place_line, outcome_of_ending, outcome_of_run, over_line}
use Rattle.smol_run.specs.Opening.{OpensAll, OpensFront}
use Rattle.smol_run.specs.Ends.{EndsWith, EndsWithSome, GoesWith, GoesWithSome, IsCutOff, IsFrontOf}
use Rattle.smol_run.proofs.Openings.{none_opened}

-- nothing was done yet
pub cut_at_once : (outcome : Outcome) (a : Written) → IsCutOff outcome a a
cut_at_once outcome a = record {
  name_count = 0;
  byte_count = 0;
  names = sym (append-nil a.names);
  bytes = λ outlet. sym (ap (λ back. a.bytes outlet ++ back) (bytes_on-front_of-zero outlet outcome.pieces) ∙ append-nil (a.bytes outlet));
  opened_first = λ some. refl;
}

-- an opening failed
pub cut_in_opening : (outcome : Outcome) (names : List (List ℕ)) (a b : Written) → outcome.names ≡ names → OpensFront names a b → IsCutOff outcome a b
cut_in_opening outcome names a b are opened = record {
  name_count = opened.count;
  byte_count = 0;
  names = opened.opens.names_are ∙ ap (λ all. a.names ++ take opened.count all) (sym are);
  bytes = λ outlet. opened.opens.bytes outlet
      ∙ sym (ap (λ back. a.bytes outlet ++ back) (bytes_on-front_of-zero outlet outcome.pieces) ∙ append-nil (a.bytes outlet));
  opened_first = λ some. refl;
}

all_of : (n : ℕ) → n < n → ⊥
all_of n below = omega arith

-- all names were opened, and then a front of the pieces was written
pub cut_in_writing : (outcome : Outcome) (names : List (List ℕ)) (a b c : Written) → outcome.names ≡ names → OpensAll names a b
    → AppendsFrontOf outcome.pieces b c → IsCutOff outcome a c
cut_in_writing outcome names a b c are opened front = record {
  name_count = length outcome.names;
  byte_count = front.count;
  names = front.appends.names ∙ opened.names_are ∙ ap (λ all. a.names ++ all) (sym are ∙ sym (take_all (length outcome.names) outcome.names (omega arith)));
  bytes = λ outlet. front.appends.bytes outlet ∙ ap (λ now. now ++ bytes_on outlet (front_of front.count outcome.pieces)) (opened.bytes outlet);
  opened_first = λ some. absurd (all_of (length outcome.names) some);
}

-- all names were opened, and then all pieces were written
pub ended_as : (outcome : Outcome) (status : Status) (a b c : Written) → outcome.status ≡ status → OpensAll outcome.names a b
    → Appends outcome.pieces b c → EndsWith outcome status a c
ended_as outcome status a b c is opened wrote = record {
  status_is = is;
  names = wrote.names ∙ opened.names_are;
  bytes = λ outlet. wrote.bytes outlet ∙ ap (λ now. now ++ bytes_on outlet outcome.pieces) (opened.bytes outlet);
}

-- the output files are those of the configuration, however the run ends
pub names_of_run : (names : List (List ℕ)) (run : Result Stretch NoPlace) → (outcome_of_run names run).names ≡ names
names_of_run names (Err none) = refl
names_of_run names (Ok stretch) = names_of_ending stretch.pieces stretch.ending
  where
    names_of_ending : (pieces : List Piece) (ending : Ending) → (outcome_of_ending names pieces ending).names ≡ names
    names_of_ending pieces GoesOn = refl
    names_of_ending pieces Stopped = refl
    names_of_ending pieces (Over step) = refl

-- what a run prints is a front of its outcome's pieces
pub front_of_run : (names : List (List ℕ)) (run : Result Stretch NoPlace) (a b : Written) → AppendsFrontOf (pieces_of run) a b
    → AppendsFrontOf (outcome_of_run names run).pieces a b
front_of_run names (Err none) a b front = AppendsFrontOf-longer [] (error_line (no_place_line none.line none.serial)) a b front
front_of_run names (Ok stretch) a b front = front_of_ending stretch.pieces stretch.ending front
  where
    front_of_ending : (pieces : List Piece) (ending : Ending) → AppendsFrontOf pieces a b → AppendsFrontOf (outcome_of_ending names pieces ending).pieces a b
    front_of_ending pieces GoesOn front = front
    front_of_ending pieces Stopped front = front
    front_of_ending pieces (Over step) front = AppendsFrontOf-longer pieces (error_line (over_line step)) a b front

-- a run that failing writes or want of memory cut off, behind the opening of its files
pub run_cut_off : (names : List (List ℕ)) (run : Result Stretch NoPlace) (a b c : Written) → OpensAll names a b → AppendsFrontOf (pieces_of run) b c
    → IsCutOff (outcome_of_run names run) a c
run_cut_off names run a b c opened front =
    cut_in_writing (outcome_of_run names run) names a b c (names_of_run names run) opened (front_of_run names run b c front)

-- a run that came to its end
pub run_ended : (names : List (List ℕ)) (run : Result Stretch NoPlace) (a b c : Written) → IsOkAnd run (λ (stretch : Stretch). IsComplete stretch.ending)
    → OpensAll names a b → Appends (pieces_of run) b c → EndsWith (outcome_of_run names run) status.Done a c
run_ended names (Err none) a b c complete opened wrote = absurd complete
run_ended names (Ok stretch) a b c complete opened wrote = ending_ended stretch.pieces stretch.ending complete wrote
  where
    ending_ended : (pieces : List Piece) (ending : Ending) → IsComplete ending → Appends pieces b c → EndsWith (outcome_of_ending names pieces ending) status.Done a c
    ending_ended pieces GoesOn complete wrote = ended_as (outcome_of_ending names pieces GoesOn) status.Done a b c refl opened wrote
    ending_ended pieces Stopped complete wrote = ended_as (outcome_of_ending names pieces Stopped) status.Done a b c refl opened wrote
    ending_ended pieces (Over step) complete wrote = absurd complete

-- a run that has no beginning, which was told
pub no_place_told : (names : List (List ℕ)) (run : Result Stretch NoPlace) (line serial : ℕ) (a b c d : Written)
    → run ≡ Err (record { line = line; serial = serial }) → OpensAll names a b → Appends [] b c → Appends (error_line (no_place_line line serial)) c d
    → EndsWith (outcome_of_run names run) status.Refused a d
no_place_told names run line serial a b c d is opened none told =
    rw is (ended_as (outcome_of_run names (Err (record { line = line; serial = serial }))) status.Refused a b d refl opened (Appends-then [] _ b c d none told))

pub no_place_cut_off : (names : List (List ℕ)) (run : Result Stretch NoPlace) (line serial : ℕ) (a b c d : Written)
    → run ≡ Err (record { line = line; serial = serial }) → OpensAll names a b → Appends [] b c → AppendsFrontOf (error_line (no_place_line line serial)) c d
    → IsCutOff (outcome_of_run names run) a d
no_place_cut_off names run line serial a b c d is opened none told =
    rw is (cut_in_writing (outcome_of_run names (Err (record { line = line; serial = serial }))) names a b d refl opened
    (AppendsFrontOf-after [] (error_line (no_place_line line serial)) b c d none told))

-- a run that is over, which was told
pub over_told : (names : List (List ℕ)) (run : Result Stretch NoPlace) (step : ℕ) (a b c d : Written) → IsOkAnd run (λ (stretch : Stretch). stretch.ending ≡ Over step)
    → OpensAll names a b → Appends (pieces_of run) b c → Appends (error_line (over_line step)) c d → EndsWith (outcome_of_run names run) status.Over a d
over_told names (Err none) step a b c d is opened wrote told = absurd is
over_told names (Ok stretch) step a b c d is opened wrote told =
    rw is (ended_as (outcome_of_ending names stretch.pieces (Over step)) status.Over a b d refl opened (Appends-then stretch.pieces (error_line (over_line step)) b c d wrote told))

pub over_cut_off : (names : List (List ℕ)) (run : Result Stretch NoPlace) (step : ℕ) (a b c d : Written) → IsOkAnd run (λ (stretch : Stretch). stretch.ending ≡ Over step)
    → OpensAll names a b → Appends (pieces_of run) b c → AppendsFrontOf (error_line (over_line step)) c d → IsCutOff (outcome_of_run names run) a d
over_cut_off names (Err none) step a b c d is opened wrote told = absurd is
over_cut_off names (Ok stretch) step a b c d is opened wrote told =
    rw is (cut_in_writing (outcome_of_ending names stretch.pieces (Over step)) names a b d refl opened
    (AppendsFrontOf-after stretch.pieces (error_line (over_line step)) b c d wrote told))

-- an answer that is no status goes with an outcome to which the call was cut off
pub goes_cut_off : {E : Type 0} (outcome : Outcome) (result : Result Status E) (a b : Option Written) → IsErr result
    → Tells a b (IsCutOff outcome) → Tells a b (GoesWith outcome result)
goes_cut_off outcome (Ok status) a b failed cut = absurd (cc)
goes_cut_off outcome (Err why) a b failed cut = cut

-- nothing was done yet
pub told_at_once : (outcome : Outcome) (a : Option Written) → Tells a a (IsCutOff outcome)
told_at_once outcome a = Tells-same a (IsCutOff outcome) (cut_at_once outcome)

-- a front of the pieces of an outcome without names was written
pub told_front : (outcome : Outcome) (a b : Option Written) → outcome.names ≡ [] → Tells a b (AppendsFrontOf outcome.pieces) → Tells a b (IsCutOff outcome)
told_front outcome a b none front =
    Tells-weaker a b (AppendsFrontOf outcome.pieces) (IsCutOff outcome) (λ x y written. cut_in_writing outcome [] x x y none (none_opened x) written) front

-- the files were opened, the run printed, and something more was written
pub told_after : (P Q R S : Written → Written → Type 0) (a b c d : Option Written)
    → ((x y z w : Written) → P x y → Q y z → R z w → S x w) → Tells a b P → Tells b c Q → Tells c d R → Tells a d S
told_after P Q R S a b c d join first second third =
    Tells-then a c d (λ x z. (y : Written) × (P x y × Q y z)) R S (λ x z w both. join x both.0 z w both.1.0 both.1.1)
    (Tells-then a b c P Q (λ x z. (y : Written) × (P x y × Q y z)) (λ x y z p q. (y, (p, q))) first second) third

-- all that an outcome says is a front of it
pub whole_is_front : (outcome : Outcome) (status : Status) (a b : Written) → EndsWith outcome status a b → IsCutOff outcome a b
whole_is_front outcome status a b ends = record {
  name_count = length outcome.names;
  byte_count = byte_count outcome.pieces;
  names = ends.names ∙ ap (λ all. a.names ++ all) (sym (take_all (length outcome.names) outcome.names (omega arith)));
  bytes = λ outlet. ends.bytes outlet
      ∙ ap (λ pieces. a.bytes outlet ++ bytes_on outlet pieces) (sym (front_of-all (byte_count outcome.pieces) outcome.pieces (omega arith)));
  opened_first = λ some. absurd (all_of (length outcome.names) some);
}

-- an answer goes with a front of the outcome, whatever it is
pub front_of_answer : {E : Type 0} (outcome : Option Outcome) (result : Result Status E) (a b : Written) → GoesWithSome outcome result a b → IsFrontOf outcome a b
front_of_answer None (Ok status) a b goes = absurd goes
front_of_answer None (Err why) a b goes = goes
front_of_answer (Some outcome) (Ok status) a b goes = whole_is_front outcome status a b goes
front_of_answer (Some outcome) (Err why) a b goes = goes

-- the same of what is told
pub front_told : {E : Type 0} (outcome : Reading → Option Outcome) (result : Result Status E) (a : Option Reading) (w v : Option Written)
    → IfSome a (λ reading. Tells w v (GoesWithSome (outcome reading) result)) → IfSome a (λ reading. Tells w v (IsFrontOf (outcome reading)))
front_told outcome result None w v goes = tt
front_told outcome result (Some x) w v goes =
    Tells-weaker w v (GoesWithSome (outcome x) result) (IsFrontOf (outcome x)) (λ y z ends. front_of_answer (outcome x) result y z ends) goes

-- a status of its own that goes with an outcome ends as it says
pub ends_told : (outcome : Reading → Option Outcome) (status : Status) (a : Option Reading) (w v : Option Written)
    → IfSome a (λ reading. Tells w v (GoesWithSome {E = Stop} (outcome reading) (Ok status))) → IfSome a (λ reading. Tells w v (EndsWithSome (outcome reading) status))
ends_told outcome status None w v goes = tt
ends_told outcome status (Some x) w v goes = Tells-weaker w v _ (EndsWithSome (outcome x) status) (λ y z ends. as_some (outcome x) y z ends) goes
  where
    as_some : (outcome : Option Outcome) (a b : Written) → GoesWithSome {E = Stop} outcome (Ok status) a b → EndsWithSome outcome status a b
    as_some None a b goes = goes
    as_some (Some outcome) a b goes = goes
