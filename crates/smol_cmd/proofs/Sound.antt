-- The command of a line without a fault is sound.
use Rattle.std.proofs.Common.{◌≡◌, ◌+◌, ◌<◌, ◌≤◌, ℕ, zero, suc, nat_le, nat_lt, List, [], ◌∷◌, length, Option, None, Some, Result, Ok, All, arith, subst}
use Rattle.std.proofs.lemmas.Bool.Decides.{nat_tests}
use Rattle.std.proofs.lemmas.List.Elements.{All-nil, All-cons, All-weaker}
use Rattle.smol_text.specs.Reading.{Stated, words_of}
use Rattle.smol_types.specs.declared.command.Act.{Act}
use Rattle.smol_types.specs.declared.command.Act.TheVariants as act
use Rattle.smol_types.specs.declared.command.Command.{Command}
use Rattle.smol_types.specs.declared.command.Test.{Test}
use Rattle.smol_types.specs.declared.command.Test.TheVariants as test
use Rattle.smol_types.specs.declared.fault.Kind.{Kind}
use Rattle.smol_types.specs.declared.fault.Kind.TheVariants.{TooMany, WrongWordCount}
use Rattle.smol_types.specs.declared.wall.Wall.{Wall}
use Rattle.smol_types.specs.Commands.{AreSpecies, IsAct, IsCommand, IsOutlet, IsTest}
use Rattle.smol_types.specs.Limits.{most_commands, most_molecules, most_tests}
use Rattle.smol_line.specs.Axes.{AreAxes, needs_dim, needs_walls, walls_of}
use Rattle.smol_line.specs.Checks.{unless, word_count, there}
use Rattle.smol_line.specs.Numbers.{count_in}
use Rattle.smol_line.specs.SpeciesWord.{number_in, species_word_in}
use Rattle.smol_line.specs.Words.{word_at}
use Rattle.smol_line.proofs.Passing.{passed, valued, held, no_value, same_value}
use Rattle.smol_line.proofs.Ranges.{count_in-high, number_in-within, species_word_in-within}
use Rattle.smol_cmd.specs.declared.condition.Condition.{Condition}
use Rattle.smol_cmd.specs.declared.condition.Condition.TheVariants as condition
use Rattle.smol_cmd.specs.declared.verb.Verb.{Verb}
use Rattle.smol_cmd.specs.declared.verb.Verb.TheVariants as verb
use Rattle.smol_cmd.specs.Known.{Known}
use Rattle.smol_cmd.specs.When.{when_in}
use Rattle.smol_cmd.specs.Who.{who_in}
use Rattle.smol_cmd.specs.Probability.{probability_in}
use Rattle.smol_cmd.specs.Outlet.{outlet_in}
use Rattle.smol_cmd.specs.Echo.{quoted_in, rest_behind, spelled}
use Rattle.smol_cmd.specs.Act.{act_in, act_of, count_within_in, echo_in, echo_parts_in, kill_in, kill_prob_in, place_in, point_source_in, positions_in, print_in, replace_in, verb_in}
use Rattle.smol_cmd.specs.Test.{asked_in, condition_in, condition_words, test_in, test_of}
use Rattle.smol_cmd.specs.Cmd.{cmd_in, command_in, command_of}
use Rattle.smol_cmd.proofs.Values.{outlet_is, probability_is, when_is, who_is}
use Rattle.smol_cmd.proofs.Numbered.{Does, count_space_is, mean_square_is, moments_are, radial_is}
use Rattle.smol_cmd.proofs.Between.{place_is}

print_is : (known : Known) (line : Stated) (at out : ℕ) → print_in known line at ≡ Ok out → IsOutlet (length known.outputs) out
unfolding print_in
print_is known line at out is =
    let words = passed (word_count (at + 2) line) [] _ out is in
    outlet_is known.outputs (word_at line (at + 1)) out words.1

count_within_is : (known : Known) (line : Stated) (at : ℕ) (found : Act) → count_within_in known line at ≡ Ok found → Does known found
unfolding count_within_in
count_within_is known line at found is =
    let words = passed (word_count (at + 3) line) [] _ found is in
    let compartment = valued (number_in known.compartments (word_at line (at + 1))) _ found words.1 in
    let out = valued (outlet_in known.outputs (word_at line (at + 2))) _ found compartment.2 in
    subst (Does known) (same_value (act.CountIn compartment.0 out.0) found out.2)
    (number_in-within known.compartments (word_at line (at + 1)) compartment.0 compartment.1, outlet_is known.outputs (word_at line (at + 2)) out.0 out.1)

positions_is : (known : Known) (line : Stated) (at : ℕ) (found : Act) → positions_in known line at ≡ Ok found → Does known found
unfolding positions_in
positions_is known line at found is =
    let words = passed (word_count (at + 3) line) [] _ found is in
    let who = valued (who_in known.species (word_at line (at + 1))) _ found words.1 in
    let out = valued (outlet_in known.outputs (word_at line (at + 2))) _ found who.2 in
    subst (Does known) (same_value (act.Positions who.0 out.0) found out.2)
    (who_is known.species (word_at line (at + 1)) who.0 who.1, outlet_is known.outputs (word_at line (at + 2)) out.0 out.1)

echo_parts_are : (known : Known) (line : Stated) (at : ℕ) (parts : ℕ × List ℕ) → echo_parts_in known line at ≡ Ok parts
    → IsOutlet (length known.outputs) parts.0
unfolding echo_parts_in
echo_parts_are known line at parts is =
    let bytes = valued (there (quoted_in (rest_behind (at + 1) line.part)) WrongWordCount) _ parts is in
    let out = valued (outlet_in known.outputs (word_at line (at + 1))) _ parts bytes.2 in
    subst (λ (parts : ℕ × List ℕ). IsOutlet (length known.outputs) parts.0) (same_value (out.0, bytes.0) parts out.2)
    (outlet_is known.outputs (word_at line (at + 1)) out.0 out.1)

echo_is : (known : Known) (line : Stated) (at : ℕ) (found : Act) → echo_in known line at ≡ Ok found → Does known found
unfolding echo_in
echo_is known line at found is =
    let parts = valued (echo_parts_in known line at) _ found is in
    subst (Does known) (same_value (act.Echo parts.0.0 (spelled parts.0.1)) found parts.2) (echo_parts_are known line at parts.0 parts.1)

kill_is : (known : Known) (line : Stated) (at : ℕ) (found : Act) → kill_in known line at ≡ Ok found → Does known found
unfolding kill_in
kill_is known line at found is =
    let words = passed (word_count (at + 2) line) [] _ found is in
    let who = valued (who_in known.species (word_at line (at + 1))) _ found words.1 in
    subst (Does known) (same_value (act.Kill who.0) found who.2) (who_is known.species (word_at line (at + 1)) who.0 who.1)

kill_prob_is : (known : Known) (line : Stated) (at : ℕ) (found : Act) → kill_prob_in known line at ≡ Ok found → Does known found
unfolding kill_prob_in
kill_prob_is known line at found is =
    let words = passed (word_count (at + 3) line) [] _ found is in
    let who = valued (who_in known.species (word_at line (at + 1))) _ found words.1 in
    let p = valued (probability_in (word_at line (at + 2))) _ found who.2 in
    subst (Does known) (same_value (act.KillProb who.0 p.0) found p.2)
    (who_is known.species (word_at line (at + 1)) who.0 who.1, probability_is (word_at line (at + 2)) p.0 p.1)

replace_is : (known : Known) (line : Stated) (at : ℕ) (found : Act) → replace_in known line at ≡ Ok found → Does known found
unfolding replace_in
replace_is known line at found is =
    let words = passed (word_count (at + 4) line) [] _ found is in
    let who = valued (who_in known.species (word_at line (at + 1))) _ found words.1 in
    let to = valued (species_word_in known.species (word_at line (at + 2))) _ found who.2 in
    let p = valued (probability_in (word_at line (at + 3))) _ found to.2 in
    subst (Does known) (same_value (act.Replace who.0 to.0 p.0) found p.2)
    (who_is known.species (word_at line (at + 1)) who.0 who.1, species_word_in-within known.species (word_at line (at + 2)) to.0 to.1, probability_is (word_at line (at + 3)) p.0 p.1)

point_source_is : (known : Known) (dims : ℕ) (line : Stated) (at : ℕ) (found : Act) → AreAxes known.axes → needs_walls known.axes ≡ Ok dims → point_source_in known line at ≡ Ok found → Does known found
unfolding point_source_in
point_source_is known dims line at found sound walled is =
    let count = valued (needs_dim known.axes) _ found is in
    let words = passed (word_count (at + 3 + count.0) line) [] _ found count.2 in
    let species = valued (species_word_in known.species (word_at line (at + 1))) _ found words.1 in
    let n = valued (count_in 0 most_molecules (word_at line (at + 2))) _ found species.2 in
    let place = valued (place_in known.axes line (at + 3)) _ found n.2 in
    let between = place_is known.axes dims (at + 3) line place.0 sound walled place.1 in
    subst (Does known) (same_value (act.PointSource species.0 n.0 place.0) found place.2)
    (species_word_in-within known.species (word_at line (at + 1)) species.0 species.1, count_in-high 0 most_molecules (word_at line (at + 2)) n.0 n.1, between.0, between.1)

-- what the words of a command do
act_by : (verb : Verb) (known : Known) (dims : ℕ) (line : Stated) (at : ℕ) (found : Act) → AreAxes known.axes → needs_walls known.axes ≡ Ok dims → act_of verb known line at ≡ Ok found → Does known found
act_by verb.Stop known dims line at found sound walled is =
    let words = passed (word_count (at + 1) line) [] _ found is in
    subst (Does known) (same_value act.Stop found words.1) tt
act_by verb.CountHeader known dims line at found sound walled is =
    let out = valued (print_in known line at) _ found is in
    subst (Does known) (same_value (act.CountHeader out.0) found out.2) (print_is known line at out.0 out.1)
act_by verb.Count known dims line at found sound walled is =
    let out = valued (print_in known line at) _ found is in
    subst (Does known) (same_value (act.Count out.0) found out.2) (print_is known line at out.0 out.1)
act_by verb.CountIn known dims line at found sound walled is = count_within_is known line at found is
act_by verb.List known dims line at found sound walled is =
    let out = valued (print_in known line at) _ found is in
    subst (Does known) (same_value (act.List out.0) found out.2) (print_is known line at out.0 out.1)
act_by verb.Positions known dims line at found sound walled is = positions_is known line at found is
act_by verb.CountSpace known dims line at found sound walled is = count_space_is known line at found sound is
act_by verb.Moments known dims line at found sound walled is = moments_are known line at found is
act_by verb.MeanSquare known dims line at found sound walled is = mean_square_is known line at found is
act_by verb.Radial known dims line at found sound walled is = radial_is known line at found is
act_by verb.Echo known dims line at found sound walled is = echo_is known line at found is
act_by verb.Kill known dims line at found sound walled is = kill_is known line at found is
act_by verb.KillProb known dims line at found sound walled is = kill_prob_is known line at found is
act_by verb.Replace known dims line at found sound walled is = replace_is known line at found is
act_by verb.PointSource known dims line at found sound walled is = point_source_is known dims line at found sound walled is

act_is : (known : Known) (dims : ℕ) (line : Stated) (at : ℕ) (found : Act) → AreAxes known.axes → needs_walls known.axes ≡ Ok dims → act_in known line at ≡ Ok found → Does known found
unfolding act_in
act_is known dims line at found sound walled is =
    let verb = valued (verb_in (word_at line at)) _ found is in
    act_by verb.0 known dims line at found sound walled verb.2

-- a test of species that there are
test_by : (condition : Condition) (species : List (List ℕ)) (line : Stated) (at : ℕ) (found : Test) → test_of condition species line at ≡ Ok found → IsTest (length species) found
test_by condition.No species line at found is =
    let who = valued (who_in species (word_at line (at + 1))) _ found is in
    subst (IsTest (length species)) (same_value (test.IfNo who.0) found who.2) (who_is species (word_at line (at + 1)) who.0 who.1)
test_by condition.Fewer species line at found is =
    let who = valued (who_in species (word_at line (at + 1))) _ found is in
    let n = valued (asked_in line at) _ found who.2 in
    subst (IsTest (length species)) (same_value (test.IfLess who.0 n.0) found n.2)
    (who_is species (word_at line (at + 1)) who.0 who.1, count_in-high 0 most_molecules (word_at line (at + 2)) n.0 n.1)
test_by condition.More species line at found is =
    let who = valued (who_in species (word_at line (at + 1))) _ found is in
    let n = valued (asked_in line at) _ found who.2 in
    subst (IsTest (length species)) (same_value (test.IfMore who.0 n.0) found n.2)
    (who_is species (word_at line (at + 1)) who.0 who.1, count_in-high 0 most_molecules (word_at line (at + 2)) n.0 n.1)

test_is : (condition : Condition) (species : List (List ℕ)) (line : Stated) (at : ℕ) (found : Test) → test_in condition species line at ≡ Ok found → IsTest (length species) found
unfolding test_in
test_is condition species line at found is =
    let words = held (nat_le (at + condition_words condition) (length (words_of line))) WrongWordCount [] _ found is in
    test_by condition species line at found words.1

-- tests, and what is done behind them
record AreDone (known : Known) (does : List Test × Act) : Type 0 where
  tests : All (IsTest (length known.species)) does.0
  act : Does known does.1

done_by : (first : Option Condition) (known : Known) (dims : ℕ) (line : Stated) (at : ℕ) (inner : ℕ → Result (List Test × Act) Kind) (does : List Test × Act) → AreAxes known.axes → needs_walls known.axes ≡ Ok dims → ((next : ℕ) (does : List Test × Act) → inner next ≡ Ok does → AreDone known does) → command_of first known line at inner ≡ Ok does → AreDone known does
done_by None known dims line at inner does sound walled rest is =
    let found = valued (act_in known line at) _ does is in
    subst (AreDone known) (same_value ([], found.0) does found.2)
    (record { tests = All-nil (IsTest (length known.species)); act = act_is known dims line at found.0 sound walled found.1 })
done_by (Some first) known dims line at inner does sound walled rest is =
    let found = valued (test_in first known.species line at) _ does is in
    let behind = valued (inner (at + condition_words first)) _ does found.2 in
    let others = rest (at + condition_words first) behind.0 behind.1 in
    subst (AreDone known) (same_value (found.0 ∷ behind.0.0, behind.0.1) does behind.2)
    (record {
      tests = All-cons (IsTest (length known.species)) found.0 behind.0.0 (test_is first known.species line at found.0 found.1) others.tests;
      act = others.act;
    })

are_done : (left : ℕ) (known : Known) (dims : ℕ) (line : Stated) (at : ℕ) (does : List Test × Act) → AreAxes known.axes → needs_walls known.axes ≡ Ok dims → command_in left known line at ≡ Ok does → AreDone known does
are_done zero known dims line at does sound walled is = no_value WrongWordCount does is
are_done (suc left) known dims line at does sound walled is =
    let words = held (nat_lt at (length (words_of line))) WrongWordCount [] _ does is in
    done_by (condition_in (word_at line at)) known dims line at (λ next. command_in left known line next) does sound walled
    (λ next does is. are_done left known dims line next does sound walled is) words.1

-- what a line gives
record IsGiven (known : Known) (count : ℕ) (command : Command) : Type 0 where
  sound : AreAxes known.axes → IsCommand (length known.species) (length known.compartments) (length known.outputs) (walls_of known.axes) command
  room : count < most_commands

given_is : (known : Known) (count : ℕ) (line : Stated) (command : Command) → cmd_in known count line ≡ Ok command → IsGiven known count command
unfolding cmd_in
given_is known count line command is =
    let dims = valued (needs_walls known.axes) _ command is in
    let due = valued (when_in line) _ command dims.2 in
    let does = valued (command_in (length (words_of line)) known line due.0.1) _ command due.2 in
    let few = held (nat_le (length does.0.0) most_tests) TooMany (unless (nat_lt count most_commands) TooMany ∷ []) _ command does.2 in
    let room = held (nat_lt count most_commands) TooMany [] _ command few.1 in
    let few_test = few.0 in
    let room_test = room.0 in
    let tests : length does.0.0 ≤ most_tests = grind (arith, nat_tests) in
    let below : count < most_commands = grind (arith, nat_tests) in
    let made : Command = record { «when» = due.0.0; tests = does.0.0; act = does.0.1 } in
    subst (IsGiven known count) (same_value made command room.1)
    (record {
      room = below;
      sound = λ sound.
          let done = are_done (length (words_of line)) known dims.0 line due.0.1 does.0 sound dims.1 does.1 in
          record { timing = when_is line due.0 due.1; test_count = tests; tests = done.tests; does = done.act };
    })

pub commands_are_sound : (known : Known) (count : ℕ) (line : Stated) (command : Command) → cmd_in known count line ≡ Ok command → AreAxes known.axes → IsCommand (length known.species) (length known.compartments) (length known.outputs) (walls_of known.axes) command
commands_are_sound known count line command is sound = let given = given_is known count line command is in given.sound sound

pub commands_are_few : (known : Known) (count : ℕ) (line : Stated) (command : Command) → cmd_in known count line ≡ Ok command → count < most_commands
commands_are_few known count line command is = let given = given_is known count line command is in given.room

-- more species, compartments and files keep commands sound
species_stay : (old new : ℕ) (who : List ℕ) → old ≤ new → AreSpecies old who → AreSpecies new who
species_stay old new who more are =
    All-weaker (λ (species : ℕ). species < old) (λ (species : ℕ). species < new) (λ species below. omega (arith, more, below)) who are

test_stays : (old new : ℕ) → old ≤ new → (one : Test) → IsTest old one → IsTest new one
test_stays old new more (test.IfNo who) is = species_stay old new who more is
test_stays old new more (test.IfLess who n) is = (species_stay old new who more is.0, is.1)
test_stays old new more (test.IfMore who n) is = (species_stay old new who more is.0, is.1)

act_stays : (a b c a_new b_new c_new : ℕ) (walls : List Wall) (one : Act) → a ≤ a_new → b ≤ b_new → c ≤ c_new → IsAct a b c walls one → IsAct a_new b_new c_new walls one
act_stays a b c a_new b_new c_new walls (act.CountHeader out) more_a more_b more_c is = omega arith
act_stays a b c a_new b_new c_new walls (act.Count out) more_a more_b more_c is = omega arith
act_stays a b c a_new b_new c_new walls (act.CountIn compartment out) more_a more_b more_c is =
    let first = is.0 in
    let second = is.1 in
    (omega arith, omega arith)
act_stays a b c a_new b_new c_new walls (act.List out) more_a more_b more_c is = omega arith
act_stays a b c a_new b_new c_new walls (act.Positions who out) more_a more_b more_c is =
    let second = is.1 in
    (species_stay a a_new who more_a is.0, omega arith)
act_stays a b c a_new b_new c_new walls (act.CountSpace who axis low high bins out) more_a more_b more_c is =
    let outlet = is.4 in
    (species_stay a a_new who more_a is.0, is.1, is.2, is.3, omega arith)
act_stays a b c a_new b_new c_new walls (act.Moments who out) more_a more_b more_c is =
    let outlet = is.1 in
    (species_stay a a_new who more_a is.0, omega arith)
act_stays a b c a_new b_new c_new walls (act.MeanSquare who at out) more_a more_b more_c is =
    let outlet = is.2 in
    (species_stay a a_new who more_a is.0, is.1, omega arith)
act_stays a b c a_new b_new c_new walls (act.Radial first second radius bins out) more_a more_b more_c is =
    let one = is.0 in
    let other = is.1 in
    let outlet = is.5 in
    (omega arith, omega arith, is.2, is.3, is.4, omega arith)
act_stays a b c a_new b_new c_new walls (act.Echo out text) more_a more_b more_c is = omega arith
act_stays a b c a_new b_new c_new walls (act.Kill who) more_a more_b more_c is = species_stay a a_new who more_a is
act_stays a b c a_new b_new c_new walls (act.KillProb who p) more_a more_b more_c is = (species_stay a a_new who more_a is.0, is.1)
act_stays a b c a_new b_new c_new walls (act.Replace who to p) more_a more_b more_c is =
    let second = is.1 in
    (species_stay a a_new who more_a is.0, omega arith, is.2)
act_stays a b c a_new b_new c_new walls (act.PointSource species n place) more_a more_b more_c is =
    let first = is.0 in
    (omega arith, is.1, is.2, is.3)
act_stays a b c a_new b_new c_new walls act.Stop more_a more_b more_c is = tt

pub commands_stay_sound : (a b c a_new b_new c_new : ℕ) (walls : List Wall) (command : Command) → IsCommand a b c walls command → a ≤ a_new → b ≤ b_new → c ≤ c_new → IsCommand a_new b_new c_new walls command
commands_stay_sound a b c a_new b_new c_new walls command sound more_a more_b more_c = record {
  timing = sound.timing;
  test_count = sound.test_count;
  tests = All-weaker (IsTest a) (IsTest a_new) (test_stays a a_new more_a) command.tests sound.tests;
  does = act_stays a b c a_new b_new c_new walls command.act more_a more_b more_c sound.does;
}
