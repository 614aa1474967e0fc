-- COMMAND and its words: what a command does. The place is that of the word COMMAND.
use Rattle.std.specs.Prelude.{ℕ, ◌+◌, pos, List, [], ◌∷◌, Result, Ok, Err, if◌then◌else◌, codes}
use Rattle.std.specs.Str.{bytes_eq}
use Rattle.smol_geom.specs.declared.place.Place.{Place}
use Rattle.smol_text.specs.Reading.{Stated}
use Rattle.smol_types.specs.declared.command.Act.{Act}
use Rattle.smol_types.specs.declared.command.Act.TheVariants as act
use Rattle.smol_types.specs.declared.fault.Kind.{Kind}
use Rattle.smol_types.specs.declared.fault.Kind.TheVariants.{UnknownCommand, WrongWordCount}
use Rattle.smol_types.specs.Limits.{most_molecules}
use Rattle.smol_line.specs.declared.axes.Axes.{Axes}
use Rattle.smol_line.specs.Axes.{needs_dim, read_axes}
use Rattle.smol_line.specs.Coordinate.{coordinate_in}
use Rattle.smol_line.specs.Words.{word_at}
use Rattle.smol_line.specs.Checks.{there, word_count, passing, with_value}
use Rattle.smol_line.specs.Numbers.{count_in}
use Rattle.smol_line.specs.SpeciesWord.{number_in, species_word_in}
use Rattle.smol_cmd.specs.declared.verb.Verb.{Verb}
use Rattle.smol_cmd.specs.declared.verb.Verb.TheVariants as verb
use Rattle.smol_cmd.specs.Known.{Known}
use Rattle.smol_cmd.specs.Who.{who_in}
use Rattle.smol_cmd.specs.Probability.{probability_in}
use Rattle.smol_cmd.specs.Outlet.{outlet_in}
use Rattle.smol_cmd.specs.Echo.{rest_behind, quoted_in, spelled}
use Rattle.smol_cmd.specs.Statistics.{count_space_in, mean_square_in, moments_in, radial_in}

-- what the word COMMAND says is to be done, where it is a word for numbers over the molecules
unfoldable pub statistic_in : List ℕ → Result Verb Kind
statistic_in word =
    if bytes_eq word (codes "molcountspace")
    then Ok verb.CountSpace
    else (if bytes_eq word (codes "molmoments")
    then Ok verb.Moments
    else (if bytes_eq word (codes "meansqrdist")
    then Ok verb.MeanSquare
    else (if bytes_eq word (codes "radialcount") then Ok verb.Radial else Err UnknownCommand)))

-- what the word COMMAND says is to be done, where it is a word for printing
unfoldable pub printing_in : List ℕ → Result Verb Kind
printing_in word =
    if bytes_eq word (codes "molcountheader")
    then Ok verb.CountHeader
    else (if bytes_eq word (codes "molcount")
    then Ok verb.Count
    else (if bytes_eq word (codes "molcountincmpt")
    then Ok verb.CountIn
    else (if bytes_eq word (codes "listmols")
    then Ok verb.List
    else (if bytes_eq word (codes "molpos")
    then Ok verb.Positions
    else (if bytes_eq word (codes "echo") then Ok verb.Echo else statistic_in word)))))

-- what the word COMMAND says is to be done
unfoldable pub verb_in : List ℕ → Result Verb Kind
verb_in word =
    if bytes_eq word (codes "killmol")
    then Ok verb.Kill
    else (if bytes_eq word (codes "killmolprob")
    then Ok verb.KillProb
    else (if bytes_eq word (codes "replacemol")
    then Ok verb.Replace
    else (if bytes_eq word (codes "pointsource")
    then Ok verb.PointSource
    else (if bytes_eq word (codes "stop") then Ok verb.Stop else printing_in word))))

-- `stop`
abbrev pub stop_in : Stated → ℕ → Result Act Kind
stop_in line at = passing (word_count (at + 1) line ∷ []) (Ok act.Stop)

-- the outlet of `molcountheader OUT`, `molcount OUT` and `listmols OUT`
unfoldable pub print_in : Known → Stated → ℕ → Result ℕ Kind
print_in known line at = passing (word_count (at + 2) line ∷ []) (outlet_in known.outputs (word_at line (at + 1)))

-- `molcountincmpt CMPT OUT`
unfoldable pub count_within_in : Known → Stated → ℕ → Result Act Kind
count_within_in known line at =
    passing (word_count (at + 3) line ∷ [])
    (with_value (number_in known.compartments (word_at line (at + 1))) (λ compartment.
    with_value (outlet_in known.outputs (word_at line (at + 2))) (λ out.
    Ok (act.CountIn compartment out))))

-- `molpos SPECIES+ OUT`
unfoldable pub positions_in : Known → Stated → ℕ → Result Act Kind
positions_in known line at =
    passing (word_count (at + 3) line ∷ [])
    (with_value (who_in known.species (word_at line (at + 1))) (λ who.
    with_value (outlet_in known.outputs (word_at line (at + 2))) (λ out.
    Ok (act.Positions who out))))

-- the outlet of an `echo`, and the bytes between the quotation marks of the rest of the line behind OUT
unfoldable pub echo_parts_in : Known → Stated → ℕ → Result (ℕ × List ℕ) Kind
echo_parts_in known line at =
    with_value (there (quoted_in (rest_behind (at + 1) line.part)) WrongWordCount) (λ bytes.
    with_value (outlet_in known.outputs (word_at line (at + 1))) (λ out. Ok (out, bytes)))

-- `echo OUT "TEXT"`: that there are the marks counts as the number of its words
unfoldable pub echo_in : Known → Stated → ℕ → Result Act Kind
echo_in known line at = with_value (echo_parts_in known line at) (λ parts. Ok (act.Echo parts.0 (spelled parts.1)))

-- `killmol SPECIES+`
unfoldable pub kill_in : Known → Stated → ℕ → Result Act Kind
kill_in known line at =
    passing (word_count (at + 2) line ∷ []) (with_value (who_in known.species (word_at line (at + 1))) (λ who. Ok (act.Kill who)))

-- `killmolprob SPECIES+ P`
unfoldable pub kill_prob_in : Known → Stated → ℕ → Result Act Kind
kill_prob_in known line at =
    passing (word_count (at + 3) line ∷ [])
    (with_value (who_in known.species (word_at line (at + 1))) (λ who.
    with_value (probability_in (word_at line (at + 2))) (λ p.
    Ok (act.KillProb who p))))

-- `replacemol SPECIES+ SPECIES P`
unfoldable pub replace_in : Known → Stated → ℕ → Result Act Kind
replace_in known line at =
    passing (word_count (at + 4) line ∷ [])
    (with_value (who_in known.species (word_at line (at + 1))) (λ who.
    with_value (species_word_in known.species (word_at line (at + 2))) (λ to.
    with_value (probability_in (word_at line (at + 3))) (λ p.
    Ok (act.Replace who to p)))))

-- the place between the walls whose coordinates stand from a place of the line on, one for each axis in use
unfoldable pub place_in : Axes → Stated → ℕ → Result Place Kind
place_in axes line first =
    with_value (read_axes coordinate_in (pos 1) first axes line) (λ coordinates. Ok (record { 0 = coordinates }))

-- `pointsource SPECIES N X ...`, with a coordinate for each axis in use
unfoldable pub point_source_in : Known → Stated → ℕ → Result Act Kind
point_source_in known line at =
    with_value (needs_dim known.axes) (λ dims.
    passing (word_count (at + 3 + dims) line ∷ [])
    (with_value (species_word_in known.species (word_at line (at + 1))) (λ species.
    with_value (count_in 0 most_molecules (word_at line (at + 2))) (λ n.
    with_value (place_in known.axes line (at + 3)) (λ place.
    Ok (act.PointSource species n place))))))

-- what the words of a line from a place on do, where the word there is this one
abbrev pub act_of : Verb → Known → Stated → ℕ → Result Act Kind
act_of verb.Stop known line at = stop_in line at
act_of verb.CountHeader known line at = with_value (print_in known line at) (λ out. Ok (act.CountHeader out))
act_of verb.Count known line at = with_value (print_in known line at) (λ out. Ok (act.Count out))
act_of verb.CountIn known line at = count_within_in known line at
act_of verb.List known line at = with_value (print_in known line at) (λ out. Ok (act.List out))
act_of verb.Positions known line at = positions_in known line at
act_of verb.CountSpace known line at = count_space_in known line at
act_of verb.Moments known line at = moments_in known line at
act_of verb.MeanSquare known line at = mean_square_in known line at
act_of verb.Radial known line at = radial_in known line at
act_of verb.Echo known line at = echo_in known line at
act_of verb.Kill known line at = kill_in known line at
act_of verb.KillProb known line at = kill_prob_in known line at
act_of verb.Replace known line at = replace_in known line at
act_of verb.PointSource known line at = point_source_in known line at

-- what the words of a line from a place on do
unfoldable pub act_in : Known → Stated → ℕ → Result Act Kind
act_in known line at = with_value (verb_in (word_at line at)) (λ verb. act_of verb known line at)
