-- The text that is made is accepted.
use Rattle.std.proofs.Common.{◌≡◌, ℕ, ◌+◌, ◌-◌, ◌/◌, ◌≤◌, ◌++◌, List, [], ◌∷◌, Result, Ok, Err, None, Some, true, false, length, ◌==◌, IsOk, refl, sym, subst, ap, ◌∙◌, arith}
use Rattle.smol_line.specs.Checks.{unless, with_value, word_count}
use Rattle.smol_line.specs.Fault.{Fault, at_line}
use Rattle.smol_types.specs.declared.placing.Given.{Given}
use Rattle.smol_types.specs.declared.placing.Given.TheVariants.{Any}
use Rattle.smol_types.specs.declared.placing.Placing.TheVariants.{Mol}
use Rattle.std.specs.Prelude.{codes, is_ok, nat_le, nat_lt, slice_index_or}
use Rattle.std.proofs.lemmas.Bool.{le-leb, le-ltb}
use Rattle.std.specs.Result.{result_unwrap_or}
use Rattle.std.specs.Fmt.{decimal, digits}
use Rattle.smol_text.specs.Reading.{Stated, statements_of}
use Rattle.smol_text.specs.Lines.{has_bytes, words_in}
use Rattle.smol_num.specs.Decimal.{decimal_of}
use Rattle.smol_blocks.specs.Statement.{statement_of}
use Rattle.smol_blocks.specs.Surface.{surface_line_in, surface_of}
use Rattle.smol_blocks.specs.Faces.{faces_named}
use Rattle.smol_blocks.specs.Action.{action_named, action_in, new_in}
use Rattle.smol_blocks.specs.Blocks.{block_line_in, block_of, opening_line, panels_in, start_surface_in}
use Rattle.smol_blocks.specs.Panel.{rect_in, shape_in, default_name, name_in, panel_in}
use Rattle.smol_blocks.specs.BlockName.{block_name_in}
use Rattle.smol_line.specs.Axes.{needs_walls, read_axes}
use Rattle.smol_line.specs.Axis.{axis_named}
use Rattle.smol_reactions.specs.Content.{chances_of}
use Rattle.smol_reactions.specs.Reaction.{sides_in, reaction_in}
use Rattle.smol_reactions.specs.BindingRadius.{binding_radius_in}
use Rattle.smol_reactions.specs.Arrangement.{left_in, right_in, arrangement_in}
use Rattle.smol_cmd.specs.Cmd.{cmd_in}
use Rattle.smol_cmd.specs.Act.{act_in, verb_in, print_in, printing_in}
use Rattle.smol_cmd.specs.Outlet.{outlet_in}
use Rattle.smol_cmd.specs.When.{timing_in, due_in, when_in}
use Rattle.smol_cmd.specs.Test.{condition_in, test_in}
use Rattle.smol_config.specs.Said.{Said, seeds, places}
use Rattle.smol_config.specs.Axes.{axes_of}
use Rattle.smol_config.specs.Blocks.{blocks_said, stands_outside}
use Rattle.smol_config.specs.Mol.{given_in, given_place_in, mol_in}
use Rattle.smol_config.specs.RandomSeed.{most_seed, random_seed_in, random_seed_of}
use Rattle.smol_config.specs.Species.{species_in, species_of}
use Rattle.smol_line.specs.declared.axes.Axes.{Axes}
use Rattle.smol_line.specs.declared.axes.Bounds.{Bounds}
use Rattle.smol_types.specs.declared.fault.Kind.TheVariants.{WrongWordCount}
use Rattle.smol_line.specs.Numbers.{count_in}
use Rattle.smol_line.specs.Words.{word_at}
use Rattle.smol_line.specs.SpeciesWord.{species_word_in}
use Rattle.smol_types.specs.Limits.{most_molecules}
use Rattle.std.specs.List.{list_all}
use Rattle.std.specs.Str.{bytes_eq}
use Rattle.smol_config.specs.declared.whole.Needed.{Needed}
use Rattle.smol_config.specs.Content.{content_of}
use Rattle.smol_config.specs.Reactions.{reactions_said}
use Rattle.smol_config.specs.Whole.{bounded, closed_in, has_chances, has_difstep, has_few_steps, has_room, has_words, needed_from, needed_in, whole_in}
use Rattle.smol_config.specs.Reader.{config_of, line_in, statement_in, read_from}
use Rattle.smol_config.specs.Dim.{dim_in}
use Rattle.smol_config.specs.Motion.{difstep_in}
use Rattle.smol_config.specs.Times.{given_time_in, time_step_in}
use Rattle.smol_config.specs.MaxMol.{max_mol_in}
use Rattle.smol_config.specs.Boundaries.{letter_in, bounds_in, boundaries_in}
use Rattle.smol_run.specs.Generated.{binding_lines, box_lines, ended, generated, generated_lines, mol_line, space_lines}
use Rattle.smol_run.proofs.MadeLines.{count_in-decimal, decimal-no_time, is_seen, mol_plain, mol_words, seed_plain, seed_words}
use Rattle.smol_run.proofs.PlainText.{ArePlain, length-ended, numbered, plain_behind, statements_of-ended}

-- lines that are read behind others
read_from-append : (before : List Said) (lines more : List Stated)
    → read_from before (lines ++ more) ≡ with_value (read_from before lines) (λ said. read_from said more)
read_from-append before [] more = refl
read_from-append before (line ∷ lines) more =
    by_answer (at_line line.number (line_in before line)) (λ said. read_from-append (said ∷ before) lines more)
  where
    by_answer : (answer : Result Said Fault)
        → ((said : Said) → read_from (said ∷ before) (lines ++ more) ≡ with_value (read_from (said ∷ before) lines) (λ said. read_from said more))
        → with_value answer (λ said. read_from (said ∷ before) (lines ++ more))
        ≡ with_value (with_value answer (λ said. read_from (said ∷ before) lines)) (λ said. read_from said more)
    by_answer (Ok said) rest = rest said
    by_answer (Err fault) rest = refl

read_behind : (before after : List Said) (lines more : List Stated) → read_from before lines ≡ Ok after
    → read_from before (lines ++ more) ≡ read_from after more
read_behind before after lines more is =
    read_from-append before lines more ∙ ap (λ answer. with_value answer (λ said. read_from said more)) is

read_line : (before : List Said) (line : Stated) (said : Said) (more : List Stated) → line_in before line ≡ Ok said
    → read_from before (line ∷ more) ≡ read_from (said ∷ before) more
read_line before line said more is = ap (λ answer. with_value (at_line line.number answer) (λ said. read_from (said ∷ before) more)) is

-- what lines say that are read behind others
abbrev said_after : List Said → List Stated → List Said
said_after before lines = result_unwrap_or (read_from before lines) before

abbrev space_said : List Said
space_said = said_after [] (numbered 1 space_lines)

abbrev box_said : ℕ → List Said
box_said n = said_after (seeds n ∷ space_said) (numbered 11 box_lines)

-- three coordinates that are drawn
abbrev anywhere : List Given
anywhere = Any ∷ Any ∷ Any ∷ []

-- the names of the species
abbrev three_names : List (List ℕ)
three_names = codes "A" ∷ codes "B" ∷ codes "C" ∷ []

abbrev placed_said : ℕ → List Said
placed_said n = places (Mol (n - n / 2) 1 anywhere) ∷ places (Mol (n / 2) 0 anywhere) ∷ box_said n

abbrev all_said : ℕ → List Said
all_said n = said_after (placed_said n) (numbered 25 binding_lines)

-- the line of the seed, by its words
seed_read : (before : List Said) (line : Stated) (n : ℕ) → word_at line 0 ≡ codes "random_seed" → stands_outside before ≡ true → random_seed_of before ≡ None
    → word_count 2 line ≡ None → bytes_eq (word_at line 1) (codes "time") ≡ false → count_in 0 most_seed (word_at line 1) ≡ Ok n
    → line_in before line ≡ Ok (seeds n)
unfolding line_in statement_in statement_of random_seed_in
seed_read before line n first outside none count other is = rw (first, outside, none, count, other, is) refl

-- a line of molecules that are drawn anywhere, by its words
mol_read : (before : List Said) (line : Stated) (n index : ℕ) → word_at line 0 ≡ codes "mol" → stands_outside before ≡ true
    → needs_walls (axes_of before) ≡ Ok 3 → word_count 6 line ≡ None → count_in 0 most_molecules (word_at line 1) ≡ Ok n
    → species_word_in (species_of before) (word_at line 2) ≡ Ok index → given_place_in (axes_of before) line ≡ Ok anywhere
    → line_in before line ≡ Ok (places (Mol n index anywhere))
unfolding line_in statement_in statement_of mol_in
mol_read before line n index first outside walled count is named at = rw (first, outside, walled, count, is, named, at) refl

-- a line asks for three coordinates that are drawn
pub record IsDrawn (line : Stated) : Type 0 where
  pub x : word_at line 3 ≡ codes "u"
  pub y : word_at line 4 ≡ codes "u"
  pub z : word_at line 5 ≡ codes "u"

-- on three axes that have walls it gets them
drawn_anywhere : (axes : Axes) (x y z : Bounds) (line : Stated) → axes.x ≡ Some x → axes.y ≡ Some y → axes.z ≡ Some z → IsDrawn line
    → given_place_in axes line ≡ Ok anywhere
unfolding read_axes given_in
drawn_anywhere axes x y z line x_is y_is z_is drawn = rw (x_is, y_is, z_is, drawn.x, drawn.y, drawn.z) refl

-- the lines of the space are read, and behind them no block is open, and no seed is given
space_facts : (read_from [] (numbered 1 space_lines) ≡ Ok space_said) × (stands_outside space_said ≡ true) × (random_seed_of space_said ≡ None)
unfolding line_in statement_in statement_of words_in dim_in species_in difstep_in max_mol_in letter_in bounds_in boundaries_in decimal_of axis_named read_axes
space_facts = (refl, refl, refl)

-- those of the box are read, and behind them no block is open, three axes have walls, coordinates may be drawn, and there are three
-- species
pub record AreRead (n : ℕ) : Type 0 where
  pub reads : read_from (seeds n ∷ space_said) (numbered 11 box_lines) ≡ Ok (box_said n)
  pub outside : stands_outside (box_said n) ≡ true
  pub walled : needs_walls (axes_of (box_said n)) ≡ Ok 3
  pub drawn : (line : Stated) → IsDrawn line → given_place_in (axes_of (box_said n)) line ≡ Ok anywhere
  pub names : species_of (box_said n) ≡ three_names

box_facts : (n : ℕ) → AreRead n
unfolding line_in statement_in statement_of words_in dim_in species_in difstep_in max_mol_in letter_in bounds_in boundaries_in decimal_of axis_named read_axes surface_line_in surface_of faces_named action_named action_in new_in panels_in start_surface_in block_line_in rect_in shape_in default_name name_in panel_in block_name_in given_time_in time_step_in digits
box_facts n = record {
  reads = refl;
  outside = refl;
  walled = refl;
  drawn = λ line drawn. drawn_anywhere (axes_of (box_said n)) _ _ _ line refl refl refl drawn;
  names = refl;
}

-- lines say a configuration whose blocks are closed, which has what it needs, and in which nothing is too much
whole_accepted : (before : List Said) (needed : Needed) → opening_line (block_of (blocks_said before)) ≡ None → needed_in before ≡ Ok needed
    → has_few_steps (content_of needed before) ≡ true → list_all has_difstep (content_of needed before).species ≡ true
    → has_chances (chances_of (reactions_said before)) (content_of needed before) ≡ true → has_words (content_of needed before) ≡ true
    → has_room (content_of needed before) ≡ true → whole_in before ≡ Ok (content_of needed before)
unfolding whole_in closed_in bounded
whole_accepted before needed closed is steps species chances words room = rw (closed, is, steps, species, chances, words, room) refl

-- there is room for the molecules of both lines
room_for : (n : ℕ) → n ≤ 1000000 → nat_le (0 + n / 2 + (n - n / 2)) 1000000 ≡ true
room_for n few = le-leb (0 + n / 2 + (n - n / 2)) 1000000 (omega arith)

-- the last lines are read, and all lines say a configuration
binding_facts : (n : ℕ) → n ≤ 1000000
    → (read_from (placed_said n) (numbered 25 binding_lines) ≡ Ok (all_said n)) × IsOk (whole_in (all_said n))
unfolding line_in statement_in statement_of words_in dim_in species_in difstep_in max_mol_in letter_in bounds_in boundaries_in decimal_of axis_named read_axes surface_line_in surface_of faces_named action_named action_in new_in panels_in start_surface_in block_line_in rect_in shape_in default_name name_in panel_in block_name_in given_time_in time_step_in cmd_in act_in verb_in print_in printing_in outlet_in timing_in due_in when_in condition_in test_in sides_in reaction_in binding_radius_in left_in right_in arrangement_in needed_from content_of digits
binding_facts n few = (refl, ap is_ok (whole_accepted (all_said n) _ refl refl refl refl refl refl (room_for n few)))

-- the line of the seed, and those of the molecules
abbrev seed_stated : ℕ → Stated
seed_stated n = record { number = 10; part = codes "random_seed " ++ decimal n }

abbrev mol_stated : ℕ → ℕ → List ℕ → Stated
mol_stated number m species = record { number = number; part = mol_line m species }

seed_reads : (n : ℕ) → n ≤ 1000000 → line_in space_said (seed_stated n) ≡ Ok (seeds n)
seed_reads n few =
    let spelled = seed_words n few in
    seed_read space_said (seed_stated n) n (ap (λ words. slice_index_or words 0 []) spelled) space_facts.1 space_facts.2
    (ap (λ words. unless (length words == 2) WrongWordCount) spelled)
    (ap (λ words. bytes_eq (slice_index_or words 1 []) (codes "time")) spelled ∙ decimal-no_time n few)
    (ap (λ words. count_in 0 most_seed (slice_index_or words 1 [])) spelled ∙ count_in-decimal 0 most_seed n (omega arith) (omega arith) few)

mol_reads : (before : List Said) (number m index : ℕ) (species : List ℕ) → list_all is_seen species ≡ true → has_bytes species ≡ true → m ≤ 1000000
    → stands_outside before ≡ true → needs_walls (axes_of before) ≡ Ok 3 → species_of before ≡ three_names
    → ((line : Stated) → IsDrawn line → given_place_in (axes_of before) line ≡ Ok anywhere) → species_word_in three_names species ≡ Ok index
    → line_in before (mol_stated number m species) ≡ Ok (places (Mol m index anywhere))
mol_reads before number m index species seen some few outside walled names drawn named =
    let spelled = mol_words m species seen some few in
    mol_read before (mol_stated number m species) m index (ap (λ words. slice_index_or words 0 []) spelled) outside walled
    (ap (λ words. unless (length words == 6) WrongWordCount) spelled)
    (ap (λ words. count_in 0 most_molecules (slice_index_or words 1 [])) spelled ∙ count_in-decimal 0 most_molecules m (omega arith) few few)
    (ap (λ all. species_word_in all (word_at (mol_stated number m species) 2)) names
    ∙ ap (λ words. species_word_in three_names (slice_index_or words 2 [])) spelled ∙ named)
    (drawn (mol_stated number m species) (record {
      x = ap (λ words. slice_index_or words 3 []) spelled;
      y = ap (λ words. slice_index_or words 4 []) spelled;
      z = ap (λ words. slice_index_or words 5 []) spelled;
    }))

-- all lines are read
made_read : (n : ℕ) → n ≤ 1000000 → read_from [] (numbered 1 (generated_lines n)) ≡ Ok (all_said n)
made_read n few =
    let half : n / 2 ≤ 1000000 = omega arith in
    let rest : n - n / 2 ≤ 1000000 = omega arith in
    let first = mol_stated 23 (n / 2) (codes "A") in
    let second = mol_stated 24 (n - n / 2) (codes "B") in
    let last = numbered 25 binding_lines in
    let box = box_facts n in
    read_behind [] space_said (numbered 1 space_lines) (seed_stated n ∷ (numbered 11 box_lines ++ (first ∷ second ∷ last))) space_facts.0
    ∙ read_line space_said (seed_stated n) (seeds n) (numbered 11 box_lines ++ (first ∷ second ∷ last)) (seed_reads n few)
    ∙ read_behind (seeds n ∷ space_said) (box_said n) (numbered 11 box_lines) (first ∷ second ∷ last) box.reads
    ∙ read_line (box_said n) first (places (Mol (n / 2) 0 anywhere)) (second ∷ last)
    (mol_reads (box_said n) 23 (n / 2) 0 (codes "A") refl refl half box.outside box.walled box.names box.drawn refl)
    ∙ read_line (places (Mol (n / 2) 0 anywhere) ∷ box_said n) second (places (Mol (n - n / 2) 1 anywhere)) last
    (mol_reads (places (Mol (n / 2) 0 anywhere) ∷ box_said n) 24 (n - n / 2) 1 (codes "B") refl refl rest box.outside box.walled box.names box.drawn refl)
    ∙ (binding_facts n few).0

-- a text that isn't too long says what its lines say together
config_of-lines : (text : List ℕ) (lines : List Stated) (said : List Said) → length text ≤ 4194304 → statements_of text ≡ Ok lines
    → read_from [] lines ≡ Ok said → config_of text ≡ whole_in said
unfolding config_of
config_of-lines text lines said short stated read =
    let within : nat_lt 4194304 (length text) ≡ false = le-ltb 4194304 (length text) short in
    rw (within, stated, read) refl

-- the lines of the text that is made are plain
made_plain : (n : ℕ) → n ≤ 1000000 → ArePlain (generated_lines n)
unfolding words_in
made_plain n few =
    let half : n / 2 ≤ 1000000 = omega arith in
    let rest : n - n / 2 ≤ 1000000 = omega arith in
    let seed = codes "random_seed " ++ decimal n in
    let first = mol_line (n / 2) (codes "A") in
    let second = mol_line (n - n / 2) (codes "B") in
    let last : ArePlain (first ∷ second ∷ binding_lines) = (
      mol_plain (n / 2) (codes "A") refl refl refl (omega arith) half,
      (mol_plain (n - n / 2) (codes "B") refl refl refl (omega arith) rest, plain_behind binding_lines [] refl tt),
    ) in
    let middle : ArePlain (seed ∷ (box_lines ++ (first ∷ second ∷ binding_lines))) =
    (seed_plain n few, plain_behind box_lines (first ∷ second ∷ binding_lines) refl last) in
    plain_behind space_lines (seed ∷ (box_lines ++ (first ∷ second ∷ binding_lines))) refl middle

-- the text that is made is accepted
pub made_is_accepted : (n : ℕ) → n ≤ 1000000 → IsOk (config_of (generated n))
unfolding generated
made_is_accepted n few =
    let lines = generated_lines n in
    let plain = made_plain n few in
    let short : length (ended lines) ≤ 4194304 = omega (arith, length-ended lines plain) in
    subst IsOk
    (sym (config_of-lines (ended lines) (numbered 1 lines) (all_said n) short (statements_of-ended lines plain (omega arith)) (made_read n few)))
    (binding_facts n few).1
