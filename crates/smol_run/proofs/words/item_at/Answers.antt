use Rattle.std.proofs.Common.{◌≡◌, ◌+◌, ◌∙◌, sym, length, map, Some, refl, string_bytes}
use Rattle.std.specs.Prelude.{slice_get}
use Rattle.std.proofs.lemmas.Option.{slice_get_read}
use Rattle.smol_run.proofs.Items.{word_at, StandsAt-name, StandsAt-two}
use Rattle.smol_run.proofs.words.item_at.Goals as goal

-- the word is a name
pub returns-then-is_file_name : goal.returns-then-is_file_name
returns-then-is_file_name c =
    let words = c.args.words.now in
    let is : slice_get words c.args.index ≡ Some c.index-words-index.result =
    slice_get_read words (length words) c.args.index c.index-words-index.result refl c.requires c.index-words-index.is in
    StandsAt-name (map string_bytes words) c.args.index (string_bytes c.index-words-index.result)
    (word_at words c.args.index c.index-words-index.result is)
    (rw (← c.as_bytes-word.ensures.value) (sym c.is_file_name.ensures ∙ c.if-is_file_name.true))

-- the word and the one behind it are an item, or there is none
pub returns-in-Some : goal.returns-in-Some
returns-in-Some c =
    let words = c.args.words.now in
    let is : slice_get words c.args.index ≡ Some c.index-words-index.result =
    slice_get_read words (length words) c.args.index c.index-words-index.result refl c.requires c.index-words-index.is in
    let lookup = c.in-Some.ensures.lookup in
    let next : slice_get words (c.args.index + 1) ≡ Some c.in-Some.number.now =
    slice_get_read words (length words) (c.args.index + 1) c.in-Some.number.now refl lookup.3.0 lookup.1 in
    StandsAt-two (map string_bytes words) c.args.index (string_bytes c.index-words-index.result) (string_bytes c.in-Some.number.now) c.item_of_two.result
    (word_at words c.args.index c.index-words-index.result is) (word_at words (c.args.index + 1) c.in-Some.number.now next)
    (rw (← c.as_bytes-word.ensures.value) (sym c.is_file_name.ensures ∙ c.if-is_file_name.false))
    (rw (← c.as_bytes-word.ensures.value, ← c.as_bytes.ensures.value) c.item_of_two.ensures)
