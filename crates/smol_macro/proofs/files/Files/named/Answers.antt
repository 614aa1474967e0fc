use Rattle.std.proofs.Common.{rules}
use Rattle.smol_text.specs.Lines.{words_in}
use Rattle.smol_macro.proofs.Names.{only_is_text}
use Rattle.smol_macro.proofs.files.Files.named.Goals as goal

pub unwrap-name-requires : goal.unwrap-name-requires
unwrap-name-requires c =
    let text = only_is_text (words_in c.args.words.now) c.in-Some.word.now c.requires c.in-Some.ensures in
    search (rules, text)
