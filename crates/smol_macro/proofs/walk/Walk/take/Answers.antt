use Rattle.std.proofs.Common.{sym, ◌∙◌}
use Rattle.smol_text.specs.Lines.{words_in}
use Rattle.smol_macro.specs.Walking.{walked_of}
use Rattle.smol_macro.proofs.Names.{words_are_ascii, asked_are_ascii}
use Rattle.smol_macro.proofs.walk.Walk.take.Goals as goal

pub named-requires : goal.named-requires
named-requires c =
    let part = c.args.part.now in
    asked_are_ascii (walked_of c.args.self.now) (words_in part) (words_in c.in-Some.words.now) c.in-Some.ensures
    (words_are_ascii part (sym c.are_allowed.ensures ∙ c.if-not-are_allowed.false))
