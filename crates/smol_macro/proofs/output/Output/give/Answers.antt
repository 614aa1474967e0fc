use Rattle.std.proofs.Common.{◌++◌, ap, sym, ◌∙◌, arith}
use Rattle.smol_macro.specs.Given.{Given, with_line}
use Rattle.smol_macro.proofs.Lengths.{with_line-long, with_line-fits}
use Rattle.smol_macro.proofs.output.Output.give.Goals as goal

pub returns-then-len-feed-gt-MOST_BYTES-clause-refused : goal.returns-then-len-feed-gt-MOST_BYTES-clause-refused
returns-then-len-feed-gt-MOST_BYTES-clause-refused c =
    let given : Given = record { text = c.self.inside.bytes.items; lines = c.self.inside.lines } in
    ap (λ g. with_line g c.args.line.now) (sym c.self.view_is)
    ∙ with_line-long given c.feed_before-feed.result.now c.args.line.now c.feed_before-feed.ensures (omega (arith, c.if-len-feed-gt-MOST_BYTES.true, c.len.ensures, c.self.inside.bytes.ok))

pub returns-clause-given : goal.returns-clause-given
returns-clause-given c =
    let given : Given = record { text = c.self.inside.bytes.items; lines = c.self.inside.lines } in
    ap (λ g. with_line g c.args.line.now) (sym c.self.view_is)
    ∙ with_line-fits given c.feed_before-feed.result.now c.args.line.now c.extend_from_slice-2.new.self.items c.feed_before-feed.ensures
    (omega (arith, c.if-len-feed-gt-MOST_BYTES.false, c.len.ensures, c.self.inside.bytes.ok))
    (c.in_ok-extend_from_slice-2.ensures.items ∙ ap (λ t. t ++ c.args.line.now) c.in_ok-extend_from_slice.ensures.items)
