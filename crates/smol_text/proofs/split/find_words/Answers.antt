use Rattle.std.proofs.Common.{◌≡◌, ◌+◌, ◌++◌, take, drop, Vec, Global, sym, ap, ◌∙◌, arith}
use Rattle.smol_text.specs.declared.line.Span.{Span}
use Rattle.std.proofs.lemmas.List.{append-nil}
use Rattle.smol_text.specs.Lines.{separates}
use Rattle.smol_text.specs.Spans.{place_of_piece}
use Rattle.smol_text.proofs.Steps.{position_or_len-rest, places_of_pieces-step, place_of_piece-between}
use Rattle.smol_text.proofs.split.find_words.Goals as goal
use Rattle.smol_text.proofs.split.find_words.Goals.{then-start-end+in_ok-push, else-start-end}

pub loop-start-preserved : goal.loop-start-preserved
loop-start-preserved c =
    let line = c.args.part.now in
    let before = c.loop-start.spans.items in
    let items = λ (v : Vec Span Global). v.items in
    let is_n = position_or_len-rest separates line c.loop-start.start c.unwrap_or.result c.first_separator.result c.first_separator.ensures c.unwrap_or.ensures in
    places_of_pieces-step line c.args.at c.loop-start.start c.unwrap_or.result c.loop-start.spans.items c.if-start-end.spans.items is_n c.loop-start.invariant
    (elim c.if-start-end.branch [
      | then-start-end+in_ok-push w ↦
          ap items w.spans-is ∙ w.in_ok-push.ensures.items
          ∙ ap (λ t. before ++ t) (sym (place_of_piece-between line c.args.at c.loop-start.start c.unwrap_or.result (omega arith) is_n))
      | else-start-end w ↦
          let none : c.unwrap_or.result ≡ 0 = omega arith in
          ap items w.spans-is
          ∙ sym (ap (λ k. before ++ place_of_piece (c.args.at + c.loop-start.start) (take k (drop c.loop-start.start line))) none ∙ append-nil before)
    ])
