use Rattle.std.proofs.Common.{◌≡◌, ◌+◌, ◌∷◌, drop, slice_get, Some, ap, ◌∙◌, rules}
use Rattle.std.proofs.lemmas.List.{drop_more}
use Rattle.std.proofs.lemmas.Option.{get_or_from_slice_get}
use Rattle.smol_text.specs.Spans.{stated_lines}
use Rattle.smol_text.proofs.WordBytes.{AllSeen-statements_of}
use Rattle.smol_text.proofs.text.Text.line.Goals as goal
use Rattle.smol_text.proofs.text.Text.line.Goals.{After-new}

-- the statement at the index is the line
returned : (c : After-new) → slice_get (stated_lines c.args.self.now) c.args.index ≡ Some c.new.result
returned c = search rules

pub returns-clause-is_next : goal.returns-clause-is_next
returns-clause-is_next c =
    let stated = stated_lines c.args.self.now in
    drop_more stated c.args.index c.new.result c.requires
    ∙ ap (λ s. s ∷ drop (c.args.index + 1) stated) (get_or_from_slice_get stated c.args.index c.new.result c.new.result (returned c))

pub returns-clause-seen : goal.returns-clause-seen
returns-clause-seen c =
    let stated = stated_lines c.args.self.now in
    let all = AllSeen-statements_of c.args.self.now.bytes stated c.spelled-line.ensures.statements in
    (rw (get_or_from_slice_get stated c.args.index c.new.result c.new.result (returned c)) at (all c.args.index c.new.result c.requires))
