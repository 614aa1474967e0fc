use Rattle.std.proofs.Common.{◌≡◌, ◌+◌, ◌<◌, length, drop, Ok, Err, sym, ap, subst, ◌∙◌, arith}
use Rattle.std.proofs.lemmas.Result.{err_from_is_err_and}
use Rattle.smol_edge.proofs.Telling.{Tells-same, Tells-weaker, Tells-then}
use Rattle.smol_text.specs.Lines.{raw_lines}
use Rattle.smol_macro.specs.declared.expand_fault.ExpandFault.TheVariants.{At}
use Rattle.smol_macro.specs.declared.expand_fault.MacroKind.TheVariants.{TooMany}
use Rattle.smol_macro.specs.Refusal.{RefusesLine}
use Rattle.smol_macro.specs.Expanding.{opens}
use Rattle.smol_macro.specs.Including.{lines_given, file_ended, file_read}
use Rattle.smol_macro.specs.Walking.{walked_of, progress_of, Reads, gives_line, gives_lines}
use Rattle.smol_macro.proofs.FilesWithin.{line_refused, line_asks-none, line_asks-refused, line_asks-given, file_refused, file_lines-refused}
use Rattle.smol_macro.proofs.Walks.{raw_lines-on, lines_given-ended, lines_given-past, on_way-next, on_way-fault, on_way-ended}
use Rattle.smol_macro.proofs.lines.+including.Goals as goal
use Rattle.smol_macro.proofs.lines.+including.Goals.{give_lines-then-loop-at-test+else-not-is_ended, give_lines-else-loop-at-test}

pub give_file-returns-in_err-bytes-clause-given : goal.give_file-returns-in_err-bytes-clause-given
give_file-returns-in_err-bytes-clause-given g t c =
    let fault = c.in_err-bytes.field-0.0 in
    let p = err_from_is_err_and c.from_residual.result c.from_residual.ensures.1 in
    rw (p.1, p.2)
    (Tells-weaker _ _ _ _
    (λ a b reads. file_refused c.args.files.now.names c.args.room c.args.name.now c.args.walk.now c.args.walk.now c.args.files.now c.enter.new.self fault a b reads)
    c.in_err-bytes.ensures.read)

pub give_file-returns-in_err-give_lines-clause-given : goal.give_file-returns-in_err-give_lines-clause-given
give_file-returns-in_err-give_lines-clause-given g t c =
    let fault = c.in_err-give_lines.field-0.0 in
    let held = c.enter.new.self in
    let inside = c.enter-around.new.self in
    let bytes = c.in_ok-bytes.bytes in
    let p = err_from_is_err_and c.from_residual-in_err-give_lines.result c.from_residual-in_err-give_lines.ensures.1 in
    rw (p.1, p.2)
    (Tells-then _ _ _ _ _ _
    (λ a b d reads lines.
    file_lines-refused c.args.files.now.names c.args.room c.args.name.now c.args.walk.now inside c.give_lines.new.walk c.give_lines.new.walk c.args.files.now held c.give_lines.new.files c.give_lines.new.files bytes fault a b d reads
    c.enter-around.ensures.entered c.in_ok-bytes.ensures.names c.in_ok-bytes.ensures.size
    (subst (λ items. Reads (Err fault) (gives_lines held.names c.args.room items) (progress_of inside held) (progress_of c.give_lines.new.walk c.give_lines.new.files) b d) c.deref.ensures.value lines))
    c.in_ok-bytes.ensures.read c.in_err-give_lines.ensures.given)

pub give_line-returns-in_err-name-clause-given : goal.give_line-returns-in_err-name-clause-given
give_line-returns-in_err-name-clause-given g t c =
    let p = err_from_is_err_and c.from_residual.result c.from_residual.ensures.1 in
    rw (p.1, p.2)
    (Tells-same (g.S.Source.told c.args.source.now) (Reads (Err c.in_err-name.field-0.0) (gives_line c.args.files.now.names c.args.room c.args.part.now) (progress_of c.args.walk.now c.args.files.now) (progress_of c.take.new.self c.args.files.now))
    (λ a. line_refused c.args.files.now.names c.args.room c.args.part.now c.args.walk.now c.take.new.self c.args.files.now c.args.files.now c.in_err-name.field-0.0 a c.in_err-name.ensures.refused))

pub give_line-returns-then-room-eq0-clause-given : goal.give_line-returns-then-room-eq0-clause-given
give_line-returns-then-room-eq0-clause-given g t c =
    let taken = rw c.in-Some.is at c.in_ok-name.ensures.taken in
    let same = rw c.in-Some.is at c.in_ok-name.ensures.asked in
    let lines : c.lines.result ≡ c.args.walk.now.output.lines = c.lines.ensures.lines ∙ ap (λ w. w.output.lines) same in
    rw lines
    (Tells-same (g.S.Source.told c.args.source.now) (Reads (Err (At (c.args.walk.now.output.lines + 1) TooMany)) (gives_line c.args.files.now.names c.args.room c.args.part.now) (progress_of c.args.walk.now c.args.files.now) (progress_of c.take.new.self c.args.files.now))
    (λ a. line_asks-none c.args.files.now.names c.args.room c.args.part.now c.in-Some.name.now c.args.walk.now c.take.new.self c.args.files.now c.args.files.now a taken c.if-room-eq0.true))

pub give_line-returns-in_err-give-clause-given : goal.give_line-returns-in_err-give-clause-given
give_line-returns-in_err-give-clause-given g t c =
    let taken = rw c.in-Some.is at c.in_ok-name.ensures.taken in
    let same = rw c.in-Some.is at c.in_ok-name.ensures.asked in
    let fault = c.in_err-give.field-0.0 in
    let some : 0 < c.args.room = omega arith in
    let p = err_from_is_err_and c.from_residual-in_err-give.result c.from_residual-in_err-give.ensures.1 in
    rw (p.1, p.2)
    (Tells-same (g.S.Source.told c.args.source.now) (Reads (Err fault) (gives_line c.args.files.now.names c.args.room c.args.part.now) (progress_of c.args.walk.now c.args.files.now) (progress_of c.give.new.self c.args.files.now))
    (λ a. line_asks-refused c.args.files.now.names c.args.room c.args.part.now c.in-Some.name.now c.args.walk.now c.give.new.self c.args.files.now c.args.files.now fault a taken some
    (subst (λ w. RefusesLine fault (opens (walked_of w) (walked_of w).open_ones)) same c.in_err-give.ensures.refused)))

pub give_line-returns-clause-given : goal.give_line-returns-clause-given
give_line-returns-clause-given g t c =
    let taken = rw c.in-Some.is at c.in_ok-name.ensures.taken in
    let same = rw c.in-Some.is at c.in_ok-name.ensures.asked in
    let some : 0 < c.args.room = omega arith in
    let begins = subst (λ w. opens (walked_of w) (walked_of w).open_ones ≡ Ok (walked_of c.give.new.self)) same c.in_ok-give.ensures.given in
    Tells-weaker _ _ _ _
    (λ a b reads. line_asks-given c.args.files.now.names c.args.room c.args.part.now c.in-Some.name.now c.args.walk.now c.give.new.self c.give_file.new.walk c.args.files.now c.give_file.new.files c.give_file.result a b taken some begins reads)
    c.give_file.ensures.given

pub give_lines-returns-in_err-give_line-clause-given : goal.give_lines-returns-in_err-give_line-clause-given
give_lines-returns-in_err-give_line-clause-given g t c =
    let bytes = c.args.bytes.now in
    let place = c.loop-at.at in
    let line = c.first_line-line.result.now in
    let rest = raw_lines-on bytes place line c.loop-at-test.true c.first_line-line.ensures.lines in
    let p = err_from_is_err_and c.from_residual.result c.from_residual.ensures.1 in
    rw (p.1, p.2)
    (Tells-then _ _ _ _ _ _
    (λ a b d way reads.
    on_way-fault c.args.files.now.names c.loop-at.files.names c.args.room bytes c.args.walk.now c.loop-at.walk c.give_line.new.walk c.give_line.new.walk c.args.files.now c.loop-at.files c.give_line.new.files c.give_line.new.files c.loop-at.standing c.next_standing-next.result (raw_lines (drop place bytes)) line c.part_read-part.result.now (raw_lines (drop (place + length line + 1) bytes)) c.in_err-give_line.field-0.0 a b d
    c.loop-at.invariant.names rest (sym c.is_ended.ensures ∙ c.if-not-is_ended.true) c.next_standing-next.ensures c.part_read-part.ensures way reads)
    c.loop-at.invariant.on_way c.in_err-give_line.ensures.given)

pub give_lines-loop-at-preserved : goal.give_lines-loop-at-preserved
give_lines-loop-at-preserved g t c =
    let bytes = c.args.bytes.now in
    let place = c.loop-at.at in
    let line = c.first_line-line.result.now in
    let rest = raw_lines-on bytes place line c.loop-at-test.true c.first_line-line.ensures.lines in
    record {
      names = c.in_ok-give_line.ensures.names ∙ c.loop-at.invariant.names;
      on_way =
          Tells-then _ _ _ _ _ _
          (λ a b d way reads.
          on_way-next c.args.files.now.names c.loop-at.files.names c.args.room bytes c.args.walk.now c.loop-at.walk c.give_line.new.walk c.args.files.now c.loop-at.files c.give_line.new.files c.loop-at.standing c.next_standing-next.result (raw_lines (drop place bytes)) line c.part_read-part.result.now (raw_lines (drop (place + length line + 1) bytes)) a b d
          c.loop-at.invariant.names rest (sym c.is_ended.ensures ∙ c.if-not-is_ended.true) c.next_standing-next.ensures c.part_read-part.ensures way reads)
          c.loop-at.invariant.on_way c.in_ok-give_line.ensures.given;
      no_fault = c.in_ok-give_line.ensures.no_fault ∙ c.loop-at.invariant.no_fault;
    }

pub give_lines-returns-clause-given : goal.give_lines-returns-clause-given
give_lines-returns-clause-given g t c =
    let names = c.args.files.now.names in
    let bytes = c.args.bytes.now in
    let standing = c.loop-at.standing in
    let rest = raw_lines (drop c.loop-at.at bytes) in
    Tells-weaker _ _ _ _
    (λ a b way.
    let last : lines_given names (file_read c.args.room a.contents names) standing (progress_of c.loop-at.walk c.loop-at.files b.asked) rest ≡ file_ended standing (progress_of c.loop-at.walk c.loop-at.files b.asked) =
    elim c.loop-at-test.branch [
      | give_lines-then-loop-at-test+else-not-is_ended w ↦ lines_given-ended names (file_read c.args.room a.contents names) standing (progress_of c.loop-at.walk c.loop-at.files b.asked) rest (sym w.is_ended.ensures ∙ w.if-not-is_ended.false)
      | give_lines-else-loop-at-test w ↦ lines_given-past names (file_read c.args.room a.contents names) bytes c.loop-at.at standing (progress_of c.loop-at.walk c.loop-at.files b.asked) w.loop-at-test.false
    ] in
    on_way-ended names c.args.room bytes c.args.walk.now c.loop-at.walk c.args.files.now c.loop-at.files standing rest c.end_lines.result a b last c.end_lines.ensures.ended c.end_lines.ensures.refused way)
    c.loop-at.invariant.on_way
