use Rattle.std.proofs.Common.{Bool, ◌≡◌, ◌+◌, ◌-◌, ◌<◌, ◌≤◌, ◌++◌, true, false, [], length, take, drop, Vec, Global, None, inl, inr, sym, refl, ap, ◌∙◌, arith}
use Rattle.std.proofs.lemmas.Result.{err_from_is_err_and}
use Rattle.std.specs.List.{list_all, position_or_len}
use Rattle.std.proofs.lemmas.List.{append-nil, length-take-le}
use Rattle.std.proofs.lemmas.List.Sums.{prefix_len-le-length}
use Rattle.smol_text.specs.declared.line.Line.{Line}
use Rattle.smol_text.specs.declared.line_state.LineState.TheVariants.{Open}
use Rattle.smol_text.specs.Lines.{is_line_feed, raw_lines, uncommented}
use Rattle.smol_text.specs.Reading.{bad_byte, open_comment, too_many_lines, first_word, is_allowed, standing_after}
use Rattle.smol_text.specs.Spans.{placed_at}
use Rattle.smol_text.proofs.Onward.{reads, last_fault, fault_from, fault_of, placed_from, fault_from-found, fault_from-next, placed_from-next, fault_from-past, fault_from-ended, placed_from-past, placed_from-ended, byte_is_told, fault_here-none, fault_here-many, fault_here-byte, reads-open, reads-closed, reads-commented, statements_of-fault, is_ok-statements_of, lines_of-placed_from}
use Rattle.smol_text.proofs.Steps.{position_or_len-rest, raw_lines-next, raw_lines-cut}
use Rattle.smol_text.proofs.split.find_lines.Goals as goal
use Rattle.smol_text.proofs.split.find_lines.Goals.{then-loop-at-test+else-not-is_ended, else-loop-at-test, then-is_open+then-is_open-2+in_ok-keep_statement, else-is_open, else-is_open-via-then-is_open+else-is_open-2, else-is_open-via-else-is_open}

pub loop-at-init : goal.loop-at-init
unfolding fault_of
loop-at-init c =
    let bytes = c.args.bytes.now in record {
      placed = ap (λ t. t ++ placed_from Open 0 0 (raw_lines bytes)) c.new-lines.ensures.items ∙ sym (lines_of-placed_from bytes);
      fault = refl;
      few = omega arith;
    }

pub returns-then-passed-eq-MOST_LINES-clause-refused : goal.returns-then-passed-eq-MOST_LINES-clause-refused
returns-then-passed-eq-MOST_LINES-clause-refused c =
    let bytes = c.args.bytes.now in
    let at = c.loop-at.at in
    let size = position_or_len is_line_feed (drop at bytes) in
    let line = take size (drop at bytes) in
    let rest = raw_lines-next bytes at size c.loop-at-test.true refl in
    let stands = sym c.is_ended.ensures ∙ c.if-not-is_ended.true in
    statements_of-fault bytes too_many_lines
    (fault_from-found bytes c.loop-at.standing c.loop-at.passed (raw_lines (drop at bytes)) line (raw_lines (drop (at + size + 1) bytes)) rest too_many_lines c.loop-at.invariant.fault
    (fault_here-many c.loop-at.standing c.loop-at.passed line stands c.if-passed-eq-MOST_LINES.true))

pub returns-in_err-keep_statement-clause-refused : goal.returns-in_err-keep_statement-clause-refused
returns-in_err-keep_statement-clause-refused c =
    let bytes = c.args.bytes.now in
    let standing = c.loop-at.standing in
    let passed = c.loop-at.passed in
    let at = c.loop-at.at in
    let size = c.unwrap_or.result in
    let line = take (at + size - at) (drop at bytes) in
    let fault = c.in_err-keep_statement.field-0.0 in
    let is_size = position_or_len-rest is_line_feed bytes at size c.first_line_feed.result c.first_line_feed.ensures c.unwrap_or.ensures in
    let rest = raw_lines-cut bytes at size c.loop-at-test.true is_size in
    let stands = sym c.is_ended.ensures ∙ c.if-not-is_ended.true in
    let few : passed < 65536 = omega arith in
    let read = reads-open standing c.after-next.result passed line (c.after-next.ensures ∙ ap (standing_after (passed + 1) standing) c.first_word_of.ensures) (sym c.is_open.ensures ∙ c.if-is_open.true) (sym c.is_open-then-is_open.ensures ∙ c.if-is_open-2.true) in
    let p = err_from_is_err_and c.from_residual.result c.from_residual.ensures.1 in
    rw (p.1, p.2)
    (byte_is_told fault (passed + 1) _ c.in_err-keep_statement.ensures.refused
    (λ other. statements_of-fault bytes (bad_byte (passed + 1))
    (fault_from-found bytes standing passed (raw_lines (drop at bytes)) line (raw_lines (drop (at + size + 1) bytes)) rest (bad_byte (passed + 1)) c.loop-at.invariant.fault
    (fault_here-byte standing passed line stands few read (c.in_err-keep_statement.ensures.not_allowed other)))))

pub loop-at-preserved : goal.loop-at-preserved
loop-at-preserved c =
    let bytes = c.args.bytes.now in
    let standing = c.loop-at.standing in
    let next = c.after-next.result in
    let passed = c.loop-at.passed in
    let at = c.loop-at.at in
    let size = c.unwrap_or.result in
    let line = take (at + size - at) (drop at bytes) in
    let before = c.loop-at.lines.items in
    let items = λ (v : Vec Line Global). v.items in
    let is_size = position_or_len-rest is_line_feed bytes at size c.first_line_feed.result c.first_line_feed.ensures c.unwrap_or.ensures in
    let rest = raw_lines-cut bytes at size c.loop-at-test.true is_size in
    let stands = sym c.is_ended.ensures ∙ c.if-not-is_ended.true in
    let few : passed < 65536 = omega arith in
    let is_next : next ≡ standing_after (passed + 1) standing (first_word line) = c.after-next.ensures ∙ ap (standing_after (passed + 1) standing) c.first_word_of.ensures in
    let place = λ (read : Bool). placed_at read (passed + 1) at line in
    let kept : (c.if-is_open.lines.items ≡ before ++ place (reads standing passed line)) × (reads standing passed line ≡ true → list_all is_allowed (uncommented line) ≡ true) =
    elim c.if-is_open.branch [
      | then-is_open+then-is_open-2+in_ok-keep_statement w ↦
          let read = reads-open standing next passed line is_next (sym c.is_open.ensures ∙ w.if-is_open.true) (sym w.is_open-then-is_open.ensures ∙ w.if-is_open-2.true) in
          (ap items w.lines-is ∙ w.in_ok-keep_statement.ensures.kept ∙ ap (λ b. before ++ place b) (sym read), λ _. w.in_ok-keep_statement.ensures.allowed)
      | else-is_open w ↦
          let closed : reads standing passed line ≡ false =
          elim w.else-is_open.branch [
            | else-is_open-via-then-is_open+else-is_open-2 v ↦ reads-closed standing next passed line is_next (sym v.is_open-then-is_open.ensures ∙ v.if-is_open-2.false)
            | else-is_open-via-else-is_open v ↦ reads-commented standing passed line (sym c.is_open.ensures ∙ v.if-is_open.false)
          ] in
          (ap items w.lines-is ∙ sym (ap (λ b. before ++ place b) closed ∙ append-nil before), λ read. absurd (let same : true ≡ false = sym read ∙ closed in cc))
    ] in
    let fine = fault_here-none standing passed line stands few kept.1 in
    let most : position_or_len is_line_feed (drop at bytes) ≤ length (drop at bytes) = prefix_len-le-length _ (drop at bytes) in
    let cut : at + size - at ≡ size = omega arith in
    let line_size : length line ≡ size = ap (λ k. length (take k (drop at bytes))) cut ∙ length-take-le size (drop at bytes) (omega arith) in
    let after_line : at + length line + 1 ≡ at + size + 1 = omega arith in
    let further = raw_lines (drop (at + size + 1) bytes) in record {
      placed = ap (λ s. c.if-is_open.lines.items ++ placed_from s (passed + 1) (at + size + 1) further) is_next
          ∙ ap (λ k. c.if-is_open.lines.items ++ placed_from (standing_after (passed + 1) standing (first_word line)) (passed + 1) k further) (sym after_line)
          ∙ placed_from-next bytes standing passed (raw_lines (drop at bytes)) line further rest at before c.if-is_open.lines.items c.loop-at.invariant.placed kept.0;
      fault = ap (λ s. fault_from s (passed + 1) further) is_next
          ∙ fault_from-next bytes standing passed (raw_lines (drop at bytes)) line further rest c.loop-at.invariant.fault fine;
      few = omega arith;
    }

pub returns-in-Commented-clause-refused : goal.returns-in-Commented-clause-refused
returns-in-Commented-clause-refused c =
    let bytes = c.args.bytes.now in
    let standing = c.loop-at.standing in
    let passed = c.loop-at.passed in
    let at = c.loop-at.at in
    let last : fault_from standing passed (raw_lines (drop at bytes)) ≡ last_fault standing =
    elim c.loop-at-test.branch [
      | then-loop-at-test+else-not-is_ended w ↦ fault_from-ended standing passed (raw_lines (drop at bytes)) (sym w.is_ended.ensures ∙ w.if-not-is_ended.false)
      | else-loop-at-test w ↦ fault_from-past bytes standing passed at w.loop-at-test.false
    ] in
    statements_of-fault bytes (open_comment c.in-Commented.line) (sym c.loop-at.invariant.fault ∙ last ∙ ap last_fault c.in-Commented.is)

pub returns-in-Open : goal.returns-in-Open
returns-in-Open c =
    let bytes = c.args.bytes.now in
    let standing = c.loop-at.standing in
    let passed = c.loop-at.passed in
    let at = c.loop-at.at in
    let before = c.loop-at.lines.items in
    let last : fault_from standing passed (raw_lines (drop at bytes)) ≡ last_fault standing =
    elim c.loop-at-test.branch [
      | then-loop-at-test+else-not-is_ended w ↦ fault_from-ended standing passed (raw_lines (drop at bytes)) (sym w.is_ended.ensures ∙ w.if-not-is_ended.false)
      | else-loop-at-test w ↦ fault_from-past bytes standing passed at w.loop-at-test.false
    ] in
    let none : last_fault standing ≡ None = elim c.in-Open.is [ inl is ↦ ap last_fault is | inr is ↦ ap last_fault is ] in
    let no_more : placed_from standing passed at (raw_lines (drop at bytes)) ≡ [] =
    elim c.loop-at-test.branch [
      | then-loop-at-test+else-not-is_ended w ↦ placed_from-ended standing passed at (raw_lines (drop at bytes)) (sym w.is_ended.ensures ∙ w.if-not-is_ended.false)
      | else-loop-at-test w ↦ placed_from-past bytes standing passed at w.loop-at-test.false
    ] in record {
      lines = sym (append-nil before) ∙ ap (λ t. before ++ t) (sym no_more) ∙ c.loop-at.invariant.placed;
      accepted = is_ok-statements_of bytes (sym c.loop-at.invariant.fault ∙ last ∙ none);
      refused = tt;
    }
