use Rattle.std.proofs.Common.{◌++◌, length, unwrap_or, ap, ◌∙◌, arith}
use Rattle.smol_text.specs.Lines.{separates}
use Rattle.smol_text.proofs.Pieces.{unwrap_or-position}
use Rattle.smol_macro.specs.Kept.{meanings_of}
use Rattle.smol_macro.proofs.Pieces.{too_long, last_piece, next_piece}
use Rattle.smol_macro.proofs.replace.replace_names.Goals as goal

pub returns-then-len-meaning-gt-MOST_BYTES-clause-refused : goal.returns-then-len-meaning-gt-MOST_BYTES-clause-refused
returns-then-len-meaning-gt-MOST_BYTES-clause-refused c =
    let rest = c.loop-rest.rest.now in
    let is_size = c.unwrap_or-size.ensures ∙ ap (λ o. unwrap_or o (length rest)) c.first_separator.ensures ∙ unwrap_or-position separates rest in
    too_long (meanings_of c.args.definitions.now) c.loop-rest.line.items rest c.args.part.now c.unwrap_or-size.result c.loop-rest.invariant.same is_size
    (omega (arith, c.if-len-meaning-gt-MOST_BYTES.true, c.len.ensures, c.loop-rest.line.ok, ap length c.meant-meaning.ensures))

pub returns-then-size-rest-clause-replaced : goal.returns-then-size-rest-clause-replaced
returns-then-size-rest-clause-replaced c =
    let rest = c.loop-rest.rest.now in
    let is_size = c.unwrap_or-size.ensures ∙ ap (λ o. unwrap_or o (length rest)) c.first_separator.ensures ∙ unwrap_or-position separates rest in
    c.in_ok-extend_from_slice.ensures.items
    ∙ ap (λ t. c.loop-rest.line.items ++ t) c.meant-meaning.ensures
    ∙ last_piece (meanings_of c.args.definitions.now) c.loop-rest.line.items rest c.args.part.now c.unwrap_or-size.result c.loop-rest.invariant.same is_size c.if-size-rest.true

pub loop-rest-preserved : goal.loop-rest-preserved
loop-rest-preserved c =
    let rest = c.loop-rest.rest.now in
    let is_size = c.unwrap_or-size.ensures ∙ ap (λ o. unwrap_or o (length rest)) c.first_separator.ensures ∙ unwrap_or-position separates rest in record {
      same = next_piece (meanings_of c.args.definitions.now) c.loop-rest.line.items c.extend_from_slice.new.self.items c.push.new.self.items rest c.args.part.now c.unwrap_or-size.result c.loop-rest.invariant.same is_size c.if-size-rest.false
          (c.in_ok-extend_from_slice.ensures.items ∙ ap (λ t. c.loop-rest.line.items ++ t) c.meant-meaning.ensures)
          c.in_ok-push.ensures.items;
      few = omega (arith, ap length c.in_ok-push.ensures.items, c.push.new.self.ok, c.in_ok-push.ensures.len, c.in_ok-extend_from_slice.ensures.len, c.if-len-meaning-gt-MOST_BYTES.false, c.len.ensures);
    }
