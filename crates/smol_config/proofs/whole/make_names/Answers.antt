use Rattle.std.proofs.Common.{◌<◌, ◌∷◌, ◌++◌, [], length, take, sym, ap, ◌∙◌, arith}
use Rattle.std.proofs.lemmas.List.{take_more}
use Rattle.std.proofs.lemmas.Option.{get_or_from_slice_get}
use Rattle.smol_config.proofs.whole.make_names.Goals as goal

pub loop-number-preserved : goal.loop-number-preserved
loop-number-preserved c =
    let names = c.args.names.now in
    let n = c.loop-number.number in
    let within : n < length names = omega arith in
    c.in_ok-push.ensures.ok
    ∙ ap (λ l. l ++ c.in_ok-name.name ∷ []) c.loop-number.invariant
    ∙ ap (λ x. take n names ++ x ∷ []) (c.in_ok-name.ensures ∙ sym (get_or_from_slice_get names n c.name.result.now [] c.name.ensures))
    ∙ sym (take_more names n [] within)
