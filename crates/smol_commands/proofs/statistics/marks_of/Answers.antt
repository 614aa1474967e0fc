use Rattle.std.proofs.Common.{◌≡◌, ◌∙◌, ap, sym, arith, List, Bool, nat_eq, length, ◌∷◌, [], ◌++◌}
use Rattle.std.specs.List.{list_any}
use Rattle.std.proofs.lemmas.List.FromFn.{length-map-range_with_len, map-range_with_len_more}
use Rattle.smol_meaning.specs.Statistics.{marks_of}
use Rattle.smol_commands.proofs.statistics.marks_of.Goals as goal

pub loop-number-preserved : goal.loop-number-preserved
loop-number-preserved c =
    let number = c.loop-number.number in
    let mark : c.is_among.result ≡ list_any (nat_eq number) c.args.who.now = c.is_among.ensures in
    c.in_ok-push.ensures.items
    ∙ ap (λ (marks : List Bool). marks ++ c.is_among.result ∷ []) c.loop-number.invariant
    ∙ ap (λ (b : Bool). marks_of number c.args.who.now ++ b ∷ []) mark
    ∙ sym (map-range_with_len_more (λ species. list_any (nat_eq species) c.args.who.now) 0 number number (omega arith))

pub returns-clause-count : goal.returns-clause-count
returns-clause-count c =
    let number = c.loop-number.number in
    let all : number ≡ length c.args.config.now.species = omega (arith, c.loop-number.auto.number-end, c.loop-number-test.false, ap length c.species-count.ensures.value) in
    ap length c.loop-number.invariant
    ∙ length-map-range_with_len (λ species. list_any (nat_eq species) c.args.who.now) 0 number
    ∙ all
