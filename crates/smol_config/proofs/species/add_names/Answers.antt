use Rattle.std.proofs.Common.{◌+◌, ◌-◌, ◌∷◌, ◌++◌, [], take, drop, slice_index_or, sym, ap, ◌∙◌, append_assoc, arith}
use Rattle.std.proofs.lemmas.Result.{err_from_is_err_and}
use Rattle.smol_text.specs.Reading.{words_of}
use Rattle.smol_line.specs.Names.{names_fault}
use Rattle.smol_line.proofs.NameLemmas.{names_fault-next, names_fault-found}
use Rattle.smol_config.specs.Motion.{still}
use Rattle.smol_config.specs.Species.{species_fault}
use Rattle.smol_config.proofs.SpeciesNames.{words_from, words_to, pushed_still}
use Rattle.smol_config.proofs.species.add_names.Goals as goal

pub loop-i-preserved : goal.loop-i-preserved
loop-i-preserved c =
    let words = words_of c.args.line.now in
    let i = c.loop-i.i in
    let word = c.word.result.now in
    let old = c.args.species.now.names in
    let from = words_from words i word (omega arith) (omega arith) c.word.ensures in
    let to = words_to words i word (omega arith) (omega arith) c.word.ensures in
    let done = c.in_ok-add_name.ensures in record {
      names = done.names
          ∙ ap (λ names. names ++ word ∷ []) c.loop-i.invariant.names
          ∙ append_assoc old (take (i - 1) (drop 1 words)) (word ∷ [])
          ∙ sym (ap (λ more. old ++ more) to);
      rest = c.loop-i.invariant.rest
          ∙ names_fault-next species_fault c.loop-i.species.names (drop (i - 1) (drop 1 words)) word (drop (i + 1 - 1) (drop 1 words)) from done.accepted
          ∙ ap (λ names. names_fault species_fault names (drop (i + 1 - 1) (drop 1 words))) (sym done.names);
      motions = λ number. ap (λ motions. slice_index_or motions number still) done.motions
          ∙ pushed_still c.loop-i.species.motions.items number
          ∙ c.loop-i.invariant.motions number;
    }

pub returns-in_err-add_name-clause-refused : goal.returns-in_err-add_name-clause-refused
returns-in_err-add_name-clause-refused c kind is =
    let words = words_of c.args.line.now in
    let i = c.loop-i.i in
    let word = c.word.result.now in
    let from = words_from words i word (omega arith) (omega arith) c.word.ensures in
    let p = err_from_is_err_and c.from_residual.result c.from_residual.ensures.1 in
    c.loop-i.invariant.rest
    ∙ names_fault-found species_fault c.loop-i.species.names (drop (i - 1) (drop 1 words)) word (drop (i + 1 - 1) (drop 1 words)) kind from
    (c.in_err-add_name.ensures.refused kind (cc (p.1, p.2, is)))
