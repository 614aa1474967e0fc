use Rattle.std.proofs.Common.{Ok, sym, ap, ◌∙◌}
use Rattle.std.proofs.lemmas.Result.{err_from_is_err_and}
use Rattle.smol_edge.proofs.Telling.{Tells-weaker}
use Rattle.smol_macro.proofs.WholeText.{expanded-given, expanded-refused, all-asked, front-asked, told_before}
use Rattle.smol_macro.proofs.expansion.expand.Goals as goal

pub returns-in_err-give_file-clause-refused : goal.returns-in_err-give_file-clause-refused
returns-in_err-give_file-clause-refused g c =
    let p = err_from_is_err_and c.from_residual.result c.from_residual.ensures.1 in
    rw (p.1, p.2)
    (told_before _ _ _ _
    (λ a b reads. expanded-refused c.new-walk.result c.give_file.new.walk c.new-files.result c.give_file.new.files c.args.name.now c.in_err-give_file.field-0.0 a b c.new-walk.ensures c.new-files.ensures reads)
    c.in_err-give_file.ensures.given)

pub returns-in_err-give_file-clause-asked : goal.returns-in_err-give_file-clause-asked
returns-in_err-give_file-clause-asked g c =
    Tells-weaker _ _ _ _
    (λ a b reads. front-asked c.new-walk.result c.give_file.new.walk c.new-files.result c.give_file.new.files c.args.name.now c.give_file.result a b c.new-walk.ensures c.new-files.ensures reads)
    c.give_file.ensures.given

pub returns-clause-text : goal.returns-clause-text
returns-clause-text g c =
    told_before _ _ _ _
    (λ a b reads. expanded-given c.new-walk.result c.give_file.new.walk c.new-files.result c.give_file.new.files c.args.name.now a b c.new-walk.ensures c.new-files.ensures reads ∙ ap Ok (sym c.into_bytes.ensures))
    c.in_ok-give_file.ensures.given

pub returns-clause-asked : goal.returns-clause-asked
returns-clause-asked g c =
    Tells-weaker _ _ _ _
    (λ a b reads. front-asked c.new-walk.result c.give_file.new.walk c.new-files.result c.give_file.new.files c.args.name.now c.give_file.result a b c.new-walk.ensures c.new-files.ensures reads)
    c.give_file.ensures.given

pub returns-clause-all_asked : goal.returns-clause-all_asked
returns-clause-all_asked g c =
    Tells-weaker _ _ _ _
    (λ a b reads. all-asked c.new-walk.result c.give_file.new.walk c.new-files.result c.give_file.new.files c.args.name.now a b c.new-walk.ensures c.new-files.ensures reads)
    c.in_ok-give_file.ensures.given
