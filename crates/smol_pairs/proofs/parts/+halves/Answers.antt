use Rattle.std.proofs.Common.{subst, sym}
use Rattle.std.proofs.lemmas.Result.{IfOk-at_ok}
use Rattle.smol_pairs.specs.Searching.{AreFound}
use Rattle.smol_pairs.proofs.SearchLemmas.{found_both}
use Rattle.smol_pairs.proofs.parts.+halves.Goals as goal

pub look_halved-returns : goal.look_halved-returns
look_halved-returns g t c =
    let search = c.args.search.now in
    let both = c.look_both-front in
    subst (AreFound search c.args.start c.args.end) (sym c.in_ok-append.ensures)
    (found_both search c.in_ok-keys.keys c.in_ok-back.field-0 c.args.start _ c.args.end
    (IfOk-at_ok (AreFound search c.args.start _) c.in_ok-keys.was both.ensures.front)
    (IfOk-at_ok (AreFound search _ c.args.end) c.in_ok-back.was both.ensures.back))
