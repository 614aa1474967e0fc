use Rattle.std.proofs.Common.{◌≡◌, arith, ap, ◌∙◌, [], length, replicate}
use Rattle.smol_print.proofs.PageLists.{one_more_empty, all_emptied}
use Rattle.smol_print.proofs.pages.Pages.clear.Goals as goal

pub loop-page-preserved : goal.loop-page-preserved
loop-page-preserved c =
    one_more_empty c.loop-page.page-items c.loop-page.page-index c.clear.new.self (omega arith) c.clear.ensures.items c.loop-page.invariant

pub returns : goal.returns
returns c =
    let pages = c.self.inside.pages in
    let emptied = c.loop-page.page-items in
    let same : length emptied ≡ length pages.items = omega (arith, ap length c.deref_mut-page-items.ensures.value) in
    all_emptied pages.items emptied pages.len pages.ok.0 same (λ k within. c.loop-page.invariant k (omega (arith, ap length c.deref_mut-page-items.ensures.value)))
    ∙ ap (λ all. replicate (length all) []) c.self.view_is
