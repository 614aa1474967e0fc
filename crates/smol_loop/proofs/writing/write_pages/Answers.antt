use Rattle.std.proofs.Common.{◌∙◌}
use Rattle.smol_edge.proofs.Telling.{OnErr-always}
use Rattle.smol_loop.proofs.OnPages.{one_more_written, front_written}
use Rattle.smol_loop.proofs.writing.write_pages.Goals as goal

pub returns-in_err-write_page-clause-front_appended : goal.returns-in_err-write_page-clause-front_appended
returns-in_err-write_page-clause-front_appended g c =
    OnErr-always _ _
    (front_written c.args.pages.now c.loop-outlet.outlet c.page.result.now _ _ _ c.page.ensures c.loop-outlet.invariant.written c.in_err-write_page.ensures.front_appended)

pub loop-outlet-preserved : goal.loop-outlet-preserved
loop-outlet-preserved g c = record {
  written = one_more_written c.args.pages.now c.loop-outlet.outlet c.page.result.now _ _ _ c.page.ensures c.loop-outlet.invariant.written c.in_ok-write_page.ensures.appended;
  opened = c.in_ok-write_page.ensures.opened ∙ c.loop-outlet.invariant.opened;
  faults = c.in_ok-write_page.ensures.no_fault ∙ c.loop-outlet.invariant.faults;
}
