use Rattle.std.proofs.Common.{arith, refl, ap, sym, ◌∙◌, length, slice_get, slice_set}
use Rattle.smol_print.proofs.PageLists.{all_bytes-set, bytes_at}
use Rattle.smol_print.proofs.pages.Pages.page_mut.Goals as goal

pub returns : goal.returns
returns c = (
  (refl, λ w. all_bytes-set c.self.inside.pages.items c.args.outlet w ∙ ap (λ pages. slice_set pages c.args.outlet w.items) c.self.view_is),
  record {
    writes_back = tt;
    value = ap (λ pages. slice_get pages c.args.outlet) (sym c.self.view_is)
        ∙ bytes_at c.self.inside.pages.items c.args.outlet c.index_mut.result.now (omega (arith, ap length c.self.view_is)) c.index_mut.ensures.value;
  },
)
