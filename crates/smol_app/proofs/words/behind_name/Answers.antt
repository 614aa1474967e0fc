use Rattle.std.proofs.Common.{ap, ◌∙◌}
use Rattle.std.proofs.lemmas.Iterator.{items_from_collect}
use Rattle.std.proofs.lemmas.Iterator.Adapters.{YieldsList-from_vec, YieldsList-from_skip}
use Rattle.std.specs.Iterator.Adapters.{skip_source}
use Rattle.std.specs.Vec.Iter.{into_iter_items, into_iter_len}
use Rattle.smol_app.proofs.words.behind_name.Goals as goal

-- the items behind the first are collected
pub returns : goal.returns
returns c =
    let all = into_iter_items c.args.args in
    let items = ap into_iter_items c.skip.ensures.source in
    let count = ap into_iter_len c.skip.ensures.source ∙ c.args.args.rest.ok.0 in
    items_from_collect _ c.collect.ensures.ran
    (YieldsList-from_skip _ (YieldsList-from_vec {s = skip_source c.skip.result} all items count) c.skip.ensures.count)
