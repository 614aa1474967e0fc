use Rattle.std.proofs.Common.{All, List, sym, subst}
use Rattle.std.specs.Prelude.{Contains}
use Rattle.std.proofs.lemmas.List.Elements.{All-contains, All-weaker}
use Rattle.std.proofs.lemmas.Result.{IfOk-weaker}
use Rattle.smol_pairs.specs.declared.encounter.Encounter.{Encounter}
use Rattle.smol_pairs.specs.Encounters.{AreRanksIn}
use Rattle.smol_pairs.specs.Keys.{HaveSame, IsOfKey}
use Rattle.smol_pairs.proofs.Measuring.{same_then}
use Rattle.smol_pairs.proofs.listing.in_order.Goals as goal

pub nearest_first-requires-clause-ranks : goal.nearest_first-requires-clause-ranks
nearest_first-requires-clause-ranks c =
    let Is = AreRanksIn c.args.mols.now in
    let found = c.in_ok-found.found.items in
    subst (All Is) (sym c.deref.ensures.value)
    (All-weaker (Contains c.args.keys) Is (λ e has. All-contains Is c.args.keys e c.requires.ranks has) found c.in_ok-found.ensures.same.old)

pub nearest_first-requires-clause-room : goal.nearest_first-requires-clause-room
nearest_first-requires-clause-room c =
    let found = c.in_ok-found.found.items in
    subst (All IsOfKey) (sym c.deref.ensures.value)
    (All-weaker (Contains c.args.keys) IsOfKey (λ e has. All-contains IsOfKey c.args.keys e c.requires.room has) found c.in_ok-found.ensures.same.old)

pub returns-then-nearest-clause-same : goal.returns-then-nearest-clause-same
returns-then-nearest-clause-same c =
    IfOk-weaker c.nearest_first.result (λ sorted. HaveSame c.deref.result.now sorted.items) (λ sorted. HaveSame c.args.keys sorted.items)
    (λ sorted same. same_then c.args.keys c.in_ok-found.found.items sorted.items c.in_ok-found.ensures.same
    (subst (λ (es : List Encounter). HaveSame es sorted.items) c.deref.ensures.value same))
    c.nearest_first.ensures.same
