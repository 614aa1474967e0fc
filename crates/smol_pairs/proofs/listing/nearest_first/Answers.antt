use Rattle.std.proofs.Common.{◌≡◌, map, All, IsPermutation, sym, ap, subst, ◌∙◌, true, List}
use Rattle.std.specs.List.Sorted.{IsStrictlyIncreasing}
use Rattle.std.proofs.lemmas.List.Elements.{All-map}
use Rattle.std.proofs.lemmas.Result.{IfOk-weaker}
use Rattle.smol_pairs.specs.declared.encounter.Encounter.{Encounter}
use Rattle.smol_pairs.specs.declared.listing.Measured.{Measured}
use Rattle.smol_pairs.specs.Keys.{HaveSame}
use Rattle.smol_pairs.specs.Listing.{HasRoom, key_in, measured_at, met_of}
use Rattle.smol_pairs.proofs.Measuring.{keys_sorted, same_sorted}
use Rattle.smol_pairs.proofs.listing.nearest_first.Goals as goal

pub sort_measured-requires : goal.sort_measured-requires
sort_measured-requires c =
    let mols = c.args.mols.now in
    let found = c.args.found.now in
    subst (All HasRoom) (sym c.in_ok-measured.ensures) (All-map HasRoom (measured_at mols) found c.requires.room)

pub returns-clause-rising : goal.returns-clause-rising
returns-clause-rising c =
    let mols = c.args.mols.now in
    let found = c.args.found.now in
    let sorted = c.sort_measured.new.measured.items in
    let moved = subst (λ (ms : List Measured). IsPermutation ms sorted) c.in_ok-measured.ensures c.sort_measured.ensures.permutation in
    IfOk-weaker c.encounters_of.result (λ es. es.items ≡ map met_of c.deref.result.now) (λ es. IsStrictlyIncreasing (map (key_in true mols) es.items))
    (λ es is. subst (λ (es : List Encounter). IsStrictlyIncreasing (map (key_in true mols) es)) (sym (is ∙ ap (map met_of) c.deref.ensures.value))
    (keys_sorted mols found c.requires.room sorted moved c.sort_measured.ensures.rising c.requires.apart))
    c.encounters_of.ensures

pub returns-clause-same : goal.returns-clause-same
returns-clause-same c =
    let mols = c.args.mols.now in
    let found = c.args.found.now in
    let sorted = c.sort_measured.new.measured.items in
    let moved = subst (λ (ms : List Measured). IsPermutation ms sorted) c.in_ok-measured.ensures c.sort_measured.ensures.permutation in
    IfOk-weaker c.encounters_of.result (λ es. es.items ≡ map met_of c.deref.result.now) (λ es. HaveSame found es.items)
    (λ es is. subst (HaveSame found) (sym (is ∙ ap (map met_of) c.deref.ensures.value))
    (same_sorted mols found c.requires.room sorted moved c.sort_measured.ensures.rising c.requires.apart))
    c.encounters_of.ensures
