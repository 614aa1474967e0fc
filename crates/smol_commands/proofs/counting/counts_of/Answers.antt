use Rattle.std.proofs.Common.{◌≡◌, ◌<◌, ◌∙◌, [], List, length, get_or, take, arith, ap, sym, length-take-le}
use Rattle.std.proofs.lemmas.List.{take_all, get_or_default}
use Rattle.smol_types.specs.declared.state.Mol.{Mol}
use Rattle.smol_meaning.specs.Lines.{number_of}
use Rattle.smol_commands.proofs.SpeciesCounts.{count_is_small, one_counted, counts_are}
use Rattle.smol_commands.proofs.counting.counts_of.Goals as goal

pub overflow_add-index_mut : goal.overflow_add-index_mut
overflow_add-index_mut c =
    let mols = c.args.mols.now in
    let i = c.loop-mol.mol-index in
    let nobody : Mol = record { serial = 0; species = 0; place = record { 0 = [] } } in
    let number = (get_or mols i nobody).species in
    let counts = c.loop-mol.counts in
    let there : number < length c.args.species.now = c.requires i nobody c.loop-mol-test.true in
    let below : number < length counts.items = omega (arith, counts.ok.0, c.loop-mol.invariant.species) in
    let value : c.index_mut.result.now ≡ number_of (take i mols) number =
    c.index_mut.ensures.value ∙ get_or_default counts.items number c.index_mut.result.now 0 below ∙ c.loop-mol.invariant.counted number there in
    omega (arith, value, count_is_small (take i mols) number, length-take-le i mols, c.loop-mol-test.true)

pub loop-mol-preserved : goal.loop-mol-preserved
loop-mol-preserved c =
    let mols = c.args.mols.now in
    let i = c.loop-mol.mol-index in
    let nobody : Mol = record { serial = 0; species = 0; place = record { 0 = [] } } in
    let number = (get_or mols i nobody).species in
    let counts = c.loop-mol.counts in
    let there : number < length c.args.species.now = c.requires i nobody c.loop-mol-test.true in
    let below : number < length counts.items = omega (arith, counts.ok.0, c.loop-mol.invariant.species) in
    record {
      species = c.loop-mol.invariant.species;
      counted = λ k within.
          one_counted mols i nobody counts.items c.index_mut.result.now k c.loop-mol-test.true below
          (c.index_mut.ensures.value ∙ get_or_default counts.items number c.index_mut.result.now 0 below)
          (c.loop-mol.invariant.counted k within);
    }

pub returns : goal.returns
returns c =
    let mols = c.args.mols.now in
    counts_are mols c.args.species.now c.loop-mol.counts.items (sym c.loop-mol.counts.ok.0 ∙ c.loop-mol.invariant.species)
    (λ k within.
    c.loop-mol.invariant.counted k within ∙ ap (λ (seen : List Mol). number_of seen k) (take_all c.loop-mol.mol-index mols c.loop-mol-test.false))
