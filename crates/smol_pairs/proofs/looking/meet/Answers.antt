use Rattle.std.proofs.lemmas.Result.{on_ok_weaker}
use Rattle.smol_pairs.specs.Searching.{all_of}
use Rattle.smol_pairs.proofs.MetLemmas.{grown_same, in_order_met, met_turned}
use Rattle.smol_pairs.proofs.looking.meet.Goals as goal

pub returns-then-a-b-clause-grown : goal.returns-then-a-b-clause-grown
returns-then-a-b-clause-grown c =
    let search = c.args.search.now in
    on_ok_weaker c.add_of_two.result
    (λ is. (in_order_met search.panels.now search.seed search.k search.mols.now c.args.keys.now c.add_of_two.new.keys
    c.args.a.now c.args.b.now c.requires.a c.requires.b c.if-a-b.true _ _ _ _ _
    c.ranked-one.ensures.mol c.ranked-other.ensures.mol c.ranked-one.ensures.rank c.ranked-other.ensures.rank c.requires.seed is).0) c.add_of_two.ensures.keys

pub returns-then-a-b-clause-met : goal.returns-then-a-b-clause-met
returns-then-a-b-clause-met c =
    let search = c.args.search.now in
    on_ok_weaker c.add_of_two.result
    (λ is. (in_order_met search.panels.now search.seed search.k search.mols.now c.args.keys.now c.add_of_two.new.keys
    c.args.a.now c.args.b.now c.requires.a c.requires.b c.if-a-b.true _ _ _ _ _
    c.ranked-one.ensures.mol c.ranked-other.ensures.mol c.ranked-one.ensures.rank c.ranked-other.ensures.rank c.requires.seed is).1) c.add_of_two.ensures.keys

pub returns-then-b-a-clause-grown : goal.returns-then-b-a-clause-grown
returns-then-b-a-clause-grown c =
    let search = c.args.search.now in
    on_ok_weaker c.add_of_two-then-b-a.result
    (λ is. (in_order_met search.panels.now search.seed search.k search.mols.now c.args.keys.now c.add_of_two-then-b-a.new.keys
    c.args.b.now c.args.a.now c.requires.b c.requires.a c.if-b-a.true _ _ _ _ _
    c.ranked-other.ensures.mol c.ranked-one.ensures.mol c.ranked-other.ensures.rank c.ranked-one.ensures.rank c.requires.seed is).0) c.add_of_two-then-b-a.ensures.keys

pub returns-then-b-a-clause-met : goal.returns-then-b-a-clause-met
returns-then-b-a-clause-met c =
    let search = c.args.search.now in
    on_ok_weaker c.add_of_two-then-b-a.result
    (λ is. met_turned search.panels.now search.seed search.k search.mols.now c.add_of_two-then-b-a.new.keys c.args.b.now.rank c.args.a.now.rank
    (in_order_met search.panels.now search.seed search.k search.mols.now c.args.keys.now c.add_of_two-then-b-a.new.keys
    c.args.b.now c.args.a.now c.requires.b c.requires.a c.if-b-a.true _ _ _ _ _
    c.ranked-other.ensures.mol c.ranked-one.ensures.mol c.ranked-other.ensures.rank c.ranked-one.ensures.rank c.requires.seed is).1) c.add_of_two-then-b-a.ensures.keys

pub returns-else-b-a-clause-grown : goal.returns-else-b-a-clause-grown
returns-else-b-a-clause-grown c = grown_same (all_of c.args.search.now) c.args.keys.now
