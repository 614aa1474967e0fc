use Rattle.std.proofs.Common.{◌≡◌, ◌∙◌, ◌≤◌, ◌<◌, ◌+◌, ◌^◌, ℕ, suc, Bool, List, ◌∷◌, length, get_or, drop, map, count_by, arith, rules, ap, subst}
use Rattle.std.proofs.lemmas.List.{get_or_default, length-drop, length-map}
use Rattle.std.proofs.lemmas.List.Sums.{count_by-le-length}
use Rattle.smol_cells.specs.declared.boxes.Boxes.{Boxes}
use Rattle.smol_cells.specs.NearLeft.{near_left}
use Rattle.smol_cells.specs.Numbered.{boxes_of_cuboid, boxes_of_place}
use Rattle.smol_cells.specs.Ranges.{are_meeting, boxes_at, near_of}
use Rattle.smol_types.specs.declared.state.Mol.{Mol}
use Rattle.smol_stats.specs.Radial.{are_in_shell, is_behind_in, mol_at}
use Rattle.smol_stats.proofs.Nearby.{found_near}
use Rattle.smol_stats.proofs.Pairs.{kept_known, left_next}
use Rattle.smol_stats.proofs.Tallies.{length_raised}
use Rattle.smol_stats.proofs.around.count_around.Goals as goal

pub loop-j-init : goal.loop-j-init
loop-j-init c =
    let mols = c.args.mols.now in
    let s = c.args.shells.now in
    let grid = c.args.cells.now.grid in
    let box = λ (mol : Mol). boxes_of_place grid mol.place in
    let ranges : List Boxes = map box mols in
    let boxes = boxes_of_cuboid grid c.around.result in
    let left : near_left c.near-near.result ≡ near_of ranges boxes = c.near-near.ensures ranges c.requires.of in
    let long : length ranges ≡ length mols = length-map mols box in
    record {
      can_next = search rules;
      finite = search rules;
      long = c.requires.long;
      known = λ k d there.
          let near : k < length (near_of ranges boxes) = omega (arith, there, ap length left) in
          let below : get_or (near_of ranges boxes) k d < length ranges = kept_known (λ index. are_meeting (boxes_at ranges index) boxes) 0 (length ranges) (length ranges) (omega arith) k d near in
          omega (arith, ap (λ (l : List ℕ). get_or l k d) left, below, long);
      total = λ k within.
          ap (λ m. get_or c.args.counts.now k 0 + m)
          (ap (λ (l : List ℕ). count_by (is_behind_in s.first s.second s.reach s.n mols c.args.i k) l) left
          ∙ found_near s.first s.second s.reach s.n k mols c.args.i grid c.around.result c.requires.i c.around.ensures.reaches);
    }

pub of_pair-shell-requires-clause-other : goal.of_pair-shell-requires-clause-other
of_pair-shell-requires-clause-other c =
    let left : near_left c.loop-j.near ≡ c.in-Some.j ∷ near_left c.next.new.self = c.in-Some.ensures.steps in
    let some : 0 < length (near_left c.loop-j.near) = omega (arith, ap length left) in
    subst (λ (l : List ℕ). get_or l 0 0 < length c.args.mols.now) left (c.loop-j.invariant.known 0 0 some)

pub raise-requires-clause-small : goal.raise-requires-clause-small
raise-requires-clause-small c k d there =
    let s = c.args.shells.now in
    let rest = drop (c.args.i + 1) c.args.mols.now in
    let within : k < s.n = omega (arith, there, c.loop-j.invariant.long) in
    let same = get_or_default c.loop-j.counts k d 0 there in
    let old : get_or c.args.counts.now k 0 ≤ 2 ^ 62 = c.requires.small k 0 (omega (arith, within, c.requires.long)) in
    let more : count_by (are_in_shell s.first s.second s.reach s.n k (mol_at c.args.mols.now c.args.i)) rest ≤ length rest = count_by-le-length _ rest in
    let few = length-drop (c.args.i + 1) c.args.mols.now in
    let total = c.loop-j.invariant.total k within in
    omega (arith, same, old, more, few, total, c.requires.few)

pub loop-j-preserved : goal.loop-j-preserved
loop-j-preserved c =
    let mols = c.args.mols.now in
    let s = c.args.shells.now in
    let left : near_left c.loop-j.near ≡ c.in-Some.j ∷ near_left c.next.new.self = c.in-Some.ensures.steps in
    record {
      can_next = search rules;
      finite = search rules;
      long = ap length c.raise.ensures ∙ length_raised c.loop-j.counts c.of_pair-shell.result ∙ c.loop-j.invariant.long;
      known = λ k d there.
          let behind : suc k < length (near_left c.loop-j.near) = omega (arith, there, ap length left) in
          subst (λ (l : List ℕ). get_or l (suc k) d < length mols) left (c.loop-j.invariant.known (suc k) d behind);
      total = λ k within.
          left_next (is_behind_in s.first s.second s.reach s.n mols c.args.i) s.n c.in-Some.j c.of_pair-shell.result c.loop-j.counts c.raise.new.counts (near_left c.next.new.self) (near_left c.loop-j.near) k
          c.of_pair-shell.ensures c.loop-j.invariant.long c.raise.ensures left
          ∙ c.loop-j.invariant.total k within;
    }

pub returns-clause-counted : goal.returns-clause-counted
returns-clause-counted c k within =
    let s = c.args.shells.now in
    let q : ℕ → Bool = is_behind_in s.first s.second s.reach s.n c.args.mols.now c.args.i k in
    let none : count_by q (near_left c.loop-j.near) ≡ 0 = ap (λ (l : List ℕ). count_by q l) c.in_default.ensures.steps.0 in
    omega (arith, none, c.loop-j.invariant.total k within)
