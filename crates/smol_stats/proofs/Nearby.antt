-- What is within reach of a molecule is near it.
use Rattle.std.proofs.Common.{◌≡◌, ◌≤◌, ◌<◌, ◌+◌, ◌*◌, ◌^◌, ℕ, ◌&&◌, Bool, true, false, nat_lt, ℤ, ◌+ℤ◌, ◌-ℤ◌, ◌≤ℤ◌, unsigned_abs, to_z, of_z, w64, List, [], length, drop, map, filter, count_by, arith, refl, ap, ◌∙◌}
use Rattle.std.proofs.lemmas.Bool.Decides.{nat_tests}
use Rattle.std.proofs.lemmas.Int.{ints}
use Rattle.std.proofs.lemmas.List.{get_or-map, length-map}
use Rattle.smol_geom.specs.declared.cuboid.Cuboid.{Cuboid}
use Rattle.smol_geom.specs.declared.place.Place.{Place}
use Rattle.smol_geom.specs.Place.{gap, square_of_distance}
use Rattle.smol_cells.specs.declared.boxes.Boxes.{Boxes}
use Rattle.smol_cells.specs.declared.grid.Grid.{Grid}
use Rattle.smol_cells.specs.Meeting.{MeetsBetween}
use Rattle.smol_cells.specs.Numbered.{boxes_of_cuboid, boxes_of_place}
use Rattle.smol_cells.specs.Placed.{counted}
use Rattle.smol_cells.specs.Ranges.{are_meeting, boxes_at, near_of}
use Rattle.smol_cells.proofs.NearLists.{meeting_of_met, meeting_of_shared}
use Rattle.smol_types.specs.declared.state.Mol.{Mol}
use Rattle.smol_stats.specs.Radial.{are_in_shell, is_behind_in, is_in_shell, mol_at}
use Rattle.smol_stats.proofs.Pairs.{behind_counted, count_kept}
use Rattle.smol_stats.proofs.ShellLemmas.{root_down}

pub on_line : (p o : ℤ) (reach : ℕ) → unsigned_abs p ≤ 2 ^ 57 → reach ≤ 2000000000 → unsigned_abs (p -ℤ o) < reach
    → (o ≤ℤ to_z w64 (of_z w64 (to_z w64 (of_z w64 p) +ℤ to_z w64 reach))) × (to_z w64 (of_z w64 (to_z w64 (of_z w64 p) -ℤ to_z w64 reach)) ≤ℤ o)
on_line p o reach small short near = (omega (arith, ints), omega (arith, ints))

pub gap_0 : (a b : Place) (reach : ℕ) → square_of_distance a b < reach * reach → gap a b 0 < reach
gap_0 a b reach near = root_down (gap a b 0) reach (omega (arith, near))

pub gap_1 : (a b : Place) (reach : ℕ) → square_of_distance a b < reach * reach → gap a b 1 < reach
gap_1 a b reach near = root_down (gap a b 1) reach (omega (arith, near))

pub gap_2 : (a b : Place) (reach : ℕ) → square_of_distance a b < reach * reach → gap a b 2 < reach
gap_2 a b reach near = root_down (gap a b 2) reach (omega (arith, near))

-- both parts of what holds together
first_of : (a b : Bool) → (a && b) ≡ true → a ≡ true
first_of true b is = refl
first_of false b is = is

second_of : (a b : Bool) → (a && b) ≡ true → b ≡ true
second_of true b is = is
second_of false true is = refl
second_of false false is = is

-- a pair in a shell is within reach
within_reach : (first second reach n k : ℕ) (a b : Mol) → are_in_shell first second reach n k a b ≡ true → square_of_distance a.place b.place < reach * reach
within_reach first second reach n k a b is =
    let inner : is_in_shell reach n k (square_of_distance a.place b.place) ≡ true = second_of _ _ is in
    let near : nat_lt (square_of_distance a.place b.place) (reach * reach) ≡ true = first_of _ _ inner in
    grind (arith, nat_tests, near)

-- the pairs of a molecule with those behind it are found among what is near
pub found_near : (first second reach n k : ℕ) (mols : List Mol) (i : ℕ) (grid : Grid) (c : Cuboid) → i < length mols
    → ((other : Place) → square_of_distance (mol_at mols i).place other < reach * reach → MeetsBetween c other.0 other.0)
    → count_by (is_behind_in first second reach n mols i k) (near_of (map (λ (mol : Mol). boxes_of_place grid mol.place) mols) (boxes_of_cuboid grid c))
    ≡ count_by (are_in_shell first second reach n k (mol_at mols i)) (drop (i + 1) mols)
found_near first second reach n k mols i grid c within reaches =
    let nobody : Mol = record { serial = 0; species = 0; place = record { 0 = [] } } in
    let box : Mol → Boxes = λ (mol : Mol). boxes_of_place grid mol.place in
    let ranges = map box mols in
    let q : ℕ → Bool = is_behind_in first second reach n mols i k in
    let long : length ranges ≡ length mols = length-map mols box in
    ap (λ m. count_by q (filter (λ index. are_meeting (boxes_at ranges index) (boxes_of_cuboid grid c)) (counted 0 m))) long
    ∙ count_kept q (λ index. are_meeting (boxes_at ranges index) (boxes_of_cuboid grid c)) 0 (length mols) (λ j there is.
    let pair : are_in_shell first second reach n k (mol_at mols i) (mol_at mols j) ≡ true = second_of _ _ is in
    let met = reaches (mol_at mols j).place (within_reach first second reach n k (mol_at mols i) (mol_at mols j) pair) in
    let at : boxes_at ranges j ≡ box (mol_at mols j) = get_or-map box mols j nobody _ (omega (arith, there)) in
    ap (λ b. are_meeting b (boxes_of_cuboid grid c)) at
    ∙ meeting_of_shared (box (mol_at mols j)) (boxes_of_cuboid grid c) (meeting_of_met grid c (mol_at mols j).place.0 (mol_at mols j).place.0 met))
    ∙ behind_counted (are_in_shell first second reach n k (mol_at mols i)) mols i nobody within
