use Rattle.std.proofs.Common.{◌≡◌, ◌∙◌, List, ℕ, ◌<◌, ◌≤◌, length, map, get_or, refl, sym, ap, subst, arith}
use Rattle.std.proofs.lemmas.List.Elements.{All-from_get_or, All-map, All-same}
use Rattle.smol_cells.specs.declared.entries.Entry.{Entry}
use Rattle.smol_cells.specs.Entries.{number_at}
use Rattle.smol_cells.specs.Ranges.{HasNumber, boxes_at}
use Rattle.smol_cells.specs.Starts.{AreStarts}
use Rattle.smol_cells.proofs.EntryLemmas.{complete_at, item_there, items_as_many, sound_at}
use Rattle.smol_cells.proofs.OrderLemmas.{same_starts}
use Rattle.smol_cells.proofs.cells.Cells.of_ranges.Goals as goal

pub invariant_of-result-clause-inside : goal.invariant_of-result-clause-inside
invariant_of-result-clause-inside c =
    let entries = c.in_ok-entries.entries.items in
    let starts = c.in_ok-starts.starts.items in
    let items = c.in_ok-items.items.items in
    let are : AreStarts (length entries) (number_at entries) starts =
    subst (λ (held : List Entry). AreStarts (length held) (number_at held) starts) c.deref.ensures.value c.in_ok-starts.ensures.starts in
    let index : items ≡ map (λ (entry : Entry). entry.index) entries =
    c.in_ok-items.ensures ∙ ap (map (λ (entry : Entry). entry.index)) c.deref-2.ensures.value in
    All-from_get_or (λ (start : ℕ). start ≤ length items) starts 0
    (λ box below. subst (λ (n : ℕ). get_or starts box 0 ≤ n) (sym (items_as_many entries items index)) (are box below).inside)

pub invariant_of-result-clause-known : goal.invariant_of-result-clause-known
invariant_of-result-clause-known c =
    let counts = c.args.grid.now.counts in
    let ranges = c.args.ranges.now in
    let entries = c.in_ok-entries.entries.items in
    let items = c.in_ok-items.items.items in
    let index : items ≡ map (λ (entry : Entry). entry.index) entries =
    c.in_ok-items.ensures ∙ ap (map (λ (entry : Entry). entry.index)) c.deref-2.ensures.value in
    All-same (λ (item : ℕ). item < length ranges) _ _ index
    (All-map (λ (item : ℕ). item < length ranges) (λ (entry : Entry). entry.index) entries
    (All-from_get_or (λ (entry : Entry). entry.index < length ranges) entries _ (λ p below. (sound_at counts ranges entries c.in_ok-entries.ensures.entries p below).0)))

pub returns-clause-of : goal.returns-clause-of
returns-clause-of c =
    let counts = c.args.grid.now.counts in
    let ranges = c.args.ranges.now in
    let entries = c.in_ok-entries.entries.items in
    let starts = c.in_ok-starts.starts.items in
    let items = c.in_ok-items.items.items in
    let are : AreStarts (length entries) (number_at entries) starts =
    subst (λ (held : List Entry). AreStarts (length held) (number_at held) starts) c.deref.ensures.value c.in_ok-starts.ensures.starts in
    let index : items ≡ map (λ (entry : Entry). entry.index) entries =
    c.in_ok-items.ensures ∙ ap (map (λ (entry : Entry). entry.index)) c.deref-2.ensures.value in
    let long : length items ≡ length entries = items_as_many entries items index in
    record {
      count = refl;
      among = c.requires;
      number = number_at entries;
      starts = same_starts (length entries) (length items) (number_at entries) (number_at entries) starts (sym long) (λ q below. refl) are;
      sound = λ p below.
          let inside : p < length entries = omega (arith, below, long) in
          let held = sound_at counts ranges entries c.in_ok-entries.ensures.entries p inside in
          let is = sym (item_there entries items index p inside) in
          (subst (λ (n : ℕ). n < length ranges) is held.0, subst (λ (n : ℕ). HasNumber counts (boxes_at ranges n) (number_at entries p)) is held.1);
      complete = λ index_of x y z known has.
          let found = complete_at counts ranges entries c.in_ok-entries.ensures.entries index_of x y z known has in
          (found.0, subst (λ (n : ℕ). found.0 < n) (sym long) found.1, found.2, item_there entries items index found.0 found.1 ∙ found.3);
    }
