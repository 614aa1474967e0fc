use Rattle.std.proofs.Common.{◌≡◌, ℕ, ◌^◌, ◌<◌, List, length, map, All, sym, ap, subst, ◌∙◌, arith}
use Rattle.std.specs.Prelude.{Contains}
use Rattle.std.proofs.lemmas.Result.{IfOk-weaker}
use Rattle.smol_geom.specs.declared.place.Place.{Place}
use Rattle.smol_geom.specs.Axes.{IsWithin}
use Rattle.smol_cells.specs.Placed.{AreInOrder, place_at}
use Rattle.smol_pairs.specs.declared.encounter.Encounter.{Encounter}
use Rattle.smol_pairs.specs.declared.seeker.Seeker.{Seeker}
use Rattle.smol_pairs.specs.Met.{Has, HaveMet}
use Rattle.smol_pairs.specs.Searching.{AreFound}
use Rattle.smol_pairs.specs.Seekers.{IsSeeker, place_of, rank_of, seeker_at}
use Rattle.smol_pairs.proofs.AllMet.{each_two_has}
use Rattle.smol_pairs.proofs.SeekerLemmas.{all_ordered, order_below, order_of_seekers, places_ordered, places_small, rank_ordered}
use Rattle.smol_pairs.proofs.finding.keys_among.Goals as goal

pub in_box_order-requires : goal.in_box_order-requires
in_box_order-requires g c =
    subst (All (λ (place : Place). IsWithin (2 ^ 58) place.0)) (sym (c.deref.ensures.value ∙ c.in_ok-places.ensures))
    (places_small c.args.panels.now c.args.seed c.args.k c.args.mols.now c.args.seekers.now c.requires.moved.places c.requires.seekers)

pub seekers_at-requires : goal.seekers_at-requires
seekers_at-requires g c =
    let seekers = c.args.seekers.now in
    let order = c.in_ok-made.made.order.items in
    subst (All (λ index. index < length seekers)) (sym c.deref-2.ensures.value)
    (order_below seekers order (order_of_seekers seekers c.deref.result.now order (c.deref.ensures.value ∙ c.in_ok-places.ensures) c.in_ok-made.ensures.order))

pub invariant_of-search : goal.invariant_of-search
invariant_of-search g c =
    let seekers = c.args.seekers.now in
    let order = c.in_ok-made.made.order.items in
    let places : c.deref.result.now ≡ map place_of seekers = c.deref.ensures.value ∙ c.in_ok-places.ensures in
    let is = order_of_seekers seekers c.deref.result.now order places c.in_ok-made.ensures.order in
    let ordered : c.deref-3.result.now ≡ map (seeker_at seekers) order =
    c.deref-3.ensures.value ∙ c.in_ok-ordered.ensures ∙ ap (map (seeker_at seekers)) c.deref-2.ensures.value in
    let Known = IsSeeker c.args.panels.now c.args.seed c.args.k c.args.mols.now in
    record {
      few = c.requires.moved.count;
      species = c.requires.moved.species;
      places = c.requires.moved.places;
      longest = c.requires.reach;
      known = subst (All Known) (sym ordered) (all_ordered seekers order is Known c.requires.seekers);
      order = subst (λ (places : List Place). AreInOrder places c.in_ok-made.made.cells)
          (ap (λ (places : List Place). map (place_at places) order) places ∙ places_ordered seekers order is ∙ ap (map place_of) (sym ordered))
          c.in_ok-made.ensures.cells;
    }

pub returns-clause-has : goal.returns-clause-has
returns-clause-has g c =
    let draft = c.args.panels.now in
    let mols = c.args.mols.now in
    let seekers = c.args.seekers.now in
    let order = c.in_ok-made.made.order.items in
    let ordered : c.deref-3.result.now ≡ map (seeker_at seekers) order =
    c.deref-3.ensures.value ∙ c.in_ok-ordered.ensures ∙ ap (map (seeker_at seekers)) c.deref-2.ensures.value in
    let Met : List Encounter → List Seeker → Type 0 = λ keys xs. (p q : ℕ) → p < q → q < length xs
    → HaveMet draft c.args.seed c.args.k mols keys (seeker_at xs p).rank (seeker_at xs q).rank in
    let is = order_of_seekers seekers c.deref.result.now order (c.deref.ensures.value ∙ c.in_ok-places.ensures) c.in_ok-made.ensures.order in
    IfOk-weaker c.look.result _
    (λ keys. (i j : ℕ) → i < j → Contains (map rank_of seekers) i → Contains (map rank_of seekers) j → Has draft c.args.seed c.args.k mols keys i j)
    (λ keys. λ (found : AreFound _ _ _ keys). λ i j less has_i has_j.
    each_two_has draft c.args.seed c.args.k mols (map (seeker_at seekers) order) keys
    (subst (Met keys) ordered (λ p q behind inside. found.met p q (omega arith) (omega (arith, behind, inside)) behind inside)) i j less
    (rank_ordered seekers order is i has_i) (rank_ordered seekers order is j has_j))
    c.look.ensures
