use Rattle.std.proofs.Common.{rules, ◌≡◌, ◌++◌, List, length, take, drop, sum_by, sym, ◌∙◌, ap}
use Rattle.std.proofs.Math.Seq.{take-append_seam}
use Rattle.smol_claims.specs.Hand.{Hand}
use Rattle.smol_claims.proofs.AllLemmas.{sum_by-of_ones}
use Rattle.smol_claims.proofs.matching.match_pairs.Goals as goal

pub close-requires-clause-all : goal.close-requires-clause-all
close-requires-clause-all g c =
    let left : List Hand = c.run_all.new.workers in
    let behind : List Hand = drop (length left) c.in_ok-claims.hands.items in
    let as_many : c.in_ok-claims.hands.len ≡ length left = search rules in
    let whole : take c.in_ok-claims.hands.len (left ++ behind) ≡ left = ap (λ n. take n (left ++ behind)) as_many ∙ take-append_seam left behind in
    ap (sum_by (λ (w : Hand). w.view.share)) whole ∙ c.run_all.ensures.shares ∙ ap (sum_by (λ (w : Hand). w.view.share)) c.deref_mut.ensures.value ∙ sum_by-of_ones (λ (w : Hand). w.view.share) c.in_ok-claims.hands.items (λ i d l. ap (λ v. v.share) (c.in_ok-claims.ensures.new i d l).view) ∙ c.in_ok-claims.ensures.as_many ∙ sym c.in_ok-claims.ensures.workers
