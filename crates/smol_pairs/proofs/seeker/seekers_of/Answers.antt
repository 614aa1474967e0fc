use Rattle.std.proofs.Common.{ℕ, ◌≡◌, ◌+◌, true, false, ◌++◌, [], ◌∷◌, map, arith, All, refl, sym, ap, subst, ◌∙◌, Vec, Global}
use Rattle.std.specs.Prelude.{is_some}
use Rattle.std.proofs.lemmas.List.Elements.{All-nil, All-push}
use Rattle.smol_meaning.specs.Events.{is_free}
use Rattle.smol_pairs.specs.declared.seeker.Seeker.{Seeker}
use Rattle.smol_pairs.specs.Seekers.{AreCovered, IsSeeker, mol_at}
use Rattle.smol_pairs.proofs.SeekerLemmas.{covered_next, covered_passed, free_there}
use Rattle.smol_pairs.proofs.seeker.seekers_of.Goals as goal
use Rattle.smol_pairs.proofs.seeker.seekers_of.Goals.{then-free-rank+then-is_some+in_ok-push, else-free-rank, else-free-rank-via-then-free-rank+else-is_some, else-free-rank-via-else-free-rank}

never : true ≡ false → ⊥
never e = absurd (cc)

pub loop-rank-init : goal.loop-rank-init
loop-rank-init c = record {
  seekers = λ seed k is. subst (All (IsSeeker c.args.reaches.now seed k c.args.mols.now)) (sym c.new-seekers.ensures.items) (All-nil (IsSeeker c.args.reaches.now seed k c.args.mols.now));
  covered = λ seed k is i below. absurd (omega (arith, below));
}

pub loop-rank-preserved : goal.loop-rank-preserved
loop-rank-preserved c =
    let draft = c.args.reaches.now in
    let mols = c.args.mols.now in
    let rank = c.loop-rank.rank in
    let so_far = c.loop-rank.seekers.items in
    let here = λ (seed k : ℕ) (is : c.args.free.now ≡ map (is_free draft seed k) mols). free_there draft seed k c.args.free.now mols rank is c.loop-rank-test.true in
    elim c.if-free-rank.branch [
      | then-free-rank+then-is_some+in_ok-push w ↦
          let seeker : Seeker = record { place = (mol_at mols rank).place; rank = rank } in
          let items : c.if-free-rank.seekers.items ≡ so_far ++ seeker ∷ [] =
          ap (λ (seekers : Vec Seeker Global). seekers.items) w.seekers-is ∙ w.in_ok-push.ensures.items in
          record {
            seekers = λ seed k is. subst (All (IsSeeker draft seed k mols)) (sym items)
                (All-push (IsSeeker draft seed k mols) so_far seeker (c.loop-rank.invariant.seekers seed k is)
                (record { rank = c.loop-rank-test.true; place = refl; free = sym (here seed k is) ∙ w.if-free-rank.true }));
            covered = λ seed k is. subst (AreCovered draft seed k mols (rank + 1)) (sym items)
                (covered_next draft seed k mols rank so_far (c.loop-rank.invariant.covered seed k is) seeker refl);
          }
      | else-free-rank w ↦
          let items : c.if-free-rank.seekers.items ≡ so_far = ap (λ (seekers : Vec Seeker Global). seekers.items) w.seekers-is in
          record {
            seekers = λ seed k is. subst (All (IsSeeker draft seed k mols)) (sym items) (c.loop-rank.invariant.seekers seed k is);
            covered = λ seed k is. subst (AreCovered draft seed k mols (rank + 1)) (sym items)
                (covered_passed draft seed k mols rank so_far (c.loop-rank.invariant.covered seed k is)
                (λ free some. elim w.else-free-rank.branch [
                  | else-free-rank-via-then-free-rank+else-is_some u ↦ absurd (never (sym some ∙ ap is_some (sym u.reach.ensures) ∙ sym u.is_some.ensures ∙ u.if-is_some.false))
                  | else-free-rank-via-else-free-rank u ↦ absurd (never (sym free ∙ sym (here seed k is) ∙ u.if-free-rank.false))
                ]));
          }
    ]
