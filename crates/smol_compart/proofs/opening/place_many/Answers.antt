use Rattle.std.proofs.Common.{◌≡◌, ◌+◌, ◌-◌, ℕ, List, Ok, sym, ap, ◌∙◌}
use Rattle.smol_types.specs.declared.state.Mol.{Mol}
use Rattle.smol_types.specs.Placings.{placed_by}
use Rattle.smol_meaning.specs.Placement.{placed_many, placed_one, placed_together}
use Rattle.smol_compart.proofs.Placing.{many_more}
use Rattle.smol_compart.proofs.opening.place_many.Goals as goal

pub loop-i-preserved : goal.loop-i-preserved
loop-i-preserved c =
    let config = c.args.config.now in
    let placing = c.args.placing.now in
    let serial = c.args.serial in
    let i = c.loop-i.i in
    let n = c.placed_by-i-end.result in
    let so_far = c.loop-i.mols.items in
    let mol = c.in_ok-place_one.field-0 in
    let here : placed_one config c.loop-i.streams placing (serial + i) ≡ Ok mol =
    ap (λ (k : ℕ). placed_one config c.loop-i.streams placing (serial + k)) (sym c.from.ensures) ∙ c.in_ok-place_one.ensures.placed in
    let left = λ (seed : ℕ) (mols : List Mol). placed_together (Ok mols) (placed_many config seed placing (serial + (i + 1)) (n - (i + 1))) in
    let all = λ (seed : ℕ). placed_together (Ok c.args.mols.now.items) (placed_many config seed placing serial (placed_by placing)) in
    let same = c.place_one.ensures.seed in
    record {
      placed =
          ap (λ (seed : ℕ). left seed c.push.new.self.items) same
          ∙ ap (left c.loop-i.streams) c.in_ok-push.ensures.items
          ∙ many_more config c.loop-i.streams placing serial i n so_far mol c.loop-i-test.true here
          ∙ c.loop-i.invariant.placed
          ∙ ap all (sym same);
      seed = same ∙ c.loop-i.invariant.seed;
    }
