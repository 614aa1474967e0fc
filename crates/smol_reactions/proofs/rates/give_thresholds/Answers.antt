use Rattle.std.proofs.Common.{◌≡◌, ◌≤◌, ◌<◌, ◌<ℤ◌, ℕ, ℤ, pos, ◌+◌, List, All, length, get_or, unsigned_abs, to_z, of_z, w64, subst, sym, ap, ◌∙◌, arith, rules}
use Rattle.std.proofs.lemmas.Int.{ints}
use Rattle.smol_types.specs.declared.reaction.Reaction.{Reaction}
use Rattle.smol_types.specs.Limits.{latest}
use Rattle.smol_reactions.specs.Reaction.{HasSmallRate}
use Rattle.smol_reactions.specs.Numbered.{changed}
use Rattle.smol_reactions.specs.Rates.{all_rated, threshold_at, with_threshold}
use Rattle.smol_reactions.proofs.Rated.{first_all, first_more, first_none, first_rated, first_small, length-first, some_of}
use Rattle.smol_reactions.proofs.rates.give_thresholds.Goals as goal

-- a time within the limits stays as it is in 64 bits
step_kept : (time : ℤ) → unsigned_abs time ≤ latest → to_z w64 (of_z w64 time) ≡ time
step_kept time small = omega (arith, ints)

pub loop-number-init : goal.loop-number-init
loop-number-init c = record {
  list = first_none (unsigned_abs (to_z w64 (of_z w64 c.args.step))) c.args.list.now.items;
  end = search rules;
}

pub threshold_at-threshold-requires : goal.threshold_at-threshold-requires
threshold_at-threshold-requires c =
    let time = unsigned_abs (to_z w64 (of_z w64 c.args.step)) in
    let items = c.args.list.now.items in
    let number = c.loop-number.number in
    let kept = step_kept c.args.step c.requires.step in
    let list = c.as_slice.ensures.value ∙ c.loop-number.invariant.list in
    let count = ap (λ (list : List Reaction). length list) list ∙ length-first time items number in
    let few = c.requires.few in
    let below = c.loop-number-test.true in
    let end = c.loop-number.invariant.end in
    record {
      within = omega (arith, count, below, end);
      few = omega (arith, count, few);
      small = subst (All HasSmallRate) (sym list) (first_small time items number c.requires.small);
      step = subst (λ (time : ℤ). unsigned_abs time ≤ latest) (sym kept) c.requires.step;
      step_above = subst (λ (time : ℤ). pos 0 <ℤ time) (sym kept) c.requires.step_above;
    }

pub loop-number-preserved : goal.loop-number-preserved
loop-number-preserved c =
    let time = unsigned_abs (to_z w64 (of_z w64 c.args.step)) in
    let items = c.args.list.now.items in
    let number = c.loop-number.number in
    let threshold = c.threshold_at-threshold.result in
    let below = c.loop-number-test.true in
    let end = c.loop-number.invariant.end in
    let within : number < length items = omega (arith, below, end) in
    let some = some_of items (omega (arith, within)) in
    let list = c.as_slice.ensures.value ∙ c.loop-number.invariant.list in
    let is = c.threshold_at-threshold.ensures some ∙ ap (λ list. threshold_at time list number (get_or list number some)) list in
    record {
      list = c.set_threshold.ensures ∙ ap (changed (with_threshold threshold) number) c.loop-number.invariant.list ∙ first_more time items number threshold some within is;
      end = end;
    }

pub returns : goal.returns
returns c =
    let time = unsigned_abs (to_z w64 (of_z w64 c.args.step)) in
    let items = c.args.list.now.items in
    let past = c.loop-number-test.false in
    let end = c.loop-number.invariant.end in
    c.loop-number.invariant.list
    ∙ first_all time items c.loop-number.number (omega (arith, past, end))
    ∙ ap (λ (time : ℤ). all_rated (unsigned_abs time) items) (step_kept c.args.step c.requires.step)
