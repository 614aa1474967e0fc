use Rattle.std.proofs.Common.{◌≡◌, ◌+◌, ◌-◌, ◌*◌, ◌^◌, ◌++◌, min, take, drop, length, sym, ap, ◌∙◌, arith}
use Rattle.smol_num.specs.Digits.{digits_value}
use Rattle.smol_num.proofs.Tens.{scaled, list_all-scaled, grown, answer-fine, answer-whole, answer-limited}
use Rattle.smol_num.proofs.scale.scaled.Goals as goal

pub returns-then-not-are_zero : goal.returns-then-not-are_zero
returns-then-not-are_zero c =
    let whole = c.args.whole.now in
    let fraction = c.args.fraction.now in
    let kept = c.saturating_sub-kept.result in
    let is_kept = c.saturating_sub-kept.ensures ∙ ap (λ k. length whole + length fraction - k) c.saturating_sub.ensures in
    let is_kept_whole = c.split_at.ensures.front ∙ ap (λ k. take k whole) c.min.ensures in
    let is_cut_whole = c.split_at.ensures.back ∙ ap (λ k. drop k whole) c.min.ensures in
    let all = list_all-scaled whole fraction c.split_at.result.0.now c.split_at.result.1.now c.split_at-2.result.0.now c.split_at-2.result.1.now (min kept (length whole)) (kept - length c.split_at.result.0.now) c.requires.digits is_kept_whole is_cut_whole c.split_at-2.ensures.front c.split_at-2.ensures.back in
    sym (scaled whole fraction c.split_at.result.0.now c.split_at.result.1.now c.split_at-2.result.0.now c.split_at-2.result.1.now c.args.raised c.args.lowered kept c.requires.digits is_kept is_kept_whole is_cut_whole c.split_at-2.ensures.front c.split_at-2.ensures.back
    ∙ answer-fine _ (c.split_at.result.1.now ++ c.split_at-2.result.1.now) c.args.raised all.2 (sym c.are_zero.ensures ∙ c.if-not-are_zero.true))

pub returns-then-size-gt-LARGEST : goal.returns-then-size-gt-LARGEST
returns-then-size-gt-LARGEST c =
    let whole = c.args.whole.now in
    let fraction = c.args.fraction.now in
    let kept = c.saturating_sub-kept.result in
    let is_kept = c.saturating_sub-kept.ensures ∙ ap (λ k. length whole + length fraction - k) c.saturating_sub.ensures in
    let is_kept_whole = c.split_at.ensures.front ∙ ap (λ k. take k whole) c.min.ensures in
    let is_cut_whole = c.split_at.ensures.back ∙ ap (λ k. drop k whole) c.min.ensures in
    let all = list_all-scaled whole fraction c.split_at.result.0.now c.split_at.result.1.now c.split_at-2.result.0.now c.split_at-2.result.1.now (min kept (length whole)) (kept - length c.split_at.result.0.now) c.requires.digits is_kept_whole is_cut_whole c.split_at-2.ensures.front c.split_at-2.ensures.back in
    let size = digits_value (c.split_at.result.0.now ++ c.split_at-2.result.0.now) * 10 ^ (c.args.raised - c.args.lowered) in
    let counted : c.times_ten-size.result ≡ min size (10 ^ 18 + 1) =
    let full = grown c.split_at.result.0.now c.split_at-2.result.0.now (c.args.raised - c.args.lowered) (10 ^ 18 + 1) (omega arith) in cc in
    (answer-limited size c.times_ten-size.result counted).0 c.if-size-gt-LARGEST.true
    ∙ sym (scaled whole fraction c.split_at.result.0.now c.split_at.result.1.now c.split_at-2.result.0.now c.split_at-2.result.1.now c.args.raised c.args.lowered kept c.requires.digits is_kept is_kept_whole is_cut_whole c.split_at-2.ensures.front c.split_at-2.ensures.back
    ∙ answer-whole size (c.split_at.result.1.now ++ c.split_at-2.result.1.now) c.args.raised all.2 (sym c.are_zero.ensures ∙ c.if-not-are_zero.false))

pub returns : goal.returns
returns c =
    let whole = c.args.whole.now in
    let fraction = c.args.fraction.now in
    let kept = c.saturating_sub-kept.result in
    let is_kept = c.saturating_sub-kept.ensures ∙ ap (λ k. length whole + length fraction - k) c.saturating_sub.ensures in
    let is_kept_whole = c.split_at.ensures.front ∙ ap (λ k. take k whole) c.min.ensures in
    let is_cut_whole = c.split_at.ensures.back ∙ ap (λ k. drop k whole) c.min.ensures in
    let all = list_all-scaled whole fraction c.split_at.result.0.now c.split_at.result.1.now c.split_at-2.result.0.now c.split_at-2.result.1.now (min kept (length whole)) (kept - length c.split_at.result.0.now) c.requires.digits is_kept_whole is_cut_whole c.split_at-2.ensures.front c.split_at-2.ensures.back in
    let size = digits_value (c.split_at.result.0.now ++ c.split_at-2.result.0.now) * 10 ^ (c.args.raised - c.args.lowered) in
    let counted : c.times_ten-size.result ≡ min size (10 ^ 18 + 1) =
    let full = grown c.split_at.result.0.now c.split_at-2.result.0.now (c.args.raised - c.args.lowered) (10 ^ 18 + 1) (omega arith) in cc in
    (answer-limited size c.times_ten-size.result counted).1 c.if-size-gt-LARGEST.false
    ∙ sym (scaled whole fraction c.split_at.result.0.now c.split_at.result.1.now c.split_at-2.result.0.now c.split_at-2.result.1.now c.args.raised c.args.lowered kept c.requires.digits is_kept is_kept_whole is_cut_whole c.split_at-2.ensures.front c.split_at-2.ensures.back
    ∙ answer-whole size (c.split_at.result.1.now ++ c.split_at-2.result.1.now) c.args.raised all.2 (sym c.are_zero.ensures ∙ c.if-not-are_zero.false))
