use Rattle.std.proofs.Common.{◌≤◌, ◌+◌, length, take, sym, arith}
use Rattle.smol_reactions.specs.Rates.{rate_sum}
use Rattle.smol_reactions.proofs.Rated.{sum-more}
use Rattle.smol_reactions.proofs.rates.share_at.Goals as goal

pub threshold_of-requires-clause-rate : goal.threshold_of-requires-clause-rate
threshold_of-requires-clause-rate c =
    let most = c.rate_sum-all.ensures.most in
    let few = c.requires.few in
    omega (arith, most, few)

pub share-requires-clause-before : goal.share-requires-clause-before
share-requires-clause-before c =
    let more = sum-more c.args.species c.args.list.now c.args.number in
    let front = c.rate_sum-before.ensures.value in
    let with = c.rate_sum-upto.ensures.value in
    omega (arith, more, front, with)

pub share-requires-clause-all : goal.share-requires-clause-all
share-requires-clause-all c =
    let most = c.rate_sum-all.ensures.most in
    let few = c.requires.few in
    omega (arith, most, few)
