use Rattle.std.proofs.lemmas.List.Sorted.{All-permutation}
use Rattle.smol_pairs.specs.Listing.{HasRoom}
use Rattle.smol_pairs.proofs.Measuring.{sorted_rise}
use Rattle.smol_pairs.proofs.listing.sort_measured.Goals as goal

pub returns-clause-rising : goal.returns-clause-rising
returns-clause-rising c =
    let new = c.sort_unstable.new.self.items in
    sorted_rise new (All-permutation HasRoom c.args.measured.now.items new c.sort_unstable.ensures.permutation c.requires) c.sort_unstable.ensures.sorted
