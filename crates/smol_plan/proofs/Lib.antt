pub mod SideLemmas
pub mod BelowLemmas
pub mod LinkLemmas
pub mod MatchingLemmas
pub mod TakenLemmas
pub mod StateLemmas
pub mod GoodLemmas
pub mod GoodKept
pub mod ProgressLemmas
pub mod NextLemmas
mod StepLemmas
mod EntryLemmas
mod LinkedLemmas
mod NeighborLemmas
mod PlanLemmas
mod BoardLemmas
mod PairStateLemmas
mod StepOfBoard
