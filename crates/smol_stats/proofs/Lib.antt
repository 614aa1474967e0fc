pub mod Tallies
pub mod InBins
pub mod Summed
pub mod Pairs
pub mod ShellLemmas
pub mod Nearby
pub mod Permuted
