pub mod NameLemmas
pub mod SetLemmas
pub mod Passing
pub mod Ranges
pub mod Between
