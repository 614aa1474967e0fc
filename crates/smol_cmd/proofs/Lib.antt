pub mod WhoLemmas
pub mod EchoLemmas
pub mod OutputNames
pub mod Commanded
pub mod Values
pub mod Between
pub mod Numbered
pub mod Sound
