pub mod DigitsLemmas
pub mod Tens
pub mod Places
pub mod DecimalLemmas
pub mod PrintLemmas
pub mod ReadBack
pub mod RootLemmas
pub mod GrammarLemmas
