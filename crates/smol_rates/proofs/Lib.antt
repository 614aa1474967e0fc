pub mod SeriesLemmas
pub mod RatesLemmas
pub mod Sharing
