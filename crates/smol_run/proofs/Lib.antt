pub mod Items
pub mod Spelling
mod Ensembles
pub mod Openings
pub mod Cuts
pub mod EndedRuns
pub mod Files
pub mod Safety
pub mod Statuses
pub mod PlainText
pub mod MadeLines
pub mod MadeRead
pub mod PlainFiles
