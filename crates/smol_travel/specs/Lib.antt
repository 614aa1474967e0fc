pub mod Legs
pub mod Looked
pub mod Meetings
