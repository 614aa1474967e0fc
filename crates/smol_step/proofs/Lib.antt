mod Answered
mod Encountered
mod Freed
mod Halves
mod InPlace
mod Removed
mod Still
