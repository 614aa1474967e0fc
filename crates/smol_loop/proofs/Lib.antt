mod OnPages
mod Joining
mod Lone
mod ToldFaults
mod Phases
mod StepsMade
mod Whole
mod Endings
