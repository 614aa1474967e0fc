mod Deciding
mod Jumps
mod Looking
mod Meets
mod Span
mod Ticks
mod Walking
