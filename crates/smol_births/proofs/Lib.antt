mod Drawn
mod Born
mod Table
