pub mod Readings
pub mod Fronts
pub mod Unescapes
pub mod ShowsBack
pub mod Tails
pub mod Pieces
