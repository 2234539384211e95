pub mod Decimals
pub mod KindLaws
pub mod Padding
pub mod Prefixes
pub mod Weights
