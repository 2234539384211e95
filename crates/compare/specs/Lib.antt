pub mod Filings
pub mod Relabels
pub mod Verdicts
