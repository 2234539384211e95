pub mod Filings
pub mod Goes
