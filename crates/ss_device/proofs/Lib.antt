pub mod Goes
pub mod Moments
