pub mod Renewing
pub mod Moving
