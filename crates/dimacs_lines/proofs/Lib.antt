pub mod Behind
mod Begins
mod Comments
mod Numbered
mod Prefixes
