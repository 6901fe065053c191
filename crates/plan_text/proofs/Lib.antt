pub mod Agree
pub mod Files
mod Header
mod Items
pub mod Lines
mod MapArcs
pub mod Most
mod Passes
pub mod Rendered
