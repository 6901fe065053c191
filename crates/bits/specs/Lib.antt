pub mod Word
pub mod Sets
