-- Both shapes are lawful, for every ceiling and every K of document 01; and its own formulas hold of them.
pub mod Logarithm
pub mod OneLevel
pub mod TwoLevel
pub mod Formulas
