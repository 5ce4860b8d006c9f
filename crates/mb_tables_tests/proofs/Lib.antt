pub mod Multiples
pub mod NormalShapes
