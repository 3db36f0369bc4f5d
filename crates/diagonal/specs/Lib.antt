pub mod Diagonals
pub mod Laws
