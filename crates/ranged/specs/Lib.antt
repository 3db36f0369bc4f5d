pub mod Ranged
pub mod Laws
