pub mod Singles
pub mod Laws
