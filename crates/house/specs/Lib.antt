pub mod House
pub mod Laws
