-- Examples and laws of masks.
pub mod Examples
pub mod Laws
pub mod Sets
