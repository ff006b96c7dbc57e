pub mod Arguments
pub mod Cuts
pub mod Edges
pub mod Refusals
pub mod Shapes
pub mod Texts
