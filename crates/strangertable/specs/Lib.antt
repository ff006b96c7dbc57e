pub mod Only
pub mod OnlyZTableLemmas
