mod Standing
mod Columned
mod TermLists
pub mod Conditioned
mod Reaches
mod Limits
