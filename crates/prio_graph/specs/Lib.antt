pub mod Ready
pub mod Chains
pub mod Trees
pub mod Kept
pub mod Chained
pub mod Laws
