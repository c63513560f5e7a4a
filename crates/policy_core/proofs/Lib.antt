pub mod Wholes
pub mod FileRules
mod Repeats
mod Asked
mod TrustedHash
mod Policies
mod Chains
mod Items
pub mod Sets
pub mod Judgements
