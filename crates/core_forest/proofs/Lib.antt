pub mod Growth
pub mod Chains
pub mod GapKinds
