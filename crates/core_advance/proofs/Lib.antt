pub mod EndBlock
pub mod SideLaws
pub mod AdvanceLaws
