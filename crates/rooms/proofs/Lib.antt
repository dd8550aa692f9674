pub mod AsLeft
