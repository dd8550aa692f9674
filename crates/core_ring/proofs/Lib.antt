pub mod Climb
pub mod RingFound
