pub mod WorstGap
