pub mod Widths
pub mod Produced
