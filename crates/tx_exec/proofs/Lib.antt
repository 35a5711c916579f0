mod Settled
mod Lent
mod Rent
pub mod Fitting
mod Steps
mod GrownLogs
pub mod Small
pub mod Outcomes
pub mod Keeping
pub mod Foreign
pub mod Works
