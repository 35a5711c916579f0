pub mod Held
pub mod Trial
pub mod TrialLaws
