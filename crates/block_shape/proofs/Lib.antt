pub mod Laws
pub mod Passing
pub mod HolderLaws
pub mod WaitLaws
pub mod MostLaws
