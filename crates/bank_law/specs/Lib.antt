pub mod Job
pub mod Serial
pub mod SerialState
pub mod Machine
pub mod Sound
pub mod History
pub mod Lawful
pub mod Laws
