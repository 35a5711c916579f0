pub use Rattle.sbpf_memory.specs.Memory
pub use Rattle.sbpf_memory.specs.Plain
pub mod Limits
pub mod Reads
pub mod Rights
pub mod Calls
