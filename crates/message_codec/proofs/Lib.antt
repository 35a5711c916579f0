pub mod KeyTests
pub mod Lengths
pub mod PartLaws
pub mod WireLaws
pub mod SaneLaws
pub mod LockLaws
pub mod RoleLaws
pub mod Refusals
