pub mod SnapshotLaws
pub mod BatchLaws
pub mod RecordLaws
pub mod ImageLaws
pub mod Depths
pub mod Texts
