pub mod Activating
pub mod Sorting
pub mod SortedNames
pub mod Beside
pub mod Closings
pub mod RecordPrefixes
