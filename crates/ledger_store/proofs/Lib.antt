mod Telling
mod JustReads
mod Beside
mod Same
mod Crashes
mod Differences
mod Lists
mod Widths
mod Files
mod Added
mod Begun
mod MarkTests
pub mod Survived
