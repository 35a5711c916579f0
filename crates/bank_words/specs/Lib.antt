pub mod Options
pub mod Numbers
pub mod Commands
pub mod Spelling
pub mod Reading
pub mod CommandLine
