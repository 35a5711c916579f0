pub mod Positions
pub mod Runs
pub mod Orders
pub mod Calls
pub mod Declared
pub mod Collecting
pub mod SeenSerial
