pub mod Within
pub mod Items
pub mod Lists
pub mod Members
pub mod Again
pub mod TransactionLaws
pub mod ShownLaws
pub mod Depths
