mod FrontLaws
pub mod KeyLaws
pub mod Places
pub mod KeyTexts
