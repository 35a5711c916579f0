mod MemberNames
mod LoneItems
mod KeyLaws
pub mod ShortLaws
