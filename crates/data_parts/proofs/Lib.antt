pub mod PartLaws
pub mod PieceLaws
