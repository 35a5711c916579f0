mod Walk
mod MergeLaws
mod PartLaws
mod EqualLaws
