pub mod ReplayLaws
pub mod PieceLaws
