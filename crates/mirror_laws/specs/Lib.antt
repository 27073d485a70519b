pub mod MirrorLaws
pub mod StoodLaws
pub mod MessageLaws
pub mod Rows
pub mod StoryRow
