pub mod SizeLemmas
pub mod MirrorLemmas
