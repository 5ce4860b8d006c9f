pub mod ReadingLemmas
pub mod CuttingLemmas
pub mod PushLemmas
pub mod CameLemmas
pub mod SizeLemmas
pub mod ByteLemmas
