-- Laws of texts and of what stands at their front.
pub mod ReadingLaws
pub mod NumberLaws
pub mod NumberLemmas
pub mod HeadLemmas
pub mod LineLaws
