-- The laws of `clause_list`, each file a subject.
pub mod ReadingLaws
pub mod RowLaws
pub mod ListLaws
pub mod ClauseLaws
pub mod NumberLaws
pub mod SectionLaws
pub mod RunLaws
pub mod StopLaws
pub mod BorderLaws
pub mod WholeLaws
pub mod CodedLaws
pub mod WalkLaws
pub mod DifferLaws
