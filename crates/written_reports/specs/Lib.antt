-- What the contracts of `written_reports` cite.
pub mod WrittenReports
