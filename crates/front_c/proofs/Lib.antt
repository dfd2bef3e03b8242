pub mod HandleSteps
pub mod RawBoxValues
pub mod ReportingAskedLemmas
pub mod SiteHandleOptions
