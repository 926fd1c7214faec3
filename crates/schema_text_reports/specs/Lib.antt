pub mod FaultReports
pub mod ReportReplies
pub mod TextReports
