pub mod CauseLaws
pub mod StatusLaws
pub mod LogLaws
pub mod CauseTexts
pub mod GrownLogs
