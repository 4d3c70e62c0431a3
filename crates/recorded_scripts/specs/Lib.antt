pub mod Scripts
pub mod ScriptLaws
pub mod ScriptExamples
