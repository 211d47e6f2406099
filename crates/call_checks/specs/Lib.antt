pub mod CheckAnswers
pub mod CheckTests
pub mod FirstChecks
pub mod Ways
