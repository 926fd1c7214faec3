pub mod Nesting
pub mod SyntaxFaults
pub mod ParseAnswers
