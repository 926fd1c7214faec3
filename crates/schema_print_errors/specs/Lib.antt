pub mod SyntaxErrorTexts
