-- Texts as what is written, whatever stands between their tokens.
use Rattle.std.specs.Prelude.{ℕ, List}
use Rattle.schema_syntax_tokens.specs.Laid.{Lexeme, HasLexemes}
use Rattle.cedar_identifiers.specs.declared.raw_name.RawName.{RawName}
use Rattle.cedar_names.specs.declared.extension_table.ExtensionTable.{ExtensionTable}
use Rattle.schema_json.specs.declared.fragment.Fragment.{Fragment}
use Rattle.schema_json.specs.AsWritten.{as_written}
use Rattle.laws_written.specs.Spellings.{SpellsSchema}
use Rattle.laws_written.specs.Written.{WrittenItem}
use Rattle.schema_convert_errors.specs.declared.warnings.SchemaWarning.{SchemaWarning}
use Rattle.schema_convert.specs.Translated.{IsTranslationOfText}
use Rattle.schema_build.specs.FaultsTold.{IsInOrder}
use Rattle.laws_build.specs.Orders.Alike.{DeclareTheSame}

-- the tokens of the text spell the items
pub record IsWrittenAs (text : List ℕ) (w : List WrittenItem) : Type 0 where
  pub lexemes : List Lexeme
  pub read : HasLexemes text lexemes
  pub spell : SpellsSchema lexemes w

-- Both texts have tokens of the same kinds and texts, whatever blanks and comments stand between these.
pub record HaveTheSameTokens (text other : List ℕ) : Type 0 where
  pub lexemes : List Lexeme
  pub first : HasLexemes text lexemes
  pub second : HasLexemes other lexemes

-- the text is translated to a fragment in order that declares the same
pub record IsTranslatedAlike (text : List ℕ) (table : ExtensionTable) (f : Fragment RawName as_written) : Type 0 where
  pub fragment : Fragment RawName as_written
  pub warnings : List SchemaWarning
  pub translated : IsTranslationOfText text table fragment warnings
  pub same : DeclareTheSame f fragment
  pub ordered : IsInOrder fragment
