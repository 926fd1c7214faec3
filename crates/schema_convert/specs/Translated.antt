-- What a text is translated to, or why it, or a tree, is not.
use Rattle.std.specs.Prelude.{◌≡◌, ◌≢◌, ℕ, List, []}
use Rattle.cedar_identifiers.specs.declared.raw_name.RawName.{RawName}
use Rattle.cedar_names.specs.declared.extension_table.ExtensionTable.{ExtensionTable}
use Rattle.schema_syntax_tree.specs.declared.annotated.Annotated.{Annotated}
use Rattle.schema_syntax_tree.specs.declared.namespace.Namespace.{Namespace}
use Rattle.schema_syntax_errors.specs.declared.parse_schema_error.ParseSchemaError.TheVariants as parse
use Rattle.schema_syntax.specs.ParseAnswers.{IsTreeOfText, IsRefusalOf}
use Rattle.schema_json.specs.declared.fragment.Fragment.{Fragment}
use Rattle.schema_json.specs.AsWritten.{as_written}
use Rattle.schema_convert_errors.specs.declared.error_list.CedarSchemaParseErrors.{CedarSchemaParseErrors}
use Rattle.schema_convert_errors.specs.declared.error_list.CedarSchemaParseErrors.TheVariants.{SyntaxError, JsonError}
use Rattle.schema_convert_errors.specs.declared.error_list.CedarSchemaParseErrors.TheVariants.{Memory}
use Rattle.schema_convert_errors.specs.declared.error_list.ToJsonSchemaErrors.{ToJsonSchemaErrors}
use Rattle.schema_convert_errors.specs.declared.error_list.ToJsonSchemaFailure.{ToJsonSchemaFailure}
use Rattle.schema_convert_errors.specs.declared.error_list.ToJsonSchemaFailure.TheVariants as failure
use Rattle.schema_convert_errors.specs.declared.warnings.SchemaWarning.{SchemaWarning}
use Rattle.schema_convert_faults.specs.Faults.{translation_faults}
use Rattle.schema_convert_plain.specs.Translation.{IsTranslation}

-- the tree has faults, and these are all of them
pub record AreItsFaults (tree : List (Annotated Namespace)) (errors : ToJsonSchemaErrors) : Type 0 where
  pub all : errors.errors ≡ translation_faults tree
  pub some : translation_faults tree ≢ []

-- what a failure of a tree is: these are its faults, or memory was out
abbrev pub IsFailureOf : List (Annotated Namespace) → ToJsonSchemaFailure → Type 0
IsFailureOf tree (failure.Errors errors) = AreItsFaults tree errors
IsFailureOf tree failure.Memory = Unit {0}

-- the text has a tree, and this is its translation
abbrev pub IsTranslationOfText : List ℕ → ExtensionTable → Fragment RawName as_written → List SchemaWarning → Type 0
IsTranslationOfText text table fragment warnings =
    (tree : List (Annotated Namespace)) × IsTreeOfText text tree × IsTranslation tree table fragment warnings

-- the text has no tree, and this is its fault, or its tree has these faults
abbrev pub IsParseFailureOf : List ℕ → CedarSchemaParseErrors → Type 0
IsParseFailureOf text (SyntaxError errors) = IsRefusalOf text (parse.Errors errors)
IsParseFailureOf text (JsonError errors) =
    (tree : List (Annotated Namespace)) × IsTreeOfText text tree × AreItsFaults tree errors
IsParseFailureOf text Memory = Unit {0}
