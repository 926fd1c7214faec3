-- A text that is refused is not translated.
use Rattle.std.proofs.Common.{◌≡◌, ℕ, List, ap, ◌∙◌}
use Rattle.cedar_identifiers.specs.declared.raw_name.RawName.{RawName}
use Rattle.cedar_names.specs.declared.extension_table.ExtensionTable.{ExtensionTable}
use Rattle.schema_syntax_tree.specs.declared.annotated.Annotated.{Annotated}
use Rattle.schema_syntax_tree.specs.declared.namespace.Namespace.{Namespace}
use Rattle.schema_syntax_errors.specs.declared.parse_error.ParseError.{ParseError}
use Rattle.schema_syntax.specs.ParseAnswers.{IsTreeOfText, IsErrorOf}
use Rattle.schema_json.specs.declared.fragment.Fragment.{Fragment}
use Rattle.schema_json.specs.AsWritten.{as_written}
use Rattle.schema_convert_errors.specs.declared.error_list.CedarSchemaParseErrors.{CedarSchemaParseErrors}
use Rattle.schema_convert_errors.specs.declared.error_list.CedarSchemaParseErrors.TheVariants as parse
use Rattle.schema_convert_errors.specs.declared.warnings.SchemaWarning.{SchemaWarning}
use Rattle.schema_convert.specs.Translated.{IsTranslationOfText}
use Rattle.schema_convert_faults.specs.Faults.{translation_faults}
use Rattle.schema_build.specs.Texts.{IsParseRefusal}

module _ (one : (text : List ℕ) (tree other : List (Annotated Namespace)) → IsTreeOfText text tree
    → IsTreeOfText text other → tree ≡ other)
    (either : (text : List ℕ) (schema : List (Annotated Namespace)) (error : ParseError) → IsTreeOfText text schema
    → IsErrorOf text error → ⊥) where
  pub not_both : (text : List ℕ) (table : ExtensionTable) (e : CedarSchemaParseErrors) (f : Fragment RawName as_written)
      (w : List SchemaWarning) → IsParseRefusal text e → IsTranslationOfText text table f w → ⊥
  not_both text table parse.Memory f w h k = h
  not_both text table (parse.SyntaxError errors) f w h k = either text k.0 h.0 k.1 h.2
  not_both text table (parse.JsonError errors) f w h k =
      h.2.some (ap translation_faults (one text h.0 k.0 h.1 k.1) ∙ k.2.lawful)
