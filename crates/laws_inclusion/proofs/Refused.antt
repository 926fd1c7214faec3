-- What is said of a refusal of a text is one, and a text that is refused means nothing.
use Rattle.std.proofs.Common.{◌≡◌, ◌≢◌, ℕ, List, [], ◌∷◌, ◌++◌, refl, sym, ap, ◌∙◌, subst}
use Rattle.std.specs.Prelude.{codes}
use Rattle.cedar_identifiers.specs.declared.raw_name.RawName.{RawName}
use Rattle.cedar_names.specs.Meaning.{SchemaMeaning}
use Rattle.cedar_names.specs.declared.extension_table.ExtensionTable.{ExtensionTable}
use Rattle.schema_syntax_tree.specs.declared.annotated.Annotated.{Annotated}
use Rattle.schema_syntax_tree.specs.declared.namespace.Namespace.{Namespace}
use Rattle.schema_syntax_errors.specs.FaultTexts.{first_error_text}
use Rattle.schema_syntax_errors.specs.declared.parse_error.ParseError.{ParseError}
use Rattle.schema_syntax.specs.ParseAnswers.{IsTreeOfText, IsErrorOf}
use Rattle.schema_json.specs.declared.fragment.Fragment.{Fragment}
use Rattle.schema_json.specs.AsWritten.{as_written}
use Rattle.schema_convert_errors.specs.ErrorTexts.{text_failure_text, first_fault_text}
use Rattle.schema_convert_errors.specs.declared.error_list.CedarSchemaParseErrors.{CedarSchemaParseErrors}
use Rattle.schema_convert_errors.specs.declared.error_list.CedarSchemaParseErrors.TheVariants as parse
use Rattle.schema_convert_errors.specs.declared.warnings.SchemaWarning.{SchemaWarning}
use Rattle.schema_convert_faults.specs.Faults.{translation_faults}
use Rattle.schema_convert_plain.specs.Translation.{translated}
use Rattle.schema_convert.specs.Translated.{IsTranslationOfText}
use Rattle.schema_build_errors.specs.declared.schema_error.SchemaError.{SchemaError}
use Rattle.schema_build_parts.specs.BuildFaults.{BuildFault}
use Rattle.schema_build.specs.FaultsTold.{AreToldAlike, IsInOrder}
use Rattle.schema_build.specs.TextErrorTexts.{text_error_text}
use Rattle.schema_build.specs.Texts.{IsParseRefusal, IsTextError}
use Rattle.schema_build.specs.declared.text_errors.CedarSchemaError.{CedarSchemaError}
use Rattle.schema_build.specs.declared.text_errors.CedarSchemaError.TheVariants.{Schema, Parsing, Memory}
use Rattle.laws_inclusion.specs.TextMeans.{TextMeans}

module _
    (one : (text : List ℕ) (tree other : List (Annotated Namespace)) → IsTreeOfText text tree
    → IsTreeOfText text other → tree ≡ other)
    (either : (text : List ℕ) (schema : List (Annotated Namespace)) (error : ParseError) → IsTreeOfText text schema
    → IsErrorOf text error → ⊥)
    (text : List ℕ) (table : ExtensionTable) where
  one_fragment : (f g : Fragment RawName as_written) (v w : List SchemaWarning) → IsTranslationOfText text table f v
      → IsTranslationOfText text table g w → f ≡ g
  one_fragment f g v w h k = h.2.is ∙ (ap translated (one text h.0 k.0 h.1 k.1) ∙ sym k.2.is)

  apart : (e : CedarSchemaParseErrors) (f : Fragment RawName as_written) (w : List SchemaWarning)
      → IsParseRefusal text e → IsTranslationOfText text table f w → ⊥
  apart parse.Memory f w h k = h
  apart (parse.SyntaxError errors) f w h k = either text k.0 h.0 k.1 h.2
  apart (parse.JsonError errors) f w h k =
      h.2.some (ap translation_faults (one text h.0 k.0 h.1 k.1) ∙ k.2.lawful)

  pub nothing_meant : (e : CedarSchemaError) (m : SchemaMeaning) → e ≢ Memory → IsTextError text table e
      → TextMeans text table m → ⊥
  nothing_meant (Parsing e) m n h k = apart e.errs k.fragment k.translated.0 h.refused k.translated.1
  nothing_meant (Schema e) m n (f, (w, t), h) k =
      let same = one_fragment f k.fragment w k.translated.0 t k.translated.1 in
      k.faultless e (subst (λ g. BuildFault g table e) same h)
  nothing_meant Memory m n h k = n refl

  module _ (error_once : (e other : ParseError) → IsErrorOf text e → IsErrorOf text other → e ≡ other)
      (build_once : (f : Fragment RawName as_written) (e other : SchemaError) → IsInOrder f
      → BuildFault f table e → BuildFault f table other → AreToldAlike e other)
      (ordered : (f : Fragment RawName as_written) (w : List SchemaWarning) → IsTranslationOfText text table f w
      → IsInOrder f) where
    parse_once : (a b : CedarSchemaParseErrors) → IsParseRefusal text a → IsParseRefusal text b
        → text_failure_text a ≡ text_failure_text b
    parse_once parse.Memory b h k = absurd h
    parse_once (parse.SyntaxError x) parse.Memory h k = absurd k
    parse_once (parse.SyntaxError x) (parse.SyntaxError y) (e, is, h) (g, too, k) =
        ap first_error_text (is ∙ ap (λ z. z ∷ []) (error_once e g h k) ∙ sym too)
    parse_once (parse.SyntaxError x) (parse.JsonError y) (e, is, h) (tree, tree_is, k) =
        absurd (either text tree e tree_is h)
    parse_once (parse.JsonError x) parse.Memory h k = absurd k
    parse_once (parse.JsonError x) (parse.SyntaxError y) (tree, tree_is, h) (e, is, k) =
        absurd (either text tree e tree_is k)
    parse_once (parse.JsonError x) (parse.JsonError y) (tree, tree_is, h) (other, other_is, k) =
        ap first_fault_text (h.all ∙ ap translation_faults (one text tree other tree_is other_is) ∙ sym k.all)

    pub refusal_once : (e other : CedarSchemaError) → e ≢ Memory → other ≢ Memory → IsTextError text table e
        → IsTextError text table other → text_error_text e ≡ text_error_text other
    refusal_once (Parsing a) (Parsing b) n m h k =
        ap (λ x. codes "error parsing schema: " ++ x) (parse_once a.errs b.errs h.refused k.refused)
    refusal_once (Parsing a) (Schema b) n m h (f, (w, t), k) = absurd (apart a.errs f w h.refused t)
    refusal_once (Schema a) (Parsing b) n m (f, (w, t), h) k = absurd (apart b.errs f w k.refused t)
    refusal_once (Schema a) (Schema b) n m (f, (v, t), h) (g, (w, u), k) =
        let same = one_fragment f g v w t u in
        (build_once g a b (ordered g w u) (subst (λ z. BuildFault z table a) same h) k).text
    refusal_once Memory other n m h k = absurd (n refl)
    refusal_once (Parsing a) Memory n m h k = absurd (m refl)
    refusal_once (Schema a) Memory n m h k = absurd (m refl)
