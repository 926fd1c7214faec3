-- A text that has a tree is refused, or it is valid.
use Rattle.std.proofs.Common.{◌≡◌, ◌≢◌, ◌⊎◌, ℕ, List, [], ◌∷◌, inl, inr, refl, sym, subst, ◌∙◌}
use Rattle.cedar_identifiers.specs.declared.raw_name.RawName.{RawName}
use Rattle.cedar_names.specs.Meaning.{SchemaMeaning}
use Rattle.cedar_names.specs.declared.extension_table.ExtensionTable.{ExtensionTable}
use Rattle.schema_syntax_tree.specs.declared.annotated.Annotated.{Annotated}
use Rattle.schema_syntax_tree.specs.declared.namespace.Namespace.{Namespace}
use Rattle.schema_syntax.specs.ParseAnswers.{IsTreeOfText}
use Rattle.schema_json.specs.declared.fragment.Fragment.{Fragment}
use Rattle.schema_json.specs.AsWritten.{as_written}
use Rattle.schema_convert_errors.specs.declared.error_list.CedarSchemaParseErrors.{CedarSchemaParseErrors}
use Rattle.schema_convert_errors.specs.declared.error_list.CedarSchemaParseErrors.TheVariants.{JsonError}
use Rattle.schema_convert_errors.specs.declared.errors.ToJsonSchemaError.{ToJsonSchemaError}
use Rattle.schema_convert_errors.specs.declared.warnings.SchemaWarning.{SchemaWarning}
use Rattle.schema_convert_faults.specs.Faults.{translation_faults}
use Rattle.schema_convert_faults.specs.Shadowings.{shadowings}
use Rattle.schema_convert_plain.specs.Translation.{translated}
use Rattle.schema_convert.specs.Translated.{IsTranslationOfText}
use Rattle.schema_build_checks.specs.Rows.{Never}
use Rattle.schema_build_errors.specs.declared.captured.ReferenceCaptured.{ReferenceCaptured}
use Rattle.schema_build_errors.specs.declared.schema_error.SchemaError.{SchemaError}
use Rattle.schema_build_parts.specs.BuildFaults.{BuildFault}
use Rattle.schema_build_text.specs.Captured.{captured_items, IsFirstOf}
use Rattle.schema_build_text.specs.Walk.{ItemContent}
use Rattle.schema_build_types.specs.Standing.{schema_as_built}
use Rattle.schema_build.specs.FaultsTold.{IsInOrder}
use Rattle.schema_build.specs.Meaning.{FragmentMeaning}
use Rattle.schema_build.specs.Texts.{IsParseRefusal}
use Rattle.cedar_schema_core_faults.specs.declared.recover_error.RecoverError.{RecoverError}
use Rattle.cedar_schema_core_faults.specs.declared.recover_error.RecoverError.TheVariants.{Parse, Schema, Captured}
use Rattle.cedar_schema_core_faults.specs.declared.recover_error.RecoverError.TheVariants.{Memory}
use Rattle.laws_plans.proofs.Told.{captured_told}
use Rattle.cedar_schema_core.specs.Meanings.{TextMeaning, Warns}
use Rattle.cedar_schema_core.specs.Recovery.{IsRefusal}

-- the text is refused, for a reason other than memory
abbrev pub IsRefusedText : List ℕ → ExtensionTable → Type 0
IsRefusedText text table = (e : RecoverError) × (e ≢ Memory) × IsRefusal text table e

-- the text is valid, with its warnings
abbrev pub IsValidText : List ℕ → ExtensionTable → Type 0
IsValidText text table =
    (m : SchemaMeaning) × (warnings : List SchemaWarning) × TextMeaning text table m × Warns text table warnings

-- the text is translated to nothing, or to a fragment
abbrev pub IsUntranslated : List ℕ → Type 0
IsUntranslated text = (e : CedarSchemaParseErrors) × IsParseRefusal text e

abbrev pub IsTranslated : List ℕ → ExtensionTable → Type 0
IsTranslated text table =
    (f : Fragment RawName as_written) × (warnings : List SchemaWarning) × IsTranslationOfText text table f warnings

-- a tree has faults or a translation
pub tree_translated : (text : List ℕ) (table : ExtensionTable) (tree : List (Annotated Namespace))
    → IsTreeOfText text tree → IsUntranslated text ⊎ IsTranslated text table
tree_translated text table tree is = by_faults (translation_faults tree) refl
  where
    by_faults : (faults : List ToJsonSchemaError) → translation_faults tree ≡ faults
        → IsUntranslated text ⊎ IsTranslated text table
    by_faults [] e = inr (
      translated tree,
      shadowings tree table,
      (tree, is, record { lawful = e; is = refl; warned = refl }),
    )
    by_faults (x ∷ xs) e = inl (
      JsonError (record { errors = x ∷ xs }),
      (tree, is, record { all = sym e; some = λ none. let k : x ∷ xs ≡ [] = sym e ∙ none in cc }),
    )

module _ (ordered : (text : List ℕ) (table : ExtensionTable) (f : Fragment RawName as_written) (w : List SchemaWarning)
    → IsTranslationOfText text table f w → IsInOrder f)
    (built : (f : Fragment RawName as_written) (table : ExtensionTable) → IsInOrder f
    → ((e : SchemaError) × BuildFault f table e)
    ⊎ (Never (BuildFault f table) × ((m : SchemaMeaning) × FragmentMeaning f table m))) where
  parse_is_not_memory : (e : CedarSchemaParseErrors) → Parse e ≡ Memory → ⊥
  parse_is_not_memory e h = cc

  schema_is_not_memory : (e : SchemaError) → Schema e ≡ Memory → ⊥
  schema_is_not_memory e h = cc

  captured_is_not_memory : (e : ReferenceCaptured) → Captured e ≡ Memory → ⊥
  captured_is_not_memory e h = cc

  -- a fragment that means something has a first captured item or none
  meant : (text : List ℕ) (table : ExtensionTable) (f : Fragment RawName as_written) (w : List SchemaWarning)
      (m : SchemaMeaning) → IsTranslationOfText text table f w → Never (BuildFault f table) → FragmentMeaning f table m
      → IsRefusedText text table ⊎ IsValidText text table
  meant text table f w m t none means = by_items (captured_items (schema_as_built m)) refl
    where
      by_items : (items : List ItemContent) → captured_items (schema_as_built m) ≡ items
          → IsRefusedText text table ⊎ IsValidText text table
      by_items [] e = inr (
        m,
        w,
        record { fragment = f; translated = (w, t); faultless = none; means = means; uncaptured = e },
        (f, t),
      )
      by_items (x ∷ others) e =
          let c = captured_told f table m means x others e in
          inl (
            Captured c.0,
            captured_is_not_memory c.0,
            record {
              fragment = f;
              translated = (w, t);
              faultless = none;
              meaning = m;
              means = means;
              first = subst (λ items. IsFirstOf items c.0) (sym e) c.1;
            },
          )

  -- a fragment of a text has a refusal or a meaning
  pub fragment_cases : (text : List ℕ) (table : ExtensionTable) (f : Fragment RawName as_written)
      (w : List SchemaWarning)
      → IsTranslationOfText text table f w → IsRefusedText text table ⊎ IsValidText text table
  fragment_cases text table f w t = elim (built f table (ordered text table f w t)) [
    | inl e ↦ inl (Schema e.0, schema_is_not_memory e.0, (f, (w, t), e.1))
    | inr b ↦ meant text table f w b.1.0 t b.0 b.1.1
  ]

  -- a text that has a tree is refused or valid
  pub tree_cases : (text : List ℕ) (table : ExtensionTable) (tree : List (Annotated Namespace)) → IsTreeOfText text tree
      → IsRefusedText text table ⊎ IsValidText text table
  tree_cases text table tree is = elim (tree_translated text table tree is) [
    | inl e ↦ inl (Parse e.0, parse_is_not_memory e.0, e.1)
    | inr t ↦ fragment_cases text table t.0 t.1 t.2
  ]
