-- Why nothing is recovered, by the step that refuses.
use Rattle.std.proofs.Common.{◌≡◌, ◌≢◌, ℕ, List, refl, subst}
use Rattle.cedar_identifiers.specs.declared.raw_name.RawName.{RawName}
use Rattle.cedar_names.specs.Meaning.{SchemaMeaning}
use Rattle.cedar_names.specs.declared.extension_table.ExtensionTable.{ExtensionTable}
use Rattle.schema_json.specs.declared.fragment.Fragment.{Fragment}
use Rattle.schema_json.specs.AsWritten.{as_written}
use Rattle.schema_convert_errors.specs.declared.error_list.CedarSchemaParseErrors.{CedarSchemaParseErrors}
use Rattle.schema_convert_errors.specs.declared.warnings.SchemaWarning.{SchemaWarning}
use Rattle.schema_convert.specs.Translated.{IsTranslationOfText}
use Rattle.schema_build_errors.specs.declared.captured.ReferenceCaptured.{ReferenceCaptured}
use Rattle.schema_build_parts.specs.BuildFaults.{BuildFault}
use Rattle.schema_build_text.specs.Captured.{IsUncaptured, IsFirstOf, IsFirstCaptured}
use Rattle.schema_build.specs.Meaning.{FragmentMeaning}
use Rattle.cedar_schema_core_faults.specs.declared.recover_error.RecoverError.{RecoverError}
use Rattle.cedar_schema_core_faults.specs.declared.recover_error.RecoverError.TheVariants.{Parse, Schema, Captured}
use Rattle.cedar_schema_core_faults.specs.declared.recover_error.RecoverError.TheVariants.{Memory}
use Rattle.cedar_schema_core.specs.Meanings.{IsValid}
use Rattle.schema_build.specs.Texts.{IsParseRefusal}
use Rattle.cedar_schema_core.specs.Recovery.{IsRefusal}
use Rattle.cedar_schema_core.specs.Steps.{IsUnparsed, IsUnbuilt, IsUnprinted}

-- where nothing is captured, nothing is the first that is
pub none_first : (m : SchemaMeaning) (captured : ReferenceCaptured) → IsUncaptured m → IsFirstCaptured m captured → ⊥
none_first m captured none first = subst (λ items. IsFirstOf items captured) none first

module _ (text : List ℕ) (table : ExtensionTable) where
  pub unparsed : (e : RecoverError) → IsUnparsed text e → IsRefusal text table e
  unparsed (Parse errors) h = h
  unparsed (Schema error) h = absurd h
  unparsed (Captured captured) h = absurd h
  unparsed Memory h = tt

-- a text that is refused means nothing
module _
    (translation : (text : List ℕ) (table : ExtensionTable) (f g : Fragment RawName as_written)
    (v w : List SchemaWarning) → IsTranslationOfText text table f v → IsTranslationOfText text table g w
    → (f ≡ g) × (v ≡ w))
    (apart : (text : List ℕ) (table : ExtensionTable) (e : CedarSchemaParseErrors) (f : Fragment RawName as_written)
    (w : List SchemaWarning) → IsParseRefusal text e → IsTranslationOfText text table f w → ⊥)
    (meaning : (f : Fragment RawName as_written) (table : ExtensionTable) (m n : SchemaMeaning)
    → FragmentMeaning f table m → FragmentMeaning f table n → m ≡ n)
    (text : List ℕ) (table : ExtensionTable) where
  pub unparsed_invalid : (e : RecoverError) → IsUnparsed text e → e ≢ Memory → IsValid text table → ⊥
  unparsed_invalid (Parse errors) h other valid =
      apart text table errors valid.1.fragment valid.1.translated.0 h valid.1.translated.1
  unparsed_invalid (Schema error) h other valid = h
  unparsed_invalid (Captured captured) h other valid = h
  unparsed_invalid Memory h other valid = other refl

  module _ (f : Fragment RawName as_written) (w : List SchemaWarning)
      (translated : IsTranslationOfText text table f w) where
    same_fragment : (valid : IsValid text table) → f ≡ valid.1.fragment
    same_fragment valid = (translation text table f valid.1.fragment w valid.1.translated.0 translated
        valid.1.translated.1).0

    pub unbuilt_invalid : (e : RecoverError) → IsUnbuilt f table e → e ≢ Memory → IsValid text table → ⊥
    unbuilt_invalid (Parse errors) h other valid = h
    unbuilt_invalid (Schema error) h other valid =
        valid.1.faultless error (subst (λ g. BuildFault g table error) (same_fragment valid) h)
    unbuilt_invalid (Captured captured) h other valid = h
    unbuilt_invalid Memory h other valid = other refl

    pub unprinted_invalid : (m : SchemaMeaning) → FragmentMeaning f table m → (e : RecoverError) → IsUnprinted m e
        → e ≢ Memory → IsValid text table → ⊥
    unprinted_invalid m means (Parse errors) h other valid = h
    unprinted_invalid m means (Schema error) h other valid = h
    unprinted_invalid m means (Captured captured) h other valid =
        let there : FragmentMeaning valid.1.fragment table m = subst (λ g. FragmentMeaning g table m)
        (same_fragment valid) means in
        let same : m ≡ valid.0 = meaning valid.1.fragment table m valid.0 there valid.1.means in
        none_first valid.0 captured valid.1.uncaptured (subst (λ n. IsFirstCaptured n captured) same h)
    unprinted_invalid m means Memory h other valid = other refl

  -- a text that is refused means nothing
  pub refused_invalid : (e : RecoverError) → IsRefusal text table e → e ≢ Memory → IsValid text table → ⊥
  refused_invalid (Parse errors) h other valid = unparsed_invalid (Parse errors) h other valid
  refused_invalid (Schema error) h other valid = unbuilt_invalid h.0 h.1.0 h.1.1 (Schema error) h.2 other valid
  refused_invalid (Captured captured) h other valid =
      unprinted_invalid h.fragment h.translated.0 h.translated.1 h.meaning h.means (Captured captured)
      h.first other valid
  refused_invalid Memory h other valid = absurd (other refl)
