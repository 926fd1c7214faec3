-- A command writes one thing of a text, or refuses it for one reason.
use Rattle.std.proofs.Common.{◌≡◌, ◌≢◌, ◌++◌, ℕ, List, refl, sym, ap, ◌∙◌, IsUtf8}
use Rattle.std.specs.Prelude.{codes}
use Rattle.serde_json.specs.Written.{compact_text}
use Rattle.cedar_identifiers.specs.declared.raw_name.RawName.{RawName}
use Rattle.cedar_names.specs.CanonicalText.{canonical_text}
use Rattle.cedar_names.specs.Meaning.{SchemaMeaning}
use Rattle.cedar_names.specs.declared.extension_table.ExtensionTable.{ExtensionTable}
use Rattle.schema_json.specs.declared.fragment.Fragment.{Fragment}
use Rattle.schema_json.specs.AsWritten.{as_written}
use Rattle.schema_convert_errors.specs.declared.error_list.CedarSchemaParseErrors.{CedarSchemaParseErrors}
use Rattle.schema_convert_errors.specs.declared.warnings.SchemaWarning.{SchemaWarning}
use Rattle.schema_convert.specs.Translated.{IsTranslationOfText}
use Rattle.schema_build.specs.Texts.{IsParseRefusal}
use Rattle.cedar_schema_core.specs.declared.command.Command.{Command}
use Rattle.cedar_schema_core.specs.declared.command.Command.TheVariants.{Recover, Check, ToJson, FromJson, Generate}
use Rattle.cedar_schema_core_faults.specs.Told.{fault_text}
use Rattle.cedar_schema_core_faults.specs.declared.recover_error.RecoverError.{RecoverError}
use Rattle.cedar_schema_core_faults.specs.declared.recover_error.RecoverError.TheVariants.{Parse, Schema, Captured}
use Rattle.cedar_schema_core_faults.specs.declared.recover_error.RecoverError.TheVariants.{Memory}
use Rattle.cedar_schema_core.specs.Answers.{Writes, RefusesText}
use Rattle.cedar_schema_core.specs.Commands.{count_line, made_line}
use Rattle.cedar_schema_core.specs.declared.json_texts.JsonForm.{JsonForm}
use Rattle.cedar_schema_core.specs.Json.{written_value, JsonMeaning, IsValidJson, IsRefusalOfJson}
use Rattle.cedar_schema_core.specs.Meanings.{TextMeaning, IsValid}
use Rattle.cedar_schema_core.specs.Recovery.{IsRefusal}
use Rattle.cedar_schema_core.specs.Steps.{IsUnparsed}
use Rattle.cedar_schema_core.proofs.Refusals.{unparsed}

module _ (one : (text : List ℕ) (table : ExtensionTable) (m n : SchemaMeaning) → TextMeaning text table m
    → TextMeaning text table n → m ≡ n)
    (translation : (text : List ℕ) (table : ExtensionTable) (f g : Fragment RawName as_written)
    (v w : List SchemaWarning) → IsTranslationOfText text table f v → IsTranslationOfText text table g w
    → (f ≡ g) × (v ≡ w))
    (apart : (text : List ℕ) (table : ExtensionTable) (e : CedarSchemaParseErrors) (f : Fragment RawName as_written)
    (w : List SchemaWarning) → IsParseRefusal text e → IsTranslationOfText text table f w → ⊥)
    (invalid : (text : List ℕ) (table : ExtensionTable) (e : RecoverError) → IsRefusal text table e → e ≢ Memory
    → IsValid text table → ⊥)
    (refusal : (text : List ℕ) (table : ExtensionTable) (e other : RecoverError) → IsUtf8 text → e ≢ Memory
    → other ≢ Memory → IsRefusal text table e → IsRefusal text table other → fault_text text e ≡ fault_text text other)
    (json_meaning : (form : JsonForm) (text : List ℕ) (table : ExtensionTable) (m n : SchemaMeaning)
    → JsonMeaning form text table m → JsonMeaning form text table n → m ≡ n)
    (json_refusal : (form : JsonForm) (text : List ℕ) (table : ExtensionTable) (e other : RecoverError) → e ≢ Memory
    → other ≢ Memory → IsRefusalOfJson form text table e → IsRefusalOfJson form text table other
    → fault_text text e ≡ fault_text text other)
    (json_invalid : (form : JsonForm) (text : List ℕ) (table : ExtensionTable) (e : RecoverError)
    → IsRefusalOfJson form text table e → e ≢ Memory → IsValidJson form text table → ⊥) where
  pub writes_once : (c : Command) (text out other : List ℕ) (v w : List SchemaWarning) → Writes c text out v
      → Writes c text other w → (out ≡ other) × (v ≡ w)
  writes_once (Recover table) text out other v w (m, h, l, e) (n, k, r, f) =
      (e ∙ (ap canonical_text (one text table m n h k) ∙ sym f), (translation text table l.0 r.0 v w l.1 r.1).1)
  writes_once (Check table) text out other v w (m, h, l, e) (n, k, r, f) =
      (e ∙ (ap count_line (one text table m n h k) ∙ sym f), (translation text table l.0 r.0 v w l.1 r.1).1)
  writes_once (ToJson table) text out other v w (a, h, l, e) (b, k, r, f) =
      let same = (translation text table a b h.0 k.0 h.1 k.1).0 in
      (e ∙ (ap (λ z. compact_text (written_value z) ++ codes "\n") same ∙ sym f), l ∙ sym r)
  writes_once (FromJson form table) text out other v w (m, h, l, e) (n, k, r, f) =
      (e ∙ (ap canonical_text (json_meaning form text table m n h k) ∙ sym f), l ∙ sym r)
  writes_once (Generate size table) text out other v w (m, h, l, e) (n, k, r, f) =
      (e ∙ (ap (made_line text) (one text table m n h k) ∙ sym f), (translation text table l.0 r.0 v w l.1 r.1).1)

  pub refuses_once : (c : Command) (text : List ℕ) (e other : RecoverError) → IsUtf8 text → e ≢ Memory → other ≢ Memory
      → RefusesText c text e → RefusesText c text other → fault_text text e ≡ fault_text text other
  refuses_once (Recover table) text e other u n m h k = refusal text table e other u n m h k
  refuses_once (Check table) text e other u n m h k = refusal text table e other u n m h k
  refuses_once (ToJson table) text e other u n m h k =
      refusal text table e other u n m (unparsed text table e h) (unparsed text table other k)
  refuses_once (FromJson form table) text e other u n m h k = json_refusal form text table e other n m h k
  refuses_once (Generate size table) text e other u n m h k = refusal text table e other u n m h k

  untranslated : (text : List ℕ) (table : ExtensionTable) (f : Fragment RawName as_written) (w : List SchemaWarning)
      (e : RecoverError) → IsTranslationOfText text table f w → e ≢ Memory → IsUnparsed text e → ⊥
  untranslated text table f w (Parse errors) t n h = apart text table errors f w h t
  untranslated text table f w (Schema error) t n h = h
  untranslated text table f w (Captured captured) t n h = h
  untranslated text table f w Memory t n h = n refl

  pub refuses_or_writes : (c : Command) (text out : List ℕ) (w : List SchemaWarning) (e : RecoverError) → e ≢ Memory
      → RefusesText c text e → Writes c text out w → ⊥
  refuses_or_writes (Recover table) text out w e n h (m, k, l, f) = invalid text table e h n (m, k)
  refuses_or_writes (Check table) text out w e n h (m, k, l, f) = invalid text table e h n (m, k)
  refuses_or_writes (ToJson table) text out w e n h (a, k, l, f) = untranslated text table a k.0 e k.1 n h
  refuses_or_writes (FromJson form table) text out w e n h (m, k, l, f) = json_invalid form text table e h n (m, k)
  refuses_or_writes (Generate size table) text out w e n h (m, k, l, f) = invalid text table e h n (m, k)
