-- A JSON text is refused for one reason, or means something.
use Rattle.std.proofs.Common.{◌≡◌, ◌≢◌, ℕ, List, [], ◌∷◌, None, inl, inr, refl, ap, subst}
use Rattle.std.specs.List.{flat_map}
use Rattle.cedar_identifiers.specs.declared.raw_name.RawName.{RawName}
use Rattle.cedar_names.specs.Meaning.{SchemaMeaning}
use Rattle.cedar_names.specs.declared.extension_table.ExtensionTable.{ExtensionTable}
use Rattle.schema_json.specs.declared.fragment.Fragment.{Fragment}
use Rattle.schema_json.specs.AsWritten.{as_written}
use Rattle.schema_json_errors.specs.declared.json_error.JsonDeserializationError.{JsonDeserializationError}
use Rattle.schema_json_errors.specs.declared.json_fault.JsonFault.TheVariants as cause
use Rattle.laws_json.proofs.Current.OneReading.{one_text_fragment, one_error, said_or_refused}
use Rattle.laws_json.proofs.Deprecated.OneOldReading.{one_old_text, one_old_error, old_said_or_refused}
use Rattle.schema_build.specs.FaultsTold.{AreToldAlike, IsInOrder}
use Rattle.schema_build.specs.Meaning.{FragmentMeaning}
use Rattle.schema_build_errors.specs.declared.captured.ReferenceCaptured.{ReferenceCaptured}
use Rattle.schema_build_errors.specs.declared.schema_error.SchemaError.{SchemaError}
use Rattle.schema_build_errors.specs.declared.schema_error.SchemaError.TheVariants.{JsonDeserialization}
use Rattle.schema_build_checks.specs.Rows.{Never}
use Rattle.schema_build_parts.specs.BuildFaults.{BuildFault}
use Rattle.schema_build_text.specs.Captured.{IsFirstCaptured, captured_items}
use Rattle.schema_build_types.specs.Standing.{schema_as_built}
use Rattle.cedar_schema_core_faults.specs.Told.{Told, fault_text, told_lines}
use Rattle.cedar_schema_core_faults.specs.declared.recover_error.RecoverError.{RecoverError}
use Rattle.cedar_schema_core_faults.specs.declared.recover_error.RecoverError.TheVariants.{Parse, Schema, Captured}
use Rattle.cedar_schema_core_faults.specs.declared.recover_error.RecoverError.TheVariants.{Memory}
use Rattle.cedar_schema_core.specs.declared.json_texts.JsonForm.{JsonForm}
use Rattle.cedar_schema_core.specs.declared.json_texts.JsonForm.TheVariants.{Current, Deprecated}
use Rattle.cedar_schema_core.specs.Json.{SaysIn, IsErrorIn, JsonMeaning, IsValidJson, IsReadError}
use Rattle.cedar_schema_core.specs.Json.{IsRefusalOfJson}
use Rattle.cedar_schema_core.specs.Steps.{IsUnread, IsUnbuilt, IsUnprinted}
use Rattle.cedar_schema_core.proofs.JsonInOrder.{json_in_order}
use Rattle.cedar_schema_core.proofs.OldInOrder.{old_in_order}
use Rattle.cedar_schema_core.proofs.OneRefusal.{captured_once, told_once}
use Rattle.cedar_schema_core.proofs.Refusals.{none_first}

-- ---- one reading of each form

error_once : (form : JsonForm) (text : List ℕ) (x y : JsonDeserializationError) → x.fault ≢ cause.Memory
    → y.fault ≢ cause.Memory → IsErrorIn form text x → IsErrorIn form text y → x ≡ y
error_once Current text x y m n h k = one_error text x y m n h k
error_once Deprecated text x y m n h k = one_old_error text x y m n h k

says_once : (form : JsonForm) (text : List ℕ) (f g : Fragment RawName as_written) → SaysIn form text f
    → SaysIn form text g → f ≡ g
says_once Current text f g h k = one_text_fragment text f g h k
says_once Deprecated text f g h k = one_old_text text f g h k

read_once : (form : JsonForm) (text : List ℕ) (a b : SchemaError) → IsReadError form text a → IsReadError form text b
    → fault_text text (Schema a) ≡ fault_text text (Schema b)
read_once form text (JsonDeserialization x) (JsonDeserialization y) h k =
    ap (λ e. fault_text text (Schema (JsonDeserialization e))) (error_once form text x y h.0 k.0 h.1 k.1)
read_once form text (JsonDeserialization x) _ h k = absurd k
read_once form text _ b h k = absurd h

error_or_said : (form : JsonForm) (text : List ℕ) (f : Fragment RawName as_written) (x : JsonDeserializationError)
    → SaysIn form text f → x.fault ≢ cause.Memory → IsErrorIn form text x → ⊥
error_or_said Current text f x s n h = said_or_refused text f x s n h
error_or_said Deprecated text f x s n h = old_said_or_refused text f x s n h

read_or_said : (form : JsonForm) (text : List ℕ) (a : SchemaError) (f : Fragment RawName as_written)
    → IsReadError form text a → SaysIn form text f → ⊥
read_or_said form text (JsonDeserialization x) f h s = error_or_said form text f x s h.0 h.1
read_or_said form text _ f h s = h

-- the fragment that the text says is in order
ordered : (form : JsonForm) (text : List ℕ) (f : Fragment RawName as_written) → SaysIn form text f → IsInOrder f
ordered Current text f (d, holds, shape) = json_in_order d f shape.1
ordered Deprecated text f (d, holds, (s, is_read, made)) = old_in_order s f made.1

-- ---- each step that refuses

module _ (form : JsonForm) (text : List ℕ) (table : ExtensionTable) where
  pub unread : (e : RecoverError) → IsUnread form text e → IsRefusalOfJson form text table e
  unread (Parse errors) h = h
  unread (Schema error) h = inl h
  unread (Captured captured) h = absurd h
  unread Memory h = tt

  module _ (f : Fragment RawName as_written) (says : SaysIn form text f) where
    pub unbuilt_json : (e : RecoverError) → IsUnbuilt f table e → IsRefusalOfJson form text table e
    unbuilt_json (Parse errors) h = h
    unbuilt_json (Schema error) h = inr (f, says, h)
    unbuilt_json (Captured captured) h = absurd h
    unbuilt_json Memory h = tt

    pub unprinted_json : Never (BuildFault f table) → (m : SchemaMeaning) → FragmentMeaning f table m
        → (e : RecoverError)
        → IsUnprinted m e → IsRefusalOfJson form text table e
    unprinted_json faultless m means (Parse errors) h = h
    unprinted_json faultless m means (Schema error) h = absurd h
    unprinted_json faultless m means (Captured captured) h =
        record { fragment = f; says = says; faultless = faultless; meaning = m; means = means; first = h }
    unprinted_json faultless m means Memory h = tt

-- ---- one meaning or one refusal

module _
    (meaning : (f : Fragment RawName as_written) (table : ExtensionTable) (m n : SchemaMeaning)
    → FragmentMeaning f table m → FragmentMeaning f table n → m ≡ n)
    (form : JsonForm) (text : List ℕ) (table : ExtensionTable) where
  pub one_json_meaning : (m n : SchemaMeaning) → JsonMeaning form text table m → JsonMeaning form text table n → m ≡ n
  one_json_meaning m n h k =
      let same = says_once form text h.fragment k.fragment h.says k.says in
      meaning k.fragment table m n (subst (λ f. FragmentMeaning f table m) same h.means) k.means

  pub json_invalid : (e : RecoverError) → IsRefusalOfJson form text table e → e ≢ Memory
      → IsValidJson form text table → ⊥
  json_invalid (Parse errors) h other valid = h
  json_invalid (Schema error) (inl h) other valid = read_or_said form text error valid.1.fragment h valid.1.says
  json_invalid (Schema error) (inr (f, s, h)) other valid =
      let same = says_once form text f valid.1.fragment s valid.1.says in
      valid.1.faultless error (subst (λ z. BuildFault z table error) same h)
  json_invalid (Captured captured) h other valid =
      let fragment = says_once form text h.fragment valid.1.fragment h.says valid.1.says in
      let same = meaning valid.1.fragment table h.meaning valid.0
      (subst (λ f. FragmentMeaning f table h.meaning) fragment h.means) valid.1.means in
      none_first valid.0 captured valid.1.uncaptured (subst (λ m. IsFirstCaptured m captured) same h.first)
  json_invalid Memory h other valid = other refl

  module _ (build_once : (f : Fragment RawName as_written) (table : ExtensionTable) (e other : SchemaError)
      → IsInOrder f → BuildFault f table e → BuildFault f table other → AreToldAlike e other) where
    both_schema : (a b : SchemaError) → IsRefusalOfJson form text table (Schema a)
        → IsRefusalOfJson form text table (Schema b)
        → fault_text text (Schema a) ≡ fault_text text (Schema b)
    both_schema a b (inl h) (inl k) = read_once form text a b h k
    both_schema a b (inl h) (inr (f, s, k)) = absurd (read_or_said form text a f h s)
    both_schema a b (inr (f, s, h)) (inl k) = absurd (read_or_said form text b f k s)
    both_schema a b (inr (f, s, h)) (inr (g, t, k)) =
        let same = says_once form text f g s t in
        told_once a b (build_once g table a b (ordered form text g t) (subst (λ z. BuildFault z table a) same h) k)

    schema_or_captured : (a : SchemaError) (c : ReferenceCaptured) → IsRefusalOfJson form text table (Schema a)
        → IsRefusalOfJson form text table (Captured c) → ⊥
    schema_or_captured a c (inl h) k = read_or_said form text a k.fragment h k.says
    schema_or_captured a c (inr (f, s, h)) k =
        k.faultless a (subst (λ z. BuildFault z table a) (says_once form text f k.fragment s k.says) h)

    -- what is told of a refusal of the JSON text is one
    pub json_refusal_once : (e other : RecoverError) → e ≢ Memory → other ≢ Memory → IsRefusalOfJson form text table e
        → IsRefusalOfJson form text table other → fault_text text e ≡ fault_text text other
    json_refusal_once (Schema a) (Schema b) n m h k = both_schema a b h k
    json_refusal_once (Schema a) (Captured c) n m h k = absurd (schema_or_captured a c h k)
    json_refusal_once (Captured c) (Schema a) n m h k = absurd (schema_or_captured a c k h)
    json_refusal_once (Captured a) (Captured b) n m h k =
        let fragment = says_once form text h.fragment k.fragment h.says k.says in
        let same = meaning k.fragment table h.meaning k.meaning
        (subst (λ f. FragmentMeaning f table h.meaning) fragment h.means) k.means in
        let first = subst (λ m. IsFirstCaptured m a) same h.first in
        ap (λ words. let t : Told = record { text = words; labels = []; help = None } in flat_map told_lines (t ∷ []))
        (captured_once (captured_items (schema_as_built k.meaning)) a b first k.first)
    json_refusal_once (Parse a) other n m h k = absurd h
    json_refusal_once (Schema a) (Parse b) n m h k = absurd k
    json_refusal_once (Captured a) (Parse b) n m h k = absurd k
    json_refusal_once Memory other n m h k = absurd (n refl)
    json_refusal_once (Schema a) Memory n m h k = absurd (m refl)
    json_refusal_once (Captured a) Memory n m h k = absurd (m refl)
