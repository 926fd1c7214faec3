-- A JSON text says one fragment in the deprecated form, or is refused for one cause.
use Rattle.std.proofs.Common.{◌≡◌, ◌≢◌, ℕ, List, inl, inr, sym, ap, ◌∙◌, subst}
use Rattle.serde_json.specs.Data.{Data}
use Rattle.cedar_identifiers.specs.declared.name_text.NameText as ghosts
use Rattle.cedar_identifiers.specs.declared.raw_name.RawName.{RawName}
use Rattle.schema_json.specs.declared.fragment.Fragment.{Fragment}
use Rattle.schema_json_errors.specs.declared.json_error.JsonDeserializationError.{JsonDeserializationError}
use Rattle.schema_json_errors.specs.declared.json_fault.JsonFault.{JsonFault}
use Rattle.schema_json_errors.specs.declared.json_fault.JsonFault.TheVariants as cause
use Rattle.schema_json_shapes.proofs.Demands.{met_or_unmet}
use Rattle.schema_json_io.specs.Advice.{advice_on, beside}
use Rattle.schema_json_io.specs.Causes.{IsTextCauseBy}
use Rattle.schema_json_io.specs.Faults.{of_shape}
use Rattle.schema_json_io.specs.Texts.{Holds}
use Rattle.laws_json.proofs.Current.OneFragment.{one_fault_of}
use Rattle.laws_json.proofs.Current.OneReading.{one_value, cause_of, caused, one_cause}
use Rattle.schema_compat_types.specs.declared.fragment.SchemaFragment.{SchemaFragment}
use Rattle.schema_compat_shapes.specs.OldParts.{IsOldRead}
use Rattle.schema_compat_shapes.specs.OldWalk.{old_demands}
use Rattle.schema_compat_convert.specs.Converted.{FragmentBecomes, IsFirstConversionFault}
use Rattle.schema_compat_convert.specs.Demands.{asks_fragment}
use Rattle.schema_compat.specs.Causes.{OldText, IsReadFault, IsDataFault, IsOldTextError}
use Rattle.laws_json.proofs.Deprecated.OneConversion.{one_converted}
use Rattle.laws_json.proofs.Deprecated.OneOldFragment.{one_old_fragment}

read_once : (d : Data) (s t : SchemaFragment) → IsOldRead d s → IsOldRead d t → s ≡ t
read_once d s t h k = one_old_fragment d s t h.1 k.1

read_fault_once : (d : Data) (e f : JsonFault) → IsReadFault d e → IsReadFault d f → e ≡ f
read_fault_once d e f (x, is, told) (y, is', told') =
    told ∙ (ap of_shape (one_fault_of (old_demands d) x y is is') ∙ sym told')

data_fault_once : (d : Data) (e f : JsonFault) → IsDataFault d e → IsDataFault d f → e ≡ f
data_fault_once d e f (s, x, r, is, told) (t, y, q, is', told') =
    let same : t ≡ s = read_once d t s q r in
    told ∙ (ap of_shape (one_fault_of (asks_fragment s) x y is (subst (λ z. IsFirstConversionFault z y) same is'))
    ∙ sym told')

-- where the value is read, no text that holds it is refused by a fault of reading
unread : (text : List ℕ) (d : Data) (s : SchemaFragment) (e : JsonFault) → Holds text d → IsOldRead d s
    → e ≢ cause.Memory → IsTextCauseBy IsReadFault text e → ⊥
unread text d s e holds r n h =
    caused IsReadFault text d e holds (λ (x, is, told). met_or_unmet (old_demands d) x r.0 is)
    (cause_of IsReadFault text e n h)

pub one_old_error : (text : List ℕ) (e f : JsonDeserializationError) → e.fault ≢ cause.Memory
    → f.fault ≢ cause.Memory → IsOldTextError text e → IsOldTextError text f → e ≡ f
one_old_error text e f m n (inl h) (inl k) =
    let same : e.fault ≡ f.fault = one_cause IsReadFault text read_fault_once e.fault f.fault
    (cause_of IsReadFault text e.fault m h.0) (cause_of IsReadFault text f.fault n k.0) in
    let advice : e.advice ≡ f.advice = h.1 ∙ (ap (λ c. beside c (advice_on text)) same ∙ sym k.1) in
    λ i. record { fault = same i; advice = advice i }
one_old_error text e f m n (inl h) (inr (d, holds, (s, x, r, is, told), none)) =
    absurd (unread text d s e.fault holds r m h.0)
one_old_error text e f m n (inr (d, holds, (s, x, r, is, told), none)) (inl k) =
    absurd (unread text d s f.fault holds r n k.0)
one_old_error text e f m n (inr (d, holds, first, none)) (inr (d', holds', first', none')) =
    let at : d' ≡ d = one_value text d' d holds'.reads holds.reads in
    let same : e.fault ≡ f.fault = data_fault_once d e.fault f.fault first
    (subst (λ z. IsDataFault z f.fault) at first') in
    let advice : e.advice ≡ f.advice = none ∙ sym none' in
    λ i. record { fault = same i; advice = advice i }

module _ {G : ghosts.Ghosts RawName} where
  pub one_old_text : (text : List ℕ) (f g : Fragment RawName G) → OldText text f → OldText text g → f ≡ g
  one_old_text text f g (d, holds, (s, r, made)) (d', holds', (t, q, made')) =
      let at : d' ≡ d = one_value text d' d holds'.reads holds.reads in
      let same : t ≡ s = read_once d t s (subst (λ z. IsOldRead z t) at q) r in
      one_converted s f g made.1 (subst (λ z. FragmentBecomes z g) same made'.1)

  pub old_said_or_refused : (text : List ℕ) (f : Fragment RawName G) (e : JsonDeserializationError) → OldText text f
      → e.fault ≢ cause.Memory → IsOldTextError text e → ⊥
  old_said_or_refused text f e (d, holds, (s, r, made)) n (inl h) = unread text d s e.fault holds r n h.0
  old_said_or_refused text f e (d, holds, (s, r, made)) n (inr (d', holds', (t, x, q, is, told), none)) =
      let at : d' ≡ d = one_value text d' d holds'.reads holds.reads in
      let same : t ≡ s = read_once d t s (subst (λ z. IsOldRead z t) at q) r in
      met_or_unmet (asks_fragment s) x made.0 (subst (λ z. IsFirstConversionFault z x) same is)
