-- Reading what was written of a sayable fragment.
use Rattle.std.proofs.Common.{◌≡◌, ℕ, List, [], true, false, refl, sym, ◌∙◌}
use Rattle.serde_json.specs.Data.{Data}
use Rattle.serde_json.specs.Written.{has_float}
use Rattle.cedar_identifiers.specs.declared.raw_name.RawName.{RawName}
use Rattle.schema_json.specs.declared.fragment.Fragment.{Fragment}
use Rattle.schema_json.specs.AsWritten.{as_written}
use Rattle.schema_json_errors.specs.declared.json_fault.JsonFault.{JsonFault}
use Rattle.schema_json_errors.specs.declared.json_fault.JsonFault.TheVariants as cause
use Rattle.schema_json_values.specs.FragmentValues.{json_value}
use Rattle.schema_json_shapes.specs.Walk.{AllMet, demands, fragment}
use Rattle.schema_json_shapes.proofs.Demands.{met_or_unmet}
use Rattle.schema_json_io.specs.Causes.{IsFirstJsonFault, IsValueCause}
use Rattle.schema_json_io.specs.Texts.{Holds, TextShape, ValueShape}
use Rattle.laws_json.proofs.Current.OneReading.{one_text_fragment}
use Rattle.laws_json.proofs.Current.NoFloats.{fragment_whole}
use Rattle.laws_json.proofs.Current.OneFragment.{one_fragment}
use Rattle.laws_translate.specs.BareFragments.{bare_fragment}
use Rattle.laws_json.specs.Back.Sayable.{IsSayableFragment}
use Rattle.laws_json.proofs.Back.Types.{components}
use Rattle.laws_json.proofs.Back.Fragments.{fragment_back}

false_true : false ≡ true → ⊥
false_true e = cc

faultless : (d : Data) (e : JsonFault) → AllMet (demands fragment [] d) → IsFirstJsonFault d e → ⊥
faultless d e m h = met_or_unmet (demands fragment [] d) h.0 m h.1

-- a lawful value without a float is refused for memory alone
memory_alone : (d : Data) (e : JsonFault) → has_float d ≡ false → AllMet (demands fragment [] d) → IsValueCause d e
    → e ≡ cause.Memory
memory_alone d cause.NotJson w m h = absurd h
memory_alone d (cause.RepeatedKey name) w m h = absurd h
memory_alone d cause.Float w m h = absurd (false_true (sym w ∙ h))
memory_alone d cause.Memory w m h = refl
memory_alone d (cause.UnknownField name) w m h = absurd (faultless d _ m h.1)
memory_alone d (cause.MissingField name) w m h = absurd (faultless d _ m h.1)
memory_alone d (cause.WrongType name) w m h = absurd (faultless d _ m h.1)
memory_alone d (cause.BadName role text fault) w m h = absurd (faultless d _ m h.1)
memory_alone d (cause.ReservedCommonType id) w m h = absurd (faultless d _ m h.1)
memory_alone d cause.EmptyEnum w m h = absurd (faultless d _ m h.1)
memory_alone d (cause.ExternalConflict fields) w m h = absurd (faultless d _ m h.1)
memory_alone d (cause.EnumConflict fields) w m h = absurd (faultless d _ m h.1)
memory_alone d cause.AnnotationsOnEmptyNamespace w m h = absurd (faultless d _ m h.1)

pub value_said : (f : Fragment RawName as_written) → IsSayableFragment f
    → ValueShape (json_value components f) (bare_fragment f)
value_said f p = (fragment_whole RawName components f, fragment_back f p)

pub value_alone : (f g : Fragment RawName as_written) → IsSayableFragment f → ValueShape (json_value components f) g
    → g ≡ bare_fragment f
value_alone f g p h = one_fragment (json_value components f) g (bare_fragment f) h.1.1 (fragment_back f p).1

pub value_refused : (f : Fragment RawName as_written) (e : JsonFault) → IsSayableFragment f
    → IsValueCause (json_value components f) e → e ≡ cause.Memory
value_refused f e p h =
    memory_alone (json_value components f) e (fragment_whole RawName components f) (fragment_back f p).0 h

pub text_said : (text : List ℕ) (f : Fragment RawName as_written) → IsSayableFragment f
    → Holds text (json_value components f) → TextShape text (bare_fragment f)
text_said text f p h = (json_value components f, h, fragment_back f p)

pub text_alone : (text : List ℕ) (f g : Fragment RawName as_written) → IsSayableFragment f
    → Holds text (json_value components f) → TextShape text g → g ≡ bare_fragment f
text_alone text f g p h k = one_text_fragment text g (bare_fragment f) k (text_said text f p h)
