-- The first misfit of a value of any type.
use Rattle.std.proofs.Common.{◌≡◌, true, false, refl}
use Rattle.cedar_data.specs.Text.{text_cmp}
use Rattle.cedar_names.specs.Meaning.{PlainType, Attributes, no_more, attribute}
use Rattle.schema_inclusion_values.specs.Values.{Text, Name, Val, Entries, no_entries, entry, Rises, Has}
use Rattle.schema_inclusion_values.specs.Formed.{Distinct, DistinctFields}
use Rattle.schema_inclusion_reasons.specs.Misfits.{IsMisfit}
use Rattle.schema_inclusion_reasons.specs.FirstMisfit.{misfit, named_misfit}
use Rattle.schema_inclusion_reasons.proofs.Refusing.{refuses}
use Rattle.schema_inclusion_reasons.proofs.Firsts.{Exact, bool_exact, long_exact, string_exact, extension_exact}
use Rattle.schema_inclusion_reasons.proofs.Firsts.{entity_exact, set_exact}
use Rattle.schema_inclusion_reasons.proofs.Attributes.{NamedExact, unknown_first, absent_exact, by_order, record_exact}
use Rattle.std.proofs.Common.{Bool}

module _ (Fits : Name → Text → Type 0) (fits : Name → Text → Bool) (fit : (n : Name) (id : Text) → fits n id ≡ true
    → Fits n id) (unfit : (n : Name) (id : Text) → fits n id ≡ false → Fits n id → ⊥) where
  mutual
    pub type_exact : (t : PlainType) → Distinct t → (v : Val)
        → Exact (Has Fits t v) (IsMisfit Fits t v) (misfit fits t v)
    type_exact PlainType.Bool d v = bool_exact v
    type_exact PlainType.Long d v = long_exact v
    type_exact PlainType.String d v = string_exact v
    type_exact (PlainType.Ext n) d v = extension_exact n v
    type_exact (PlainType.Entity n) d v = entity_exact Fits fits fit unfit n v
    type_exact (PlainType.Set t) d v = set_exact (IsMisfit Fits t) (Has Fits t) (refuses Fits t d) (misfit fits t)
        (type_exact t d) v
    type_exact (PlainType.Rec fs) d v = record_exact Fits fs (named_misfit fits fs) (named_exact fs d) v

    named_exact : (fs : Attributes) → DistinctFields fs → (es : Entries) → Rises es
        → NamedExact Fits fs es (named_misfit fits fs es)
    named_exact no_more d no_entries up = (tt, tt)
    named_exact no_more d (entry k v es) up = unknown_first Fits no_more k v es tt up.0
    named_exact (attribute m r t fs) d no_entries up = absent_exact Fits fs m t no_entries d.1 tt r
        (named_misfit fits fs no_entries) (named_exact fs d.2 no_entries tt)
    named_exact (attribute m r t fs) d (entry k v es) up = by_order Fits (text_cmp k m) fs m r t k v es
        (misfit fits t v) (named_misfit fits fs es) (named_misfit fits fs (entry k v es)) refl d.1 up
        (refuses Fits t d.0 v) (type_exact t d.0 v) (named_exact fs d.2 es up.1) (named_exact fs d.2 (entry k v es) up)
