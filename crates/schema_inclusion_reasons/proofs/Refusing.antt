-- A misfit is none of a value that the type has.
use Rattle.std.proofs.Common.{◌≡◌, ◌+◌, ℕ, Bool, true, false, [], ◌∷◌, Option, Some, None, inl, inr, refl, sym}
use Rattle.std.proofs.Common.{subst}
use Rattle.std.specs.Prelude.{◌⊎◌}
use Rattle.cedar_names.specs.Meaning.{PlainType, Attributes, no_more, attribute}
use Rattle.schema_inclusion_values.specs.Values.{Text, Name, Val, Vals, no_vals, val, Entries, no_entries, entry}
use Rattle.schema_inclusion_values.specs.Values.{AllVals, AllEntries, IsThere, RequiredThere, IsBool, IsLong, IsStr}
use Rattle.schema_inclusion_values.specs.Values.{IsExt, IsRef, IsSet, IsRec, Has, FieldHas}
use Rattle.schema_inclusion_values.specs.Values as values
use Rattle.schema_inclusion_values.specs.Formed.{AboveFields, Distinct, DistinctFields}
use Rattle.schema_inclusion_values.proofs.Values.{not_below_itself}
use Rattle.schema_inclusion_reasons.specs.Places.{attr, member, Path}
use Rattle.schema_inclusion_reasons.specs.Misfits.{Cause, entry_at, AtMember, BoolMisfit, LongMisfit, StringMisfit}
use Rattle.schema_inclusion_reasons.specs.Misfits.{ExtensionMisfit, EntityMisfit, MembersMisfit, SetMisfit}
use Rattle.schema_inclusion_reasons.specs.Misfits.{EntriesMisfit, RecordMisfit, AttributeMisfit, IsMisfit, NamedMisfit}
use Rattle.schema_inclusion_reasons.proofs.Names.{in_entries, not_there}

bool_refuses : (v : Val) (p : Path) (c : Cause) → BoolMisfit v p c → IsBool v → ⊥
bool_refuses (values.Truth b) p c h g = h
bool_refuses _ p c h g = g

long_refuses : (v : Val) (p : Path) (c : Cause) → LongMisfit v p c → IsLong v → ⊥
long_refuses (values.Number n) p c h g = h
long_refuses _ p c h g = g

string_refuses : (v : Val) (p : Path) (c : Cause) → StringMisfit v p c → IsStr v → ⊥
string_refuses (values.Str s) p c h g = h
string_refuses _ p c h g = g

extension_refuses : (n : Text) (v : Val) (p : Path) (c : Cause) → ExtensionMisfit n v p c → IsExt n v → ⊥
extension_refuses n (values.Ext m) p c h g = h.0 g
extension_refuses n _ p c h g = g

entity_refuses : (Fits : Name → Text → Type 0) (n : Name) (v : Val) (p : Path) (c : Cause) → EntityMisfit Fits n v p c
    → IsRef Fits n v → ⊥
entity_refuses Fits n (values.Ref m id) p c (inl h) g = h.0 g.0
entity_refuses Fits n (values.Ref m id) p c (inr h) g = h.1 g.1
entity_refuses Fits n _ p c h g = g

module _ (P : Val → Path → Cause → Type 0) (H : Val → Type 0) (deny : (v : Val) (p : Path) (c : Cause) → P v p c
    → H v → ⊥)
  where
    member_refuses : (p : Path) (c : Cause) (k i : ℕ) (vs : Vals) → AtMember (λ v. P v p c) k vs i → AllVals H vs → ⊥
    member_refuses p c k i no_vals h g = h
    member_refuses p c k i (val v vs) (inl h) g = deny v p c h.1 g.0
    member_refuses p c k i (val v vs) (inr h) g = member_refuses p c (k + 1) i vs h g.1

    members_refuse : (vs : Vals) (p : Path) (c : Cause) → MembersMisfit P 0 vs p c → AllVals H vs → ⊥
    members_refuse vs [] c h g = h
    members_refuse vs (attr n ∷ p) c h g = h
    members_refuse vs (member i ∷ p) c h g = member_refuses p c 0 i vs h g

    pub set_refuses : (v : Val) (p : Path) (c : Cause) → SetMisfit P v p c → IsSet H v → ⊥
    set_refuses (values.Set vs) p c h g = members_refuse vs p c h g
    set_refuses _ p c h g = g

    at_value : (n : Text) (es : Entries) (o : Option Val) (p : Path) (c : Cause) → entry_at n es ≡ o
        → AttributeMisfit P false o p c → AllEntries (λ n v. H v) es → ⊥
    at_value n es None p c e h g = h
    at_value n es (Some v) p c e h g = deny v p c h (in_entries (λ n v. H v) es n v g e)

    -- of tags
    pub tags_refuse : (es : Entries) (p : Path) (c : Cause)
        → EntriesMisfit (λ n found p c. AttributeMisfit P false found p c) es p c
        → values.Rises es → AllEntries (λ n v. H v) es → ⊥
    tags_refuse es [] c h up g = h.0 up
    tags_refuse es (attr n ∷ p) c h up g = at_value n es (entry_at n es) p c refl h g
    tags_refuse es (member i ∷ p) c h up g = h

record_refuses : (P : Text → Option Val → Path → Cause → Type 0) (H : Text → Val → Type 0) (fs : Attributes)
    → ((n : Text) (o : Option Val) (p : Path) (c : Cause) (es : Entries) → entry_at n es ≡ o → P n o p c
    → ((v : Val) → o ≡ Some v → H n v) → RequiredThere fs es → ⊥)
    → (v : Val) (p : Path) (c : Cause) → RecordMisfit P v p c → IsRec H fs v → ⊥
record_refuses P H fs deny (values.Rec es) [] c h g = h.0 g.0
record_refuses P H fs deny (values.Rec es) (attr n ∷ p) c h g = deny n (entry_at n es) p c es refl h
    (λ v e. in_entries H es n v g.1 e) g.2
record_refuses P H fs deny (values.Rec es) (member i ∷ p) c h g = h
record_refuses P H fs deny _ p c h g = g

module _ (Fits : Name → Text → Type 0) where
  -- attributes above a name do not have it
  pub none_above : (n : Text) (w : Val) (fs : Attributes) → AboveFields n fs → FieldHas Fits fs n w → ⊥
  none_above n w no_more a h = h
  none_above n w (attribute m r u fs) a (inl h) = not_below_itself n
      (subst (λ x. values.below n x) h.0 a.0)
  none_above n w (attribute m r u fs) a (inr h) = none_above n w fs a.1 h

  attribute_refuses : (m : Text) (r : Bool) (t : PlainType) (fs : Attributes) (n : Text) (o : Option Val) (p : Path)
      (c : Cause) (es : Entries) → AboveFields m fs
      → ((v : Val) (p : Path) (c : Cause) → IsMisfit Fits t v p c → Has Fits t v → ⊥)
      → entry_at n es ≡ o → m ≡ n → AttributeMisfit (IsMisfit Fits t) r o p c
      → ((v : Val) → o ≡ Some v → FieldHas Fits (attribute m r t fs) n v)
      → RequiredThere (attribute m r t fs) es → ⊥
  attribute_refuses m r t fs n (Some v) p c es above deny e q h has req = go (has v refl)
    where
      go : ((m ≡ n) × Has Fits t v) ⊎ FieldHas Fits fs n v → ⊥
      go (inl g) = deny v p c h g.1
      go (inr g) = none_above m v fs above (subst (λ x. FieldHas Fits fs x v) (sym q) g)
  attribute_refuses m true t fs n None p c es above deny e q h has req = not_there n es e
      (subst (λ x. IsThere x es) q req.0)
  attribute_refuses m false t fs n None p c es above deny e q h has req = h

  required_rest : (m : Text) (r : Bool) (t : PlainType) (fs : Attributes) (es : Entries)
      → RequiredThere (attribute m r t fs) es → RequiredThere fs es
  required_rest m true t fs es h = h.1
  required_rest m false t fs es h = h

  has_rest : (m : Text) (r : Bool) (t : PlainType) (fs : Attributes) (n : Text) (v : Val) → (m ≡ n → ⊥)
      → FieldHas Fits (attribute m r t fs) n v → FieldHas Fits fs n v
  has_rest m r t fs n v q (inl h) = absurd (q h.0)
  has_rest m r t fs n v q (inr h) = h

  mutual
    pub refuses : (t : PlainType) → Distinct t → (v : Val) (p : Path) (c : Cause) → IsMisfit Fits t v p c
        → Has Fits t v → ⊥
    refuses PlainType.Bool d v p c h g = bool_refuses v p c h g
    refuses PlainType.Long d v p c h g = long_refuses v p c h g
    refuses PlainType.String d v p c h g = string_refuses v p c h g
    refuses (PlainType.Ext n) d v p c h g = extension_refuses n v p c h g
    refuses (PlainType.Entity n) d v p c h g = entity_refuses Fits n v p c h g
    refuses (PlainType.Set t) d v p c h g = set_refuses (IsMisfit Fits t) (Has Fits t) (refuses t d) v p c h g
    refuses (PlainType.Rec fs) d v p c h g = record_refuses (NamedMisfit Fits fs) (FieldHas Fits fs) fs
        (named_refuses fs d) v p c h g

    named_refuses : (fs : Attributes) → DistinctFields fs → (n : Text) (o : Option Val) (p : Path) (c : Cause)
        (es : Entries) → entry_at n es ≡ o → NamedMisfit Fits fs n o p c
        → ((v : Val) → o ≡ Some v → FieldHas Fits fs n v) → RequiredThere fs es → ⊥
    named_refuses no_more d n None p c es e h has req = h
    named_refuses no_more d n (Some v) p c es e h has req = has v refl
    named_refuses (attribute m r t fs) d n o p c es e (inl h) has req =
        attribute_refuses m r t fs n o p c es d.1 (refuses t d.0) e h.0 h.1 has req
    named_refuses (attribute m r t fs) d n o p c es e (inr h) has req =
        named_refuses fs d.2 n o p c es e h.1 (λ v q. has_rest m r t fs n v h.0 (has v q))
        (required_rest m r t fs es req)
