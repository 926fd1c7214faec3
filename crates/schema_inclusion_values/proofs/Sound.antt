-- Where nothing is lost, each value of the old type is one of the new type.
use Rattle.std.proofs.Common.{◌≡◌, Bool, true, false, cond, Option, Some, None, inl, inr, refl, sym, ◌∙◌, subst}
use Rattle.std.specs.Prelude.{◌&&◌, ◌||◌, option_map}
use Rattle.std.specs.Str.{bytes_eq}
use Rattle.cedar_names.specs.Definitions.{same_name}
use Rattle.cedar_names.proofs.Defined.{equal_names}
use Rattle.cedar_names.specs.Meaning.{PlainType, Attributes, no_more, attribute}
use Rattle.schema_inclusion_values.specs.Values.{Text, Name, Val, Vals, no_vals, val, Entries, no_entries, entry}
use Rattle.schema_inclusion_values.specs.Values.{AllVals, AllEntries, IsThere, RequiredThere, IsSet, IsRec, IsRef}
use Rattle.schema_inclusion_values.specs.Values.{IsExt, Has, FieldHas}
use Rattle.schema_inclusion_values.specs.Values as values
use Rattle.schema_inclusion_values.specs.Checks.{some_value, is_required, all_required, or_more, lost_record, lost_at}
use Rattle.schema_inclusion_values.specs.Checks.{lost_value, lost_fields}
use Rattle.schema_inclusion_values.proofs.Values.{same}

pub mapped_none : {A B : Type 0} (f : A → B) (o : Option A) → option_map f o ≡ None → o ≡ None
mapped_none f None e = refl
mapped_none f (Some a) e = absurd (cc)

vals_sub : (P Q : Val → Type 0) → ((v : Val) → P v → Q v) → (vs : Vals) → AllVals P vs → AllVals Q vs
vals_sub P Q f no_vals h = tt
vals_sub P Q f (val v vs) h = (f v h.0, vals_sub P Q f vs h.1)

set_sub : (P Q : Val → Type 0) → ((v : Val) → P v → Q v) → (v : Val) → IsSet P v → IsSet Q v
set_sub P Q f (values.Set vs) h = vals_sub P Q f vs h
set_sub P Q f _ h = absurd h

entries_sub : (P Q : Text → Val → Type 0) → ((n : Text) (v : Val) → P n v → Q n v) → (es : Entries) → AllEntries P es
    → AllEntries Q es
entries_sub P Q f no_entries h = tt
entries_sub P Q f (entry n v es) h = (f n v h.0, entries_sub P Q f es h.1)

rec_sub : (P Q : Text → Val → Type 0) (os ns : Attributes) → ((n : Text) (v : Val) → P n v → Q n v)
    → ((es : Entries) → RequiredThere os es → RequiredThere ns es) → (v : Val) → IsRec P os v → IsRec Q ns v
rec_sub P Q os ns f g (values.Rec es) h = (h.0, entries_sub P Q f es h.1, g es h.2)
rec_sub P Q os ns f g _ h = absurd h

-- ---- required fields

there_at : (m n : Text) (r b : Bool) (t : PlainType) (fs : Attributes) (es : Entries) → bytes_eq m n ≡ b
    → ((b && r) || is_required n fs) ≡ true → (is_required n fs ≡ true → RequiredThere fs es → IsThere n es)
    → RequiredThere (attribute m r t fs) es → IsThere n es
there_at m n true true t fs es e q rest h = subst (λ x. IsThere x es) (same m n e) h.0
there_at m n true false t fs es e q rest h = rest q h.1
there_at m n false true t fs es e q rest h = rest q h
there_at m n false false t fs es e q rest h = rest q h

required_there : (n : Text) (fs : Attributes) (es : Entries) → is_required n fs ≡ true → RequiredThere fs es
    → IsThere n es
required_there n no_more es q h = absurd (cc)
required_there n (attribute m r t fs) es q h = there_at m n r (bytes_eq m n) t fs es refl q (required_there n fs es) h

all_there_at : (os : Attributes) (n : Text) (b : Bool) (u : PlainType) (ns : Attributes) (es : Entries)
    → is_required n os ≡ b → cond b (all_required os ns) false ≡ true
    → (all_required os ns ≡ true → RequiredThere ns es) → RequiredThere os es → IsThere n es × RequiredThere ns es
all_there_at os n true u ns es q e rest h = (required_there n os es q h, rest e)
all_there_at os n false u ns es q e rest h = absurd (cc)

all_there : (os ns : Attributes) (es : Entries) → all_required os ns ≡ true → RequiredThere os es → RequiredThere ns es
all_there os no_more es e h = tt
all_there os (attribute n true u ns) es e h = all_there_at os n (is_required n os) u ns es refl e
    (λ q. all_there os ns es q h) h
all_there os (attribute n false u ns) es e h = all_there os ns es e h

module _ (Old New : Name → Text → Type 0) (id_of : Name → Text) (lost : Name → Option Text) (kept : (n : Name)
    → lost n ≡ None → (id : Text) → Old n id → New n id) where
  -- the attribute that the name finds
  found_at : (f : PlainType → Option Val) (s v : Val) (m n : Text) (r : Bool) (u : PlainType) (ns : Attributes)
      (b : Bool) → bytes_eq m n ≡ b → cond b (f u) (lost_at id_of lost f s m ns) ≡ None
      → ((w : PlainType) → f w ≡ None → Has New w v) → (lost_at id_of lost f s m ns ≡ None → FieldHas New ns m v)
      → FieldHas New (attribute n r u ns) m v
  found_at f s v m n r u ns true e q has rest = inl (sym (same m n e), has u q)
  found_at f s v m n r u ns false e q has rest = inr (rest q)

  found : (f : PlainType → Option Val) (s v : Val) (m : Text) (ns : Attributes) → lost_at id_of lost f s m ns ≡ None
      → ((w : PlainType) → f w ≡ None → Has New w v) → FieldHas New ns m v
  found f s v m no_more q has = absurd (cc)
  found f s v m (attribute n r u ns) q has = found_at f s v m n r u ns (bytes_eq m n) refl q has
      (λ p. found f s v m ns p has)

  both_none : (o p : Option Val) → or_more id_of lost o p ≡ None → (o ≡ None) × (p ≡ None)
  both_none None p e = (refl, e)
  both_none (Some v) p e = absurd (cc)

  entity_kept : (m n : Name) (b : Bool) → same_name m n ≡ b
      → cond b (option_map (λ id. values.Ref m id) (lost m)) (Some (values.Ref m (id_of m))) ≡ None → (v : Val)
      → IsRef Old m v → IsRef New n v
  entity_kept m n true e q (values.Ref k id) h = (
    h.0 ∙ equal_names m n e,
    subst (λ x. New x id) (equal_names m n e)
        (kept m (mapped_none _ _ q) id h.1),
  )
  entity_kept m n true e q _ h = absurd h
  entity_kept m n false e q v h = absurd (cc)

  ext_kept : (m n : Text) (b : Bool) → bytes_eq m n ≡ b → cond b None (Some (values.Ext m)) ≡ None → (v : Val)
      → IsExt m v → IsExt n v
  ext_kept m n true e q (values.Ext k) h = h ∙ same m n e
  ext_kept m n true e q _ h = absurd h
  ext_kept m n false e q v h = absurd (cc)

  record_none : (os : Attributes) (b : Bool) (o : Option Val) → lost_record id_of lost os b o ≡ None
      → (b ≡ true) × (o ≡ None)
  record_none os true o e = (refl, e)
  record_none os false o e = absurd (cc)

  mutual
    pub keeps : (t u : PlainType) → lost_value id_of lost t u ≡ None → (v : Val) → Has Old t v → Has New u v
    keeps PlainType.Bool PlainType.Bool e v h = h
    keeps PlainType.Long PlainType.Long e v h = h
    keeps PlainType.String PlainType.String e v h = h
    keeps (PlainType.Ext m) (PlainType.Ext n) e v h = ext_kept m n (bytes_eq m n) refl e v h
    keeps (PlainType.Entity m) (PlainType.Entity n) e v h = entity_kept m n (same_name m n) refl e v h
    keeps (PlainType.Set t) (PlainType.Set u) e v h = set_sub (Has Old t) (Has New u)
        (keeps t u (mapped_none _ _ e)) v h
    keeps (PlainType.Rec os) (PlainType.Rec ns) e v h =
        let none = record_none os (all_required os ns) _ e in
        rec_sub (FieldHas Old os) (FieldHas New ns) os ns (fields_keep os os ns none.1)
        (λ es. all_there os ns es none.0) v h
    keeps t u e v h = absurd (cc)

    fields_keep : (all os ns : Attributes) → lost_fields id_of lost all os ns ≡ None → (n : Text) (v : Val)
        → FieldHas Old os n v → FieldHas New ns n v
    fields_keep all no_more ns e n v h = absurd h
    fields_keep all (attribute m r t os) ns e n v (inl h) =
        subst (λ x. FieldHas New ns x v) h.0 (found (lost_value id_of lost t) (some_value id_of t) v m ns
        (mapped_none _ _ (both_none _ _ e).0) (λ w q. keeps t w q v h.1))
    fields_keep all (attribute m r t os) ns e n v (inr h) = fields_keep all os ns (both_none _ _ e).1 n v h
