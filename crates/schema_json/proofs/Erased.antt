-- A type equals itself with every place erased.
use Rattle.std.proofs.Common.{◌≡◌, ℕ, Bool, true, false, ◌&&◌, List, [], ◌∷◌, map, refl, ap, ◌∙◌, Option, Some}
use Rattle.std.proofs.Common.{None}
use denote.RattleType.{RattleType}
use mir.Syntax.{Dict}
use Rattle.std.specs.declared.cmp.PartialEq as eq
use Rattle.std.specs.contracts.cmp.PartialEq.TheBound as bound
use Rattle.std.specs.contracts.prelude.BoolPartialEq.TheImpl as bool
use Rattle.std.specs.Cmp.{IsEquivalence}
use Rattle.std.specs.Cmp.Lexicographic.{pointwise, nat_list_eq_equiv}
use Rattle.std.specs.List.{AllByRecursion}
use Rattle.std.specs.Option.{option_eq, option_map}
use Rattle.std.specs.Str.{encode_utf8_all}
use Rattle.cedar_data.specs.declared.loc.Loc.{Loc}
use Rattle.cedar_data.specs.contracts.text.TextPartialEq.TheImpl as text
use Rattle.cedar_identifiers.specs.declared.annotations.Annotations.{Annotations}
use Rattle.cedar_identifiers.specs.declared.unreserved_id.UnreservedId.{UnreservedId}
use Rattle.cedar_identifiers.specs.contracts.annotations.AnnotationsPartialEq.TheImpl as annotations
use Rattle.cedar_identifiers.specs.contracts.unreserved_id.UnreservedIdPartialEq.TheImpl as unreserved_id
use Rattle.schema_json.specs.contracts.types.TypePartialEq.TheImpl as ty
use Rattle.schema_json.specs.contracts.types.TypePartialEq.TheImpl.Laws as ty_laws
use Rattle.schema_json.specs.contracts.types.TypeVariantPartialEq.TheImpl as tv
use Rattle.schema_json.specs.contracts.types.TypeVariantPartialEq.TheImpl.Laws as tv_laws
use Rattle.schema_json.specs.contracts.types.RecordTypePartialEq.TheImpl as rt
use Rattle.schema_json.specs.contracts.types.RecordTypePartialEq.TheImpl.Laws as rt_laws
use Rattle.schema_json.specs.contracts.types.TypeOfAttributePartialEq.TheImpl as at
use Rattle.schema_json.specs.contracts.types.TypeOfAttributePartialEq.TheImpl.Laws as at_laws
use Rattle.schema_json.specs.Places.{erased_entries, erased_type, erased_variant, erased_record, erased_attribute}
use Rattle.schema_json.specs.Places.{placeless}
use Rattle.schema_json.proofs.Layers.{Layers, variant_made, reference_made, string_made, long_made, boolean_made}
use Rattle.schema_json.proofs.Layers.{set_made, record_made, entity_made, either_made, extension_made, each_type}
use Rattle.schema_json.proofs.Layers.{each_variant, each_record, each_attribute}
use Rattle.schema_json.specs.declared.types.Type.{«Type»}
use Rattle.schema_json.specs.declared.types.Type.TheVariants.{Variant, CommonTypeRef, rolls-Variant}
use Rattle.schema_json.specs.declared.types.Type.TheVariants.{rolls-CommonTypeRef}
use Rattle.schema_json.specs.declared.types.TypeVariant.{TypeVariant, out-TypeVariant, roll-TypeVariant}
use Rattle.schema_json.specs.declared.types.TypeVariant.TheVariants.{String, Long, Boolean, Set, Record, Entity}
use Rattle.schema_json.specs.declared.types.TypeVariant.TheVariants.{EntityOrCommon, Extension, rolls-String}
use Rattle.schema_json.specs.declared.types.TypeVariant.TheVariants.{rolls-Long, rolls-Boolean, rolls-Set, rolls-Record}
use Rattle.schema_json.specs.declared.types.TypeVariant.TheVariants.{rolls-Entity, rolls-EntityOrCommon}
use Rattle.schema_json.specs.declared.types.TypeVariant.TheVariants.{rolls-Extension}
use Rattle.schema_json.specs.declared.types.RecordType.{RecordType, out-RecordType, roll-RecordType}
use Rattle.schema_json.specs.declared.types.RecordType.{out-roll-RecordType, fold_out-RecordType}
use Rattle.schema_json.specs.declared.types.TypeOfAttribute.{TypeOfAttribute, out-TypeOfAttribute, roll-TypeOfAttribute}
use Rattle.schema_json.specs.declared.types.TypeOfAttribute.{out-roll-TypeOfAttribute, fold_out-TypeOfAttribute}

pub bool_same : (x : Bool) → bool.ghosts.eq x x ≡ true
bool_same true = refl
bool_same false = refl

-- what may be absent, and each value of a map
pub option_placeless : {A : Type 0} (eq : A → A → Bool) (erase : A → A) → ((a : A) → eq (erase a) a ≡ true)
    → (o : Option A) → option_eq eq (option_map erase o) o ≡ true
option_placeless eq erase same None = refl
option_placeless eq erase same (Some a) = same a

pub entries_placeless : {K V : Type 0} {key : K → K → Bool} (eq : V → V → Bool) (erase : V → V) → IsEquivalence key
    → ((v : V) → eq (erase v) v ≡ true) → (es : List (K × V))
    → pointwise (λ p q. key p.0 q.0 && eq p.1 q.1) (erased_entries erase es) es ≡ true
entries_placeless eq erase keys same [] = refl
entries_placeless eq erase keys same (e ∷ es) = rw (keys.refl e.0, same e.1, entries_placeless eq erase keys same es)

module _ (N : RattleType) (E : eq.Ghosts N.Denot) (D : Dict) (lawful : bound.Lawful N E D) where
  abbrev ty_eq : «Type» N.Denot → «Type» N.Denot → Bool
  ty_eq = (ty.ghosts N E D).eq

  abbrev tv_eq : TypeVariant N.Denot → TypeVariant N.Denot → Bool
  tv_eq = (tv.ghosts N E D).eq

  abbrev rt_eq : RecordType N.Denot → RecordType N.Denot → Bool
  rt_eq = (rt.ghosts N E D).eq

  abbrev at_eq : TypeOfAttribute N.Denot → TypeOfAttribute N.Denot → Bool
  at_eq = (at.ghosts N E D).eq

  variant_same : (a b : TypeVariant N.Denot) (p q : Option Loc) → ty_eq (Variant a p) (Variant b q) ≡ tv_eq a b
  variant_same a b p q = ty_laws.is N E D lawful (Variant a p) (Variant b q)

  ref_same : (a b : N.Denot) (p q : Option Loc) → ty_eq (CommonTypeRef a p) (CommonTypeRef b q) ≡ E.eq a b
  ref_same a b p q = ty_laws.is N E D lawful (CommonTypeRef a p) (CommonTypeRef b q)

  record_same : (a b : RecordType N.Denot) → tv_eq (Record a) (Record b) ≡ rt_eq a b
  unfolding out-TypeVariant denote.Hole.Carrier.out
  record_same a b = tv_laws.is N E D lawful (Record a) (Record b)

  set_same : (a b : «Type» N.Denot) → tv_eq (Set a) (Set b) ≡ ty_eq a b
  unfolding out-TypeVariant denote.Hole.Carrier.out
      Rattle.schema_json.specs.declared.types.Type.TheBlock.shown-the_row-Type-0 denote.Hole.Carrier.shown
      denote.Hole.Carrier.hidden
  set_same a b = tv_laws.is N E D lawful (Set a) (Set b)

  name_same : (a b : N.Denot) → tv_eq (Entity a) (Entity b) ≡ E.eq a b
  unfolding out-TypeVariant denote.Hole.Carrier.out
  name_same a b = tv_laws.is N E D lawful (Entity a) (Entity b)

  common_same : (a b : N.Denot) → tv_eq (EntityOrCommon a) (EntityOrCommon b) ≡ E.eq a b
  unfolding out-TypeVariant denote.Hole.Carrier.out
  common_same a b = tv_laws.is N E D lawful (EntityOrCommon a) (EntityOrCommon b)

  extension_same : (a b : UnreservedId) → tv_eq (Extension a) (Extension b) ≡ unreserved_id.ghosts.eq a b
  unfolding out-TypeVariant denote.Hole.Carrier.out
  extension_same a b = tv_laws.is N E D lawful (Extension a) (Extension b)

  string_same : tv_eq String String ≡ true
  unfolding out-TypeVariant denote.Hole.Carrier.out
  string_same = tv_laws.is N E D lawful String String

  long_same : tv_eq Long Long ≡ true
  unfolding out-TypeVariant denote.Hole.Carrier.out
  long_same = tv_laws.is N E D lawful Long Long

  boolean_same : tv_eq Boolean Boolean ≡ true
  unfolding out-TypeVariant denote.Hole.Carrier.out
  boolean_same = tv_laws.is N E D lawful Boolean Boolean

  abbrev text_eq : List ℕ → List ℕ → Bool
  text_eq = text.ghosts.eq

  abbrev entries_eq : List (List ℕ × TypeOfAttribute N.Denot) → List (List ℕ × TypeOfAttribute N.Denot) → Bool
  entries_eq = pointwise (λ p q. text_eq p.0 q.0 && at_eq p.1 q.1)

  attributes_same : (a b : RecordType N.Denot)
      → rt_eq a b ≡ entries_eq (out-RecordType N.Denot a).attributes (out-RecordType N.Denot b).attributes &&
      bool.ghosts.eq (out-RecordType N.Denot a).additional_attributes (out-RecordType N.Denot b).additional_attributes
  attributes_same a b = rt_laws.is N E D lawful a b

  attribute_same : (a b : TypeOfAttribute N.Denot)
      → at_eq a b ≡ ty_eq (out-TypeOfAttribute N.Denot a).ty (out-TypeOfAttribute N.Denot b).ty &&
      (annotations.ghosts.eq (out-TypeOfAttribute N.Denot a).annotations (out-TypeOfAttribute N.Denot b).annotations
      && bool.ghosts.eq (out-TypeOfAttribute N.Denot a).required (out-TypeOfAttribute N.Denot b).required)
  attribute_same a b = at_laws.is N E D lawful a b

  module _ (reflexive : (x : N.Denot) → E.eq x x ≡ true)
      (annotations_same : (x : Annotations) → annotations.ghosts.eq x x ≡ true)
      (id_same : (x : UnreservedId) → unreserved_id.ghosts.eq x x ≡ true) where
    abbrev P : «Type» N.Denot → Type 0
    P t = ty_eq (erased_type t) t ≡ true

    abbrev P1 : TypeVariant N.Denot → Type 0
    P1 v = tv_eq (erased_variant v) v ≡ true

    abbrev P2 : RecordType N.Denot → Type 0
    P2 r = rt_eq (erased_record r) r ≡ true

    abbrev P3 : TypeOfAttribute N.Denot → Type 0
    P3 a = at_eq (erased_attribute a) a ≡ true

    text_same : (x : List ℕ) → text_eq x x ≡ true
    text_same x = nat_list_eq_equiv.refl (encode_utf8_all x)

    abbrev erased : List (List ℕ × TypeOfAttribute N.Denot) → List (List ℕ × TypeOfAttribute N.Denot)
    erased es = map (λ p. let q : List ℕ × TypeOfAttribute N.Denot = (p.0, erased_attribute p.1) in q) es

    entries_same : (es : List (List ℕ × TypeOfAttribute N.Denot)) → AllByRecursion (λ e. P3 e.1) es
        → entries_eq (erased es) es ≡ true
    entries_same [] h = refl
    entries_same (e ∷ es) h = rw (text_same e.0, h.0, entries_same es h.1)

    layers : Layers N.Denot P P1 P2 P3
    layers =
        let V = roll-TypeVariant N.Denot in
        let R = roll-RecordType N.Denot in
        let A = roll-TypeOfAttribute N.Denot in
        record {
          variant = λ v loc h. ap (λ t. ty_eq t (Variant v loc))
              (variant_made _ placeless V R A v loc ∙ rolls-Variant (erased_variant v) None)
              ∙ variant_same (erased_variant v) v None loc ∙ h;
          reference = λ n loc. ap (λ t. ty_eq t (CommonTypeRef n loc))
              (reference_made _ placeless V R A n loc ∙ rolls-CommonTypeRef n None)
              ∙ ref_same n n None loc ∙ reflexive n;
          string = ap (λ v. tv_eq v String) (string_made _ placeless V R A ∙ rolls-String) ∙ string_same;
          long = ap (λ v. tv_eq v Long) (long_made _ placeless V R A ∙ rolls-Long) ∙ long_same;
          boolean = ap (λ v. tv_eq v Boolean) (boolean_made _ placeless V R A ∙ rolls-Boolean) ∙ boolean_same;
          set = λ t h. ap (λ v. tv_eq v (Set t)) (set_made _ placeless V R A t ∙ rolls-Set (erased_type t))
              ∙ set_same (erased_type t) t ∙ h;
          fields = λ r h. ap (λ v. tv_eq v (Record r))
              (record_made _ placeless V R A r ∙ rolls-Record (erased_record r))
              ∙ record_same (erased_record r) r ∙ h;
          entity = λ n. ap (λ v. tv_eq v (Entity n)) (entity_made _ placeless V R A n ∙ rolls-Entity n)
              ∙ name_same n n ∙ reflexive n;
          either = λ n. ap (λ v. tv_eq v (EntityOrCommon n))
              (either_made _ placeless V R A n ∙ rolls-EntityOrCommon n)
              ∙ common_same n n ∙ reflexive n;
          extension = λ x. ap (λ v. tv_eq v (Extension x)) (extension_made _ placeless V R A x ∙ rolls-Extension x)
              ∙ extension_same x x ∙ id_same x;
          entries = λ r h.
              let e = ap (out-RecordType N.Denot) (fold_out-RecordType N.Denot _ _ _ _ placeless V R A r)
              ∙ out-roll-RecordType N.Denot _ in
              let open' = (out-RecordType N.Denot r).additional_attributes in
              attributes_same (erased_record r) r
              ∙ ap (λ x. entries_eq x.attributes (out-RecordType N.Denot r).attributes
              && bool.ghosts.eq x.additional_attributes open') e
              ∙ (λ i. entries_same (out-RecordType N.Denot r).attributes h i && bool_same open' i);
          attribute = λ a h.
              let e = ap (out-TypeOfAttribute N.Denot) (fold_out-TypeOfAttribute N.Denot _ _ _ _ placeless V R A a)
              ∙ out-roll-TypeOfAttribute N.Denot _ in
              let o = out-TypeOfAttribute N.Denot a in
              attribute_same (erased_attribute a) a
              ∙ ap (λ x. ty_eq x.ty o.ty && (annotations.ghosts.eq x.annotations o.annotations
              && bool.ghosts.eq x.required o.required)) e
              ∙ (λ i. h i && (annotations_same o.annotations i && bool_same o.required i));
        }

    pub type_placeless : (t : «Type» N.Denot) → P t
    type_placeless = each_type N.Denot P P1 P2 P3 layers

    pub variant_placeless : (v : TypeVariant N.Denot) → P1 v
    variant_placeless = each_variant N.Denot P P1 P2 P3 layers

    pub record_placeless : (r : RecordType N.Denot) → P2 r
    record_placeless = each_record N.Denot P P1 P2 P3 layers

    pub attribute_placeless : (a : TypeOfAttribute N.Denot) → P3 a
    attribute_placeless = each_attribute N.Denot P P1 P2 P3 layers
