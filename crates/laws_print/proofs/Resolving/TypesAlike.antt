-- A type and its form in a text resolve to types that are alike, where one of them resolves.
use Rattle.std.proofs.Common.{◌≡◌, ℕ, Bool, true, false, ◌&&◌, List, [], ◌∷◌, ◌++◌, map, codes, Option, refl, sym, ap}
use Rattle.std.proofs.Common.{◌∙◌, subst}
use Rattle.std.specs.List.{flat_map, AllByRecursion}
use Rattle.std.specs.Cmp.{first_so, second_so}
use Rattle.cedar_data.specs.declared.loc.Loc.{Loc}
use Rattle.cedar_data.proofs.Every.{all_front, all_back}
use Rattle.cedar_identifiers.specs.Names.{components_of}
use Rattle.cedar_identifiers.specs.declared.id.Id.{Id}
use Rattle.cedar_identifiers.specs.declared.internal_name.InternalName.{InternalName}
use Rattle.cedar_identifiers.specs.declared.raw_name.RawName.{RawName}
use Rattle.cedar_identifiers.specs.declared.reference_type.ReferenceType.TheVariants.{Common, Entity, CommonOrEntity}
use Rattle.schema_json.specs.declared.types.Type.{«Type», roll-Type}
use Rattle.schema_json.specs.declared.types.Type.TheVariants as shape
use Rattle.schema_json.specs.declared.types.TypeVariant.{TypeVariant, roll-TypeVariant}
use Rattle.schema_json.specs.declared.types.TypeVariant.TheVariants as variant
use Rattle.schema_json.specs.declared.types.RecordType.{RecordType, roll-RecordType}
use Rattle.schema_json.specs.declared.types.TypeOfAttribute.{TypeOfAttribute, roll-TypeOfAttribute}
use Rattle.schema_json.specs.declared.types.Type.TheOpen.{Type-F, TypeVariant-F, RecordType-F, TypeOfAttribute-F}
use Rattle.schema_json.specs.declared.types.Type.TheFolds.{ind-Type, ind-TypeVariant, map-Type, map-TypeVariant}
use Rattle.schema_json.specs.declared.types.Type.TheFolds.{map-RecordType, map-TypeOfAttribute}
use Rattle.schema_json_walk.specs.Parts.{Part, type_reference, extension_type, open_record}
use Rattle.schema_json_walk.specs.Walk.{itself, visit_where, at_type, at_variant, at_record, at_attribute, of_type}
use Rattle.schema_json_walk.specs.Walk.{of_variant, of_record, of_attribute}
use Rattle.schema_resolve_definitions.specs.Tests.{Tests}
use Rattle.schema_resolve_targets.specs.Meanings.{means}
use Rattle.schema_resolve.specs.Renamed.{Renaming, new_type, new_shape, new_record, new_attribute, renamed, renamed_at}
use Rattle.schema_resolve.specs.Renamed.{renamed_record, renamed_attribute}
use Rattle.schema_resolve.specs.Resolved.{resolving_in}
use Rattle.schema_resolve_targets.specs.Undefined.{Undefined}
use Rattle.schema_print.proofs.Tested.{none, none_joined}
use Rattle.laws_print.specs.Printed.CedarForm.{builtin_name, bool_name, long_name, string_name, cedar_layer}
use Rattle.laws_print.specs.Printed.CedarForm.{cedar_variant_layer, cedar_type, cedar_variant, cedar_record}
use Rattle.laws_print.specs.Printed.CedarForm.{cedar_attribute}
use Rattle.laws_print.specs.Resolving.Alike.{Shaped, common_named, referred_layer, referred_shape, referred_fields}
use Rattle.laws_print.specs.Resolving.Alike.{referred_field, referred}
use Rattle.laws_print.proofs.Resolving.Layers.{Outer, Shape, Fields, Field, type_is, variant_is, record_is}
use Rattle.laws_print.proofs.Resolving.Layers.{attribute_is}
use Rattle.laws_print.proofs.Resolving.Layers.{on_variant, on_record, on_attribute}
use Rattle.laws_print.proofs.Resolving.References.{visit, found_either, common_alike, entity_alike}
use Rattle.laws_print.proofs.Resolving.References.{builtin_found, builtin_either}

abbrev N : Type 0
N = RawName

abbrev M : Type 0
M = InternalName

-- comparison, layer by layer
abbrev referred_at : TypeVariant InternalName → Shaped
referred_at = on_variant M referred_layer referred_shape referred_fields referred_field

abbrev pub referred_record : RecordType InternalName → RecordType InternalName
referred_record = on_record M referred_layer referred_shape referred_fields referred_field

abbrev referred_attribute : TypeOfAttribute InternalName → TypeOfAttribute InternalName
referred_attribute = on_attribute M referred_layer referred_shape referred_fields referred_field

abbrev pub as_reference : Shape M → Option Loc → «Type» InternalName
as_reference o loc = roll-Type M (Type-F.Variant (roll-TypeVariant M o) loc)

pub referred_is : (o : Shape M) (loc : Option Loc) → referred (as_reference o loc)
    ≡ referred_shape (map-TypeVariant M _ _ _ _ _ _ _ _ referred referred_at referred_record referred_attribute o) loc
referred_is o loc =
    type_is M referred_layer referred_shape referred_fields referred_field (Type-F.Variant (roll-TypeVariant M o) loc)
    ∙ ap (λ (f : Shaped). f loc) (variant_is M referred_layer referred_shape referred_fields referred_field o)

referred_common_is : (n : InternalName) (loc : Option Loc)
    → referred (roll-Type M (Type-F.CommonTypeRef n loc)) ≡ roll-Type M (Type-F.CommonTypeRef n loc)
referred_common_is n loc =
    type_is M referred_layer referred_shape referred_fields referred_field (Type-F.CommonTypeRef n loc)

pub referred_record_is : (o : Fields M) → referred_record (roll-RecordType M o)
    ≡ referred_fields (map-RecordType M _ _ _ _ _ _ _ _ referred referred_at referred_record referred_attribute o)
referred_record_is o = record_is M referred_layer referred_shape referred_fields referred_field o

module _ (t : Tests) (ns : Option InternalName) where
  -- a part that means the same either way, and an extension type that is defined
  abbrev pub Good : Part RawName → Type 0
  Good (type_reference kind name) = means t ns kind name ≡ means t ns CommonOrEntity name
  Good (extension_type id) = t.is_common (components_of (builtin_name id.id).name) ≡ true
  Good _ = Unit {0}

  -- the primitive types are defined
  pub record KnowsPrimitives : Type 0 where
    pub bool : t.is_common (components_of bool_name.name) ≡ true
    pub long : t.is_common (components_of long_name.name) ≡ true
    pub string : t.is_common (components_of string_name.name) ≡ true

  abbrev R : Renaming RawName InternalName
  R = resolving_in t ns

  abbrev v : Part RawName → List Undefined
  v = visit t ns

  pub record TypeAlike (s : «Type» RawName) : Type 0 where
    pub found : none (of_type v s) ≡ none (of_type v (cedar_type s))
    pub alike : none (of_type v s) ≡ true → referred (renamed R s) ≡ referred (renamed R (cedar_type s))

  pub record ShapeAlike (s : TypeVariant RawName) : Type 0 where
    pub found : none (of_variant v s) ≡ none (of_variant v (cedar_variant s))
    pub alike : none (of_variant v s) ≡ true → (loc : Option Loc)
        → referred (renamed_at R s loc) ≡ referred (renamed_at R (cedar_variant s) loc)

  pub record RecordAlike (r : RecordType RawName) : Type 0 where
    pub found : none (of_record v r) ≡ none (of_record v (cedar_record r))
    pub alike : none (of_record v r) ≡ true
        → referred_record (renamed_record R r) ≡ referred_record (renamed_record R (cedar_record r))

  pub record AttributeAlike (a : TypeOfAttribute RawName) : Type 0 where
    pub found : none (of_attribute v a) ≡ none (of_attribute v (cedar_attribute a))
    pub alike : none (of_attribute v a) ≡ true
        → referred_attribute (renamed_attribute R a) ≡ referred_attribute (renamed_attribute R (cedar_attribute a))

  -- walks, the form in a text and resolution, layer by layer
  module _ {U : Type 0} (w : Part RawName → List U) where
    walked : (o : Outer N) → of_type w (roll-Type N o)
        ≡ at_type w (map-Type N _ _ _ _ _ _ _ _ (of_type w) (of_variant w) (of_record w) (of_attribute w) o)
    walked o = type_is N (at_type w) (at_variant w) (at_record w) (at_attribute w) o

    shape_walked : (o : Shape N) → of_variant w (roll-TypeVariant N o)
        ≡ at_variant w (map-TypeVariant N _ _ _ _ _ _ _ _ (of_type w) (of_variant w) (of_record w) (of_attribute w) o)
    shape_walked o = variant_is N (at_type w) (at_variant w) (at_record w) (at_attribute w) o

    record_walked : (o : Fields N) → of_record w (roll-RecordType N o)
        ≡ at_record w (map-RecordType N _ _ _ _ _ _ _ _ (of_type w) (of_variant w) (of_record w) (of_attribute w) o)
    record_walked o = record_is N (at_type w) (at_variant w) (at_record w) (at_attribute w) o

    attribute_walked : (o : Field N) → of_attribute w (roll-TypeOfAttribute N o) ≡ of_type w o.ty
    attribute_walked o = attribute_is N (at_type w) (at_variant w) (at_record w) (at_attribute w) o

  pub cedar_is : (o : Outer N) → cedar_type (roll-Type N o)
      ≡ cedar_layer (map-Type N _ _ _ _ _ _ _ _ cedar_type cedar_variant cedar_record cedar_attribute o)
  cedar_is o = type_is N cedar_layer cedar_variant_layer (roll-RecordType N) (roll-TypeOfAttribute N) o

  cedar_shape_is : (o : Shape N) → cedar_variant (roll-TypeVariant N o)
      ≡ cedar_variant_layer (map-TypeVariant N _ _ _ _ _ _ _ _ cedar_type cedar_variant cedar_record cedar_attribute o)
  cedar_shape_is o = variant_is N cedar_layer cedar_variant_layer (roll-RecordType N) (roll-TypeOfAttribute N) o

  cedar_record_is : (o : Fields N) → cedar_record (roll-RecordType N o)
      ≡ roll-RecordType N (map-RecordType N _ _ _ _ _ _ _ _ cedar_type cedar_variant cedar_record cedar_attribute o)
  cedar_record_is o = record_is N cedar_layer cedar_variant_layer (roll-RecordType N) (roll-TypeOfAttribute N) o

  cedar_attribute_is : (o : Field N) → cedar_attribute (roll-TypeOfAttribute N o)
      ≡ roll-TypeOfAttribute N (map-TypeOfAttribute N _ _ _ _ _ _ _ _ cedar_type cedar_variant cedar_record
      cedar_attribute o)
  cedar_attribute_is o = attribute_is N cedar_layer cedar_variant_layer (roll-RecordType N) (roll-TypeOfAttribute N) o

  pub resolved_is : (o : Outer N) → renamed R (roll-Type N o)
      ≡ new_type R (map-Type N _ _ _ _ _ _ _ _ (renamed R) (renamed_at R) (renamed_record R) (renamed_attribute R) o)
  resolved_is o = type_is N (new_type R) (new_shape R) (new_record R) (new_attribute R) o

  pub shape_resolved_is : (o : Shape N) (loc : Option Loc)
      → renamed_at R (roll-TypeVariant N o) loc
      ≡ new_shape R (map-TypeVariant N _ _ _ _ _ _ _ _ (renamed R) (renamed_at R) (renamed_record R)
      (renamed_attribute R) o) loc
  shape_resolved_is o loc =
      ap (λ (f : Option Loc → «Type» M). f loc)
      (variant_is N (new_type R) (new_shape R) (new_record R) (new_attribute R) o)

  pub record_resolved_is : (o : Fields N) → renamed_record R (roll-RecordType N o)
      ≡ new_record R (map-RecordType N _ _ _ _ _ _ _ _ (renamed R) (renamed_at R) (renamed_record R)
      (renamed_attribute R) o)
  record_resolved_is o = record_is N (new_type R) (new_shape R) (new_record R) (new_attribute R) o

  attribute_resolved_is : (o : Field N) → renamed_attribute R (roll-TypeOfAttribute N o)
      ≡ new_attribute R (map-TypeOfAttribute N _ _ _ _ _ _ _ _ (renamed R) (renamed_at R) (renamed_record R)
      (renamed_attribute R) o)
  attribute_resolved_is o = attribute_is N (new_type R) (new_shape R) (new_record R) (new_attribute R) o

  module _ (knows : KnowsPrimitives) where
    abbrev P : «Type» RawName → Type 0
    P s = AllByRecursion Good (of_type itself s) → TypeAlike s

    abbrev P1 : TypeVariant RawName → Type 0
    P1 s = AllByRecursion Good (of_variant itself s) → ShapeAlike s

    abbrev P2 : RecordType RawName → Type 0
    P2 r = AllByRecursion Good (of_record itself r) → RecordAlike r

    abbrev P3 : TypeOfAttribute RawName → Type 0
    P3 a = AllByRecursion Good (of_attribute itself a) → AttributeAlike a

    abbrev T' : Type 0
    T' = (t : «Type» RawName) × P t

    abbrev V' : Type 0
    V' = (v : TypeVariant RawName) × P1 v

    abbrev R' : Type 0
    R' = (r : RecordType RawName) × P2 r

    abbrev A' : Type 0
    A' = (a : TypeOfAttribute RawName) × P3 a

    -- a reference in the place of another shape: what both give, and what both become
    abbrev either_way : RawName → TypeVariant RawName
    either_way name = roll-TypeVariant N (TypeVariant-F.EntityOrCommon name)

    shape_by : (o : Shape N) (c : TypeVariant RawName)
        → cedar_variant (roll-TypeVariant N o) ≡ c
        → none (of_variant v (roll-TypeVariant N o)) ≡ none (of_variant v c)
        → (none (of_variant v (roll-TypeVariant N o)) ≡ true → (loc : Option Loc)
        → referred (renamed_at R (roll-TypeVariant N o) loc) ≡ referred (renamed_at R c loc))
        → ShapeAlike (roll-TypeVariant N o)
    shape_by o c is found alike = record {
      found = found ∙ ap (λ s. none (of_variant v s)) (sym is);
      alike = λ h loc. alike h loc ∙ ap (λ s. referred (renamed_at R s loc)) (sym is);
    }

    -- what every schema has, and the reference to its name
    named_shape : (o : Shape N) (id : Id) → cedar_variant (roll-TypeVariant N o) ≡ either_way (builtin_name id)
        → none (of_variant v (roll-TypeVariant N o)) ≡ true
        → ((loc : Option Loc) → referred (renamed_at R (roll-TypeVariant N o) loc) ≡ common_named (builtin_name id) loc)
        → t.is_common (components_of (builtin_name id).name) ≡ true → ShapeAlike (roll-TypeVariant N o)
    named_shape o id is nothing becomes defined =
        let reference : Shape N = TypeVariant-F.EntityOrCommon (builtin_name id) in
        shape_by o (either_way (builtin_name id)) is
        (nothing ∙ sym (ap none (shape_walked v reference) ∙ builtin_found t ns id defined))
        (λ h loc. becomes loc
        ∙ sym (ap referred (shape_resolved_is reference loc ∙ builtin_either t ns id loc defined
        ∙ sym (shape.rolls-CommonTypeRef (builtin_name id).name loc))
        ∙ referred_common_is (builtin_name id).name loc))

    step_variant : (y : TypeVariant-F N T' V' R' A')
        → P1 (roll-TypeVariant N (map-TypeVariant N T' V' R' A' _ _ _ _ (λ e. e.0) (λ e. e.0) (λ e. e.0) (λ e. e.0) y))
    step_variant TypeVariant-F.String goods =
        let o : Shape N = TypeVariant-F.String in
        named_shape o (record { text = codes "String"; word = refl }) (cedar_shape_is o) (ap none (shape_walked v o))
        (λ loc. ap referred (shape_resolved_is o loc) ∙ referred_is TypeVariant-F.String loc) knows.string
    step_variant TypeVariant-F.Long goods =
        let o : Shape N = TypeVariant-F.Long in
        named_shape o (record { text = codes "Long"; word = refl }) (cedar_shape_is o) (ap none (shape_walked v o))
        (λ loc. ap referred (shape_resolved_is o loc) ∙ referred_is TypeVariant-F.Long loc) knows.long
    step_variant TypeVariant-F.Boolean goods =
        let o : Shape N = TypeVariant-F.Boolean in
        named_shape o (record { text = codes "Bool"; word = refl }) (cedar_shape_is o) (ap none (shape_walked v o))
        (λ loc. ap referred (shape_resolved_is o loc) ∙ referred_is TypeVariant-F.Boolean loc) knows.bool
    step_variant (TypeVariant-F.Extension n) goods =
        let o : Shape N = TypeVariant-F.Extension n in
        named_shape o n.id (cedar_shape_is o) (ap none (shape_walked v o))
        (λ loc. ap referred (shape_resolved_is o loc) ∙ referred_is (TypeVariant-F.Extension n) loc)
        (subst (AllByRecursion Good) (shape_walked itself o) goods).0
    step_variant (TypeVariant-F.Entity n) goods =
        let o : Shape N = TypeVariant-F.Entity n in
        let reference : Shape N = TypeVariant-F.EntityOrCommon n in
        let good = (subst (AllByRecursion Good) (shape_walked itself o) goods).0 in
        shape_by o (either_way n) (cedar_shape_is o)
        (ap none (shape_walked v o) ∙ found_either t ns Entity n good ∙ sym (ap none (shape_walked v reference)))
        (λ h loc. ap referred (shape_resolved_is o loc
        ∙ ap (λ x. roll-Type M (Type-F.Variant x loc)) (variant.rolls-Entity (R.name Entity n))
        ∙ shape.rolls-Variant (variant.Entity (R.name Entity n)) loc
        ∙ entity_alike t ns n loc good (sym (ap none (shape_walked v o)) ∙ h))
        ∙ sym (ap referred (shape_resolved_is reference loc)))
    step_variant (TypeVariant-F.EntityOrCommon n) goods =
        let o : Shape N = TypeVariant-F.EntityOrCommon n in
        shape_by o (either_way n) (cedar_shape_is o) refl (λ h loc. refl)
    step_variant (TypeVariant-F.Set w) goods =
        let o : Shape N = TypeVariant-F.Set w.0 in
        let c : Shape N = TypeVariant-F.Set (cedar_type w.0) in
        let inner = w.1 (subst (AllByRecursion Good) (shape_walked itself o) goods) in
        shape_by o (roll-TypeVariant N c) (cedar_shape_is o)
        (ap none (shape_walked v o) ∙ inner.found ∙ sym (ap none (shape_walked v c)))
        (λ h loc. ap referred (shape_resolved_is o loc) ∙ referred_is (TypeVariant-F.Set (renamed R w.0)) loc
        ∙ ap (λ e. as_reference (TypeVariant-F.Set e) loc) (inner.alike (sym (ap none (shape_walked v o)) ∙ h))
        ∙ sym (ap referred (shape_resolved_is c loc)
        ∙ referred_is (TypeVariant-F.Set (renamed R (cedar_type w.0))) loc))
    step_variant (TypeVariant-F.Record w) goods =
        let o : Shape N = TypeVariant-F.Record w.0 in
        let c : Shape N = TypeVariant-F.Record (cedar_record w.0) in
        let inner = w.1 (subst (AllByRecursion Good) (shape_walked itself o) goods) in
        shape_by o (roll-TypeVariant N c) (cedar_shape_is o)
        (ap none (shape_walked v o) ∙ inner.found ∙ sym (ap none (shape_walked v c)))
        (λ h loc. ap referred (shape_resolved_is o loc) ∙ referred_is (TypeVariant-F.Record (renamed_record R w.0)) loc
        ∙ ap (λ r. as_reference (TypeVariant-F.Record r) loc) (inner.alike (sym (ap none (shape_walked v o)) ∙ h))
        ∙ sym (ap referred (shape_resolved_is c loc)
        ∙ referred_is (TypeVariant-F.Record (renamed_record R (cedar_record w.0))) loc))

    step_type : (y : Type-F N T' V' R' A')
        → P (roll-Type N (map-Type N T' V' R' A' _ _ _ _ (λ e. e.0) (λ e. e.0) (λ e. e.0) (λ e. e.0) y))
    step_type (Type-F.Variant w loc) goods =
        let o : Outer N = Type-F.Variant w.0 loc in
        let c : Outer N = Type-F.Variant (cedar_variant w.0) loc in
        let inner = w.1 (subst (AllByRecursion Good) (walked itself o) goods) in
        record {
          found = ap none (walked v o) ∙ inner.found
              ∙ sym (ap (λ s. none (of_type v s)) (cedar_is o) ∙ ap none (walked v c));
          alike = λ h. ap referred (resolved_is o) ∙ inner.alike (sym (ap none (walked v o)) ∙ h) loc
              ∙ sym (ap (λ s. referred (renamed R s)) (cedar_is o) ∙ ap referred (resolved_is c));
        }
    step_type (Type-F.CommonTypeRef n loc) goods =
        let o : Outer N = Type-F.CommonTypeRef n loc in
        let reference : Shape N = TypeVariant-F.EntityOrCommon n in
        let c : Outer N = Type-F.Variant (either_way n) loc in
        let good = (subst (AllByRecursion Good) (walked itself o) goods).0 in
        record {
          found = ap none (walked v o) ∙ found_either t ns Common n good
              ∙ sym (ap (λ s. none (of_type v s)) (cedar_is o) ∙ ap none (walked v c ∙ shape_walked v reference));
          alike = λ h. ap referred (resolved_is o ∙ shape.rolls-CommonTypeRef (R.name Common n) loc
              ∙ common_alike t ns n loc good (sym (ap none (walked v o)) ∙ h))
              ∙ sym (ap (λ s. referred (renamed R s)) (cedar_is o)
              ∙ ap referred (resolved_is c ∙ shape_resolved_is reference loc));
        }

    -- the attributes of a record
    abbrev entries_alone : List (List ℕ × A') → List (List ℕ × TypeOfAttribute RawName)
    entries_alone es = map (λ p. let q : List ℕ × TypeOfAttribute RawName = (p.0, p.1.0) in q) es

    abbrev in_form : List (List ℕ × TypeOfAttribute RawName) → List (List ℕ × TypeOfAttribute RawName)
    in_form es = map (λ p. let q : List ℕ × TypeOfAttribute RawName = (p.0, cedar_attribute p.1) in q) es

    abbrev given : {U : Type 0} → (Part RawName → List U) → List (List ℕ × TypeOfAttribute RawName) → List U
    given {U} w es = flat_map (λ e. e.1) (map (λ p. let q : List ℕ × List U = (p.0, of_attribute w p.1) in q) es)

    abbrev compared : List (List ℕ × TypeOfAttribute RawName) → List (List ℕ × TypeOfAttribute InternalName)
    compared es =
        map (λ p. let q : List ℕ × TypeOfAttribute InternalName = (p.0, referred_attribute p.1) in q)
        (map (λ p. let q : List ℕ × TypeOfAttribute InternalName = (p.0, renamed_attribute R p.1) in q) es)

    entries_found : (es : List (List ℕ × A')) → AllByRecursion Good (given itself (entries_alone es))
        → none (given v (entries_alone es)) ≡ none (given v (in_form (entries_alone es)))
    entries_found [] goods = refl
    entries_found (e ∷ es) goods =
        let first = of_attribute itself e.1.0 in
        let here = e.1.1 (all_front Good first (given itself (entries_alone es)) goods) in
        let more = entries_found es (all_back Good first (given itself (entries_alone es)) goods) in
        none_joined (of_attribute v e.1.0) (given v (entries_alone es)) ∙ (λ i. here.found i && more i)
        ∙ sym (none_joined (of_attribute v (cedar_attribute e.1.0)) (given v (in_form (entries_alone es))))

    entries_alike : (es : List (List ℕ × A')) → AllByRecursion Good (given itself (entries_alone es))
        → none (given v (entries_alone es)) ≡ true → compared (entries_alone es) ≡ compared (in_form (entries_alone es))
    entries_alike [] goods h = refl
    entries_alike (e ∷ es) goods h =
        let first = of_attribute itself e.1.0 in
        let both = sym (none_joined (of_attribute v e.1.0) (given v (entries_alone es))) ∙ h in
        let here = (e.1.1 (all_front Good first (given itself (entries_alone es)) goods)).alike
        (first_so (none (of_attribute v e.1.0)) (none (given v (entries_alone es))) both) in
        let more = entries_alike es (all_back Good first (given itself (entries_alone es)) goods)
        (second_so (none (of_attribute v e.1.0)) (none (given v (entries_alone es))) both) in
        λ i. (e.0, here i) ∷ more i

    where_nothing : (b : Bool) → visit_where v b open_record ≡ []
    where_nothing true = refl
    where_nothing false = refl

    step_record : (y : RecordType-F N T' V' R' A')
        → P2 (roll-RecordType N (map-RecordType N T' V' R' A' _ _ _ _ (λ e. e.0) (λ e. e.0) (λ e. e.0) (λ e. e.0) y))
    step_record y goods =
        let es = entries_alone y.attributes in
        let o : Fields N = record { attributes = es; additional_attributes = y.additional_attributes } in
        let c : Fields N = record { attributes = in_form es; additional_attributes = y.additional_attributes } in
        let more = y.additional_attributes in
        let these = all_back Good (visit_where itself more open_record) (given itself es)
        (subst (AllByRecursion Good) (record_walked itself o) goods) in
        let walked_o = ap none (record_walked v o) ∙ ap (λ l. none (l ++ given v es)) (where_nothing more) in
        record {
          found = walked_o ∙ entries_found y.attributes these
              ∙ sym (ap (λ r. none (of_record v r)) (cedar_record_is o) ∙ ap none (record_walked v c)
              ∙ ap (λ l. none (l ++ given v (in_form es))) (where_nothing more));
          alike = λ h.
              ap referred_record (record_resolved_is o) ∙ compared_is es more
              ∙ ap (λ fields. roll-RecordType M (record { attributes = fields; additional_attributes = more }))
              (entries_alike y.attributes these (sym walked_o ∙ h))
              ∙ sym (ap (λ r. referred_record (renamed_record R r)) (cedar_record_is o)
              ∙ ap referred_record (record_resolved_is c) ∙ compared_is (in_form es) more);
        }
      where
        compared_is : (es : List (List ℕ × TypeOfAttribute RawName)) (more : Bool)
            → referred_record (roll-RecordType M (record {
              attributes = map (λ p. let q : List ℕ
                  × TypeOfAttribute InternalName = (p.0, renamed_attribute R p.1) in q) es;
              additional_attributes = more;
            })) ≡ roll-RecordType M (record { attributes = compared es; additional_attributes = more })
        compared_is es more = record_is M referred_layer referred_shape referred_fields referred_field (record {
          attributes = map (λ p. let q : List ℕ × TypeOfAttribute InternalName = (p.0, renamed_attribute R p.1) in q)
              es;
          additional_attributes = more;
        })

    step_attribute : (y : TypeOfAttribute-F N T' V' R' A')
        → P3 (roll-TypeOfAttribute N (map-TypeOfAttribute N T' V' R' A' _ _ _ _ (λ e. e.0) (λ e. e.0) (λ e. e.0)
        (λ e. e.0) y))
    step_attribute y goods =
        let o : Field N = record { ty = y.ty.0; annotations = y.annotations; required = y.required } in
        let c : Field N = record { ty = cedar_type y.ty.0; annotations = y.annotations; required = y.required } in
        let inner = y.ty.1 (subst (AllByRecursion Good) (attribute_walked itself o) goods) in
        record {
          found = ap none (attribute_walked v o) ∙ inner.found
              ∙ sym (ap (λ a. none (of_attribute v a)) (cedar_attribute_is o) ∙ ap none (attribute_walked v c));
          alike = λ h.
              ap referred_attribute (attribute_resolved_is o) ∙ field_is (renamed R y.ty.0)
              ∙ ap (λ s. roll-TypeOfAttribute M (record { ty = s; annotations = y.annotations; required = y.required }))
              (inner.alike (sym (ap none (attribute_walked v o)) ∙ h))
              ∙ sym (ap (λ a. referred_attribute (renamed_attribute R a)) (cedar_attribute_is o)
              ∙ ap referred_attribute (attribute_resolved_is c) ∙ field_is (renamed R (cedar_type y.ty.0)));
        }
      where
        field_is : (s : «Type» InternalName)
            → referred_attribute (roll-TypeOfAttribute M
            (record { ty = s; annotations = y.annotations; required = y.required }))
            ≡ roll-TypeOfAttribute M (record { ty = referred s; annotations = y.annotations; required = y.required })
        field_is s = attribute_is M referred_layer referred_shape referred_fields referred_field
            (record { ty = s; annotations = y.annotations; required = y.required })

    -- a type and its form in a text resolve alike
    pub type_alike : (s : «Type» RawName) → AllByRecursion Good (of_type itself s) → TypeAlike s
    type_alike = ind-Type N P P1 P2 P3
        (λ x y is. subst (λ z. P (roll-Type N z)) is (step_type y))
        (λ x y is. subst (λ z. P1 (roll-TypeVariant N z)) is (step_variant y))
        (λ x y is. subst (λ z. P2 (roll-RecordType N z)) is (step_record y))
        (λ x y is. subst (λ z. P3 (roll-TypeOfAttribute N z)) is (step_attribute y))

    pub shape_alike : (s : TypeVariant RawName) → AllByRecursion Good (of_variant itself s) → ShapeAlike s
    shape_alike = ind-TypeVariant N P P1 P2 P3
        (λ x y is. subst (λ z. P (roll-Type N z)) is (step_type y))
        (λ x y is. subst (λ z. P1 (roll-TypeVariant N z)) is (step_variant y))
        (λ x y is. subst (λ z. P2 (roll-RecordType N z)) is (step_record y))
        (λ x y is. subst (λ z. P3 (roll-TypeOfAttribute N z)) is (step_attribute y))
