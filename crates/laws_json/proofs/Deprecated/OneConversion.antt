-- The data of the deprecated form becomes one fragment.
use Rattle.std.proofs.Common.{◌≡◌, ℕ, Bool, List, [], ◌∷◌, Option, Some, None, refl, sym, ap, ◌∙◌, subst}
use Rattle.std.proofs.lemmas.Option.{same_Some}
use Rattle.std.specs.List.{AllZip}
use Rattle.std.specs.Str.{encode_utf8_all}
use Rattle.std.specs.declared.cmp.Ordering.{Ordering}
use Rattle.cedar_data.specs.Maps.{map_of}
use Rattle.cedar_identifiers.specs.declared.name.Name.{Name}
use Rattle.cedar_identifiers.specs.declared.name_text.NameText as ghosts
use Rattle.cedar_identifiers.specs.declared.raw_name.RawName.{RawName}
use Rattle.cedar_identifiers.specs.declared.unreserved_id.UnreservedId.{UnreservedId}
use Rattle.schema_json.specs.declared.types.Type.{«Type»}
use Rattle.schema_json.specs.declared.types.Type.TheVariants.{CommonTypeRef}
use Rattle.schema_json.specs.declared.types.TypeVariant.{TypeVariant}
use Rattle.schema_json.specs.declared.types.TypeVariant.TheVariants as variant
use Rattle.schema_json.specs.declared.types.TypeOfAttribute.{TypeOfAttribute}
use Rattle.schema_json.specs.declared.common_type.CommonType.{CommonType}
use Rattle.schema_json.specs.declared.entity_type.EntityType.{EntityType}
use Rattle.schema_json.specs.declared.entity_type.EntityTypeKind.TheVariants.{Standard}
use Rattle.schema_json.specs.declared.action_type.ActionType.{ActionType}
use Rattle.schema_json.specs.declared.action_type.ActionEntityUID.{ActionEntityUID}
use Rattle.schema_json.specs.declared.action_type.ApplySpec.{ApplySpec}
use Rattle.schema_json.specs.declared.fragment.Fragment.{Fragment}
use Rattle.schema_json.specs.declared.fragment.NamespaceDefinition.{NamespaceDefinition}
use Rattle.schema_json.proofs.Same.{action_same}
use Rattle.schema_json.specs.Orders.{namespace_cmp}
use Rattle.schema_json_shapes.specs.Said.{IsRawName, IsId, plain}
use Rattle.schema_compat_types.specs.declared.types.SchemaType.{SchemaType, SchemaType-F, out-SchemaType}
use Rattle.schema_compat_types.specs.declared.types.SchemaType.{out-roll-SchemaType}
use Rattle.schema_compat_types.specs.declared.types.SchemaType.TheVariants as written
use Rattle.schema_compat_types.specs.declared.types.SchemaTypeVariant.{SchemaTypeVariant, SchemaTypeVariant-F}
use Rattle.schema_compat_types.specs.declared.types.SchemaTypeVariant.{out-SchemaTypeVariant}
use Rattle.schema_compat_types.specs.declared.types.SchemaTypeVariant.{out-roll-SchemaTypeVariant}
use Rattle.schema_compat_types.specs.declared.types.SchemaTypeVariant.TheVariants as shape
use Rattle.schema_compat_types.specs.declared.types.TypeOfAttribute.{TypeOfAttribute as OldAttribute}
use Rattle.schema_compat_types.specs.declared.types.TypeOfAttribute.{out-TypeOfAttribute}
use Rattle.schema_compat_types.specs.declared.entity_type.EntityType.{EntityType as OldEntityType}
use Rattle.schema_compat_types.specs.declared.action_type.ActionType.{ActionType as OldAction}
use Rattle.schema_compat_types.specs.declared.action_type.ActionEntityUID.{ActionEntityUID as OldUid}
use Rattle.schema_compat_types.specs.declared.action_type.ApplySpec.{ApplySpec as OldApply}
use Rattle.schema_compat_types.specs.declared.fragment.NamespaceDefinition.{NamespaceDefinition as OldNamespace}
use Rattle.schema_compat_types.specs.declared.fragment.SchemaFragment.{SchemaFragment}
use Rattle.schema_compat_convert.specs.Converted.{converted_attribute, record_shape, TypeBecomes, of_shape}
use Rattle.schema_compat_convert.specs.Converted.{of_reference}
use Rattle.schema_compat_convert.specs.Converted.{ShapeBecomes, of_string, of_long, of_boolean, of_set, of_record}
use Rattle.schema_compat_convert.specs.Converted.{of_entity, of_extension, AttributesBecome, no_attribute}
use Rattle.schema_compat_convert.specs.Converted.{next_attribute}
use Rattle.schema_compat_convert.specs.Converted.{MapBecomes, CommonTypeBecomes, EntityTypeBecomes}
use Rattle.schema_compat_convert.specs.Converted.{ApplyBecomes, OptionBecomes, UidBecomes, ActionBecomes}
use Rattle.schema_compat_convert.specs.Converted.{NamespaceBecomes}
use Rattle.schema_compat_convert.specs.Converted.{EntryBecomes, FragmentBecomes}
use Rattle.laws_json.proofs.Current.OneFragment.{name_once}
use Rattle.laws_json.proofs.Current.OneShape.{one_raw_name, one_id}

-- ---- types, by their outermost layer

abbrev TypeLayer : Type 0
TypeLayer = SchemaType-F SchemaType SchemaTypeVariant OldAttribute

abbrev ShapeLayer : Type 0
ShapeLayer = SchemaTypeVariant-F SchemaType SchemaTypeVariant OldAttribute

abbrev TypeSeen : TypeLayer → «Type» RawName → Type 0
TypeSeen (SchemaType-F.Variant v) u = (w : TypeVariant RawName) × ShapeBecomes v w × (u ≡ plain w)
TypeSeen (SchemaType-F.TypeDef text) u =
    (n : RawName) × IsRawName (encode_utf8_all text) n × (u ≡ CommonTypeRef n None)

out_variant : (v : SchemaTypeVariant) → out-SchemaType (written.Variant v) ≡ SchemaType-F.Variant v
out_variant v = ap out-SchemaType (sym (written.rolls-Variant v)) ∙ out-roll-SchemaType (SchemaType-F.Variant v)

out_reference : (text : List ℕ) → out-SchemaType (written.TypeDef text) ≡ SchemaType-F.TypeDef text
out_reference text =
    ap out-SchemaType (sym (written.rolls-TypeDef text)) ∙ out-roll-SchemaType (SchemaType-F.TypeDef text)

type_seen : (s : SchemaType) (u : «Type» RawName) → TypeBecomes s u → TypeSeen (out-SchemaType s) u
type_seen s u (of_shape v w h) = subst (λ x. TypeSeen x (plain w)) (sym (out_variant v)) (w, h, refl)
type_seen s u (of_reference text n h) =
    subst (λ x. TypeSeen x (CommonTypeRef n None)) (sym (out_reference text)) (n, h, refl)

abbrev ShapeSeen : ShapeLayer → TypeVariant RawName → Type 0
ShapeSeen SchemaTypeVariant-F.String u = u ≡ variant.String
ShapeSeen SchemaTypeVariant-F.Long u = u ≡ variant.Long
ShapeSeen SchemaTypeVariant-F.Boolean u = u ≡ variant.Boolean
ShapeSeen (SchemaTypeVariant-F.Set s) u = (t : «Type» RawName) × TypeBecomes s t × (u ≡ variant.Set t)
ShapeSeen (SchemaTypeVariant-F.Record es is_open) u =
    (fs : List (List ℕ × TypeOfAttribute RawName)) × AttributesBecome es fs × (u ≡ record_shape fs is_open)
ShapeSeen (SchemaTypeVariant-F.Entity text) u =
    (n : RawName) × IsRawName (encode_utf8_all text) n × (u ≡ variant.Entity n)
ShapeSeen (SchemaTypeVariant-F.Extension text) u =
    (id : UnreservedId) × IsId (encode_utf8_all text) id × (u ≡ variant.Extension id)

abbrev rolled : (x : ShapeLayer) (v : SchemaTypeVariant) → Type 0
rolled x v = out-SchemaTypeVariant v ≡ x

out_string : rolled SchemaTypeVariant-F.String shape.String
out_string =
    ap out-SchemaTypeVariant (sym shape.rolls-String) ∙ out-roll-SchemaTypeVariant SchemaTypeVariant-F.String

out_long : rolled SchemaTypeVariant-F.Long shape.Long
out_long = ap out-SchemaTypeVariant (sym shape.rolls-Long) ∙ out-roll-SchemaTypeVariant SchemaTypeVariant-F.Long

out_boolean : rolled SchemaTypeVariant-F.Boolean shape.Boolean
out_boolean =
    ap out-SchemaTypeVariant (sym shape.rolls-Boolean) ∙ out-roll-SchemaTypeVariant SchemaTypeVariant-F.Boolean

out_set : (s : SchemaType) → rolled (SchemaTypeVariant-F.Set s) (shape.Set s)
out_set s =
    ap out-SchemaTypeVariant (sym (shape.rolls-Set s)) ∙ out-roll-SchemaTypeVariant (SchemaTypeVariant-F.Set s)

out_record : (es : List (List ℕ × OldAttribute)) (is_open : Bool)
    → rolled (SchemaTypeVariant-F.Record es is_open) (shape.Record es is_open)
out_record es is_open =
    ap out-SchemaTypeVariant (sym (shape.rolls-Record es is_open))
    ∙ out-roll-SchemaTypeVariant (SchemaTypeVariant-F.Record es is_open)

out_entity : (text : List ℕ) → rolled (SchemaTypeVariant-F.Entity text) (shape.Entity text)
out_entity text =
    ap out-SchemaTypeVariant (sym (shape.rolls-Entity text))
    ∙ out-roll-SchemaTypeVariant (SchemaTypeVariant-F.Entity text)

out_extension : (text : List ℕ) → rolled (SchemaTypeVariant-F.Extension text) (shape.Extension text)
out_extension text =
    ap out-SchemaTypeVariant (sym (shape.rolls-Extension text))
    ∙ out-roll-SchemaTypeVariant (SchemaTypeVariant-F.Extension text)

shape_seen : (v : SchemaTypeVariant) (u : TypeVariant RawName) → ShapeBecomes v u
    → ShapeSeen (out-SchemaTypeVariant v) u
shape_seen v u of_string = subst (λ x. ShapeSeen x variant.String) (sym out_string) refl
shape_seen v u of_long = subst (λ x. ShapeSeen x variant.Long) (sym out_long) refl
shape_seen v u of_boolean = subst (λ x. ShapeSeen x variant.Boolean) (sym out_boolean) refl
shape_seen v u (of_set s t h) = subst (λ x. ShapeSeen x (variant.Set t)) (sym (out_set s)) (t, h, refl)
shape_seen v u (of_record es fs is_open up h) =
    subst (λ x. ShapeSeen x (record_shape fs is_open)) (sym (out_record es is_open)) (fs, h, refl)
shape_seen v u (of_entity text n h) = subst (λ x. ShapeSeen x (variant.Entity n)) (sym (out_entity text)) (n, h, refl)
shape_seen v u (of_extension text id h) =
    subst (λ x. ShapeSeen x (variant.Extension id)) (sym (out_extension text)) (id, h, refl)

mutual
  pub one_type : (s : SchemaType) (t u : «Type» RawName) → TypeBecomes s t → TypeBecomes s u → t ≡ u
  one_type s t u (of_shape v w h) k =
      let (x, g, is) = subst (λ z. TypeSeen z u) (out_variant v) (type_seen (written.Variant v) u k) in
      ap plain (one_shape v w x h g) ∙ sym is
  one_type s t u (of_reference text n h) k =
      let (m, g, is) = subst (λ z. TypeSeen z u) (out_reference text) (type_seen (written.TypeDef text) u k) in
      ap (λ name. CommonTypeRef name None) (one_raw_name (encode_utf8_all text) n m h g) ∙ sym is

  one_shape : (v : SchemaTypeVariant) (t u : TypeVariant RawName) → ShapeBecomes v t → ShapeBecomes v u → t ≡ u
  one_shape v t u of_string k = sym (subst (λ x. ShapeSeen x u) out_string (shape_seen shape.String u k))
  one_shape v t u of_long k = sym (subst (λ x. ShapeSeen x u) out_long (shape_seen shape.Long u k))
  one_shape v t u of_boolean k = sym (subst (λ x. ShapeSeen x u) out_boolean (shape_seen shape.Boolean u k))
  one_shape v t u (of_set s e h) k =
      let (x, g, is) = subst (λ z. ShapeSeen z u) (out_set s) (shape_seen (shape.Set s) u k) in
      ap variant.Set (one_type s e x h g) ∙ sym is
  one_shape v t u (of_record es fs is_open up h) k =
      let (gs, g, is) = subst (λ z. ShapeSeen z u) (out_record es is_open) (shape_seen (shape.Record es is_open) u k) in
      ap (λ l. record_shape l is_open) (one_attributes es fs gs h g) ∙ sym is
  one_shape v t u (of_entity text n h) k =
      let (m, g, is) = subst (λ z. ShapeSeen z u) (out_entity text) (shape_seen (shape.Entity text) u k) in
      ap variant.Entity (one_raw_name (encode_utf8_all text) n m h g) ∙ sym is
  one_shape v t u (of_extension text id h) k =
      let (m, g, is) = subst (λ z. ShapeSeen z u) (out_extension text) (shape_seen (shape.Extension text) u k) in
      ap variant.Extension (one_id (encode_utf8_all text) id m h g) ∙ sym is

  one_attributes : (es : List (List ℕ × OldAttribute)) (fs gs : List (List ℕ × TypeOfAttribute RawName))
      → AttributesBecome es fs → AttributesBecome es gs → fs ≡ gs
  one_attributes es fs gs no_attribute no_attribute = refl
  one_attributes es fs gs (next_attribute k a t more xs h hs) (next_attribute _ _ u _ ys g gs') =
      λ i. (k, converted_attribute (one_type (out-TypeOfAttribute a).ty t u h g i) (out-TypeOfAttribute a).required)
      ∷ one_attributes more xs ys hs gs' i

-- ---- lists and maps

-- each thing becomes one at most
abbrev Once : {A B : Type 0} → (A → B → Type 0) → Type 0
Once {A} {B} Becomes = (a : A) (b c : B) → Becomes a b → Becomes a c → b ≡ c

module _ {A B : Type 0} (Becomes : A → B → Type 0) (once : Once Becomes) where
  list_once : (xs : List A) (ys zs : List B) → AllZip Becomes xs ys → AllZip Becomes xs zs → ys ≡ zs
  list_once [] [] [] h k = refl
  list_once [] (y ∷ ys) zs h k = absurd h
  list_once [] [] (z ∷ zs) h k = absurd k
  list_once (x ∷ xs) [] zs h k = absurd h
  list_once (x ∷ xs) (y ∷ ys) [] h k = absurd k
  list_once (x ∷ xs) (y ∷ ys) (z ∷ zs) h k = λ i. once x y z h.0 k.0 i ∷ list_once xs ys zs h.1 k.1 i

  option_once : (o : Option A) (p q : Option B) → OptionBecomes Becomes o p → OptionBecomes Becomes o q → p ≡ q
  option_once None None None h k = refl
  option_once None None (Some c) h k = absurd k
  option_once None (Some b) q h k = absurd h
  option_once (Some a) None q h k = absurd h
  option_once (Some a) (Some b) None h k = absurd k
  option_once (Some a) (Some b) (Some c) h k = ap Some (once a b c h k)

values_once : {K V W : Type 0} (order : K → K → Ordering) (Becomes : V → W → Type 0) → Once Becomes
    → (es : List (K × V)) (fs gs : List (K × W)) → MapBecomes order Becomes es fs → MapBecomes order Becomes es gs
    → fs ≡ gs
values_once {K} {V} {W} order Becomes once es fs gs h k =
    list_once (λ (e : K × V) (f : K × W). (f.0 ≡ e.0) × Becomes e.1 f.1)
    (λ e f g p q. λ i. ((p.0 ∙ sym q.0) i, once e.1 f.1 g.1 p.1 q.1 i)) es fs gs h.1 k.1

-- ---- what is declared

common_once : (s : SchemaType) (c e : CommonType RawName) → CommonTypeBecomes s c → CommonTypeBecomes s e → c ≡ e
common_once s c e h k = λ i. record {
  ty = one_type s c.ty e.ty h.ty k.ty i;
  annotations = (h.bare ∙ sym k.bare) i;
  loc = (h.placeless ∙ sym k.placeless) i;
}

entity_once : (e : OldEntityType) (f g : EntityType RawName) → EntityTypeBecomes e f → EntityTypeBecomes e g → f ≡ g
entity_once e f g h k =
    let shapes = one_type e.shape.0 h.ty k.ty h.shaped k.shaped in
    let kinds : f.kind ≡ g.kind = h.kind
    ∙ ap (λ t. Standard (record { member_of_types = e.member_of_types; shape = record { 0 = t }; tags = None })) shapes
    ∙ sym k.kind in
    λ i. record {
      kind = kinds i;
      external = (h.own ∙ sym k.own) i;
      annotations = (h.bare ∙ sym k.bare) i;
      loc = (h.placeless ∙ sym k.placeless) i;
    }

apply_once : (a : OldApply) (b c : ApplySpec RawName) → ApplyBecomes a b → ApplyBecomes a c → b ≡ c
apply_once a b c h k = λ i. record {
  resource_types = same_Some b.resource_types c.resource_types (sym h.resources ∙ k.resources) i;
  principal_types = same_Some b.principal_types c.principal_types (sym h.principals ∙ k.principals) i;
  context = record { 0 = one_type a.context.0 b.context.0 c.context.0 h.in_context k.in_context i };
}

module _ {G : ghosts.Ghosts RawName} where
  uid_once : (u : OldUid) (v w : ActionEntityUID RawName G) → UidBecomes u v → UidBecomes u w → v ≡ w
  uid_once u v w h k = action_same RawName G v w (h.0 ∙ sym k.0) (h.1 ∙ sym k.1)

  action_once : (a : OldAction) (b c : ActionType RawName G) → ActionBecomes a b → ActionBecomes a c → b ≡ c
  action_once a b c h k = λ i. record {
    attributes = (h.attributed ∙ sym k.attributed) i;
    applies_to = option_once ApplyBecomes apply_once a.applies_to b.applies_to c.applies_to h.applied k.applied i;
    member_of = option_once (AllZip UidBecomes) (list_once UidBecomes uid_once) a.member_of b.member_of c.member_of
        h.parents k.parents i;
    external = (h.own ∙ sym k.own) i;
    annotations = (h.bare ∙ sym k.bare) i;
    loc = (h.placeless ∙ sym k.placeless) i;
  }

  namespace_once : (n : OldNamespace) (m p : NamespaceDefinition RawName G) → NamespaceBecomes n m
      → NamespaceBecomes n p → m ≡ p
  namespace_once n m p h k = λ i. record {
    common_types = values_once _ CommonTypeBecomes common_once n.common_types m.common_types p.common_types
        h.commons k.commons i;
    entity_types = values_once _ EntityTypeBecomes entity_once n.entity_types m.entity_types p.entity_types
        h.entities k.entities i;
    actions = values_once _ ActionBecomes action_once n.actions m.actions p.actions h.actions k.actions i;
    annotations = (h.bare ∙ sym k.bare) i;
  }

  entry_once : (e : List ℕ × OldNamespace) (f g : Option Name × NamespaceDefinition RawName G) → EntryBecomes e f
      → EntryBecomes e g → f ≡ g
  entry_once e f g h k =
      λ i. (name_once (encode_utf8_all e.0) f.0 g.0 h.0 k.0 i, namespace_once e.1 f.1 g.1 h.1 k.1 i)

  pub one_converted : (s : SchemaFragment) (f g : Fragment RawName G) → FragmentBecomes s f → FragmentBecomes s g
      → f ≡ g
  one_converted s f g (es, are, is) (fs, are', is') =
      let same = list_once EntryBecomes entry_once s.0 es fs are are' in
      let maps : f.0 ≡ g.0 = is ∙ (ap (map_of namespace_cmp) same ∙ sym is') in
      λ i. record { 0 = maps i }
