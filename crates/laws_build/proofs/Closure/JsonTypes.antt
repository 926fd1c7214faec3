-- Types that a JSON value says rise.
use Rattle.std.proofs.Common.{◌≡◌, ℕ, Bool, List, [], Contains, Option, Some, None, refl, sym, ap, ◌∙◌}
use Rattle.std.proofs.Common.{subst, inl, inr}
use Rattle.std.specs.Str.{chars}
use Rattle.std.specs.List.Sorted.{IsStrictlySortedBy}
use Rattle.std.specs.Map.{keys_of, values_of}
use Rattle.std.proofs.lemmas.List.Elements.{All-nil, All-contains}
use Rattle.serde_json.specs.Data.{Data, object, Members}
use Rattle.cedar_data.specs.Maps.{map_of}
use Rattle.cedar_data.specs.Text.{text_cmp}
use Rattle.cedar_data.proofs.Lists.{contains_map}
use Rattle.cedar_data.proofs.Orders.{text_total, text_exact, nothing_rises}
use Rattle.cedar_identifiers.specs.declared.raw_name.RawName.{RawName}
use Rattle.cedar_identifiers.specs.declared.unreserved_id.UnreservedId.{UnreservedId}
use Rattle.cedar_identifiers.specs.declared.reference_type.ReferenceType.TheVariants.{Entity, CommonOrEntity}
use Rattle.schema_json.specs.Shapes.{attributes_of, is_open}
use Rattle.schema_json.specs.declared.types.Type.{«Type»}
use Rattle.schema_json.specs.declared.types.TypeVariant.{TypeVariant-F, out-TypeVariant}
use Rattle.schema_json.specs.declared.types.TypeVariant.{out-roll-TypeVariant}
use Rattle.schema_json.specs.declared.types.TypeVariant.TheVariants as variant
use Rattle.schema_json.specs.declared.types.RecordType.{RecordType, roll-RecordType, out-roll-RecordType}
use Rattle.schema_json.specs.declared.types.TypeOfAttribute.{TypeOfAttribute, out-TypeOfAttribute}
use Rattle.schema_json_shapes.specs.Said.{IsOptional, IsType, string_type, long_type, boolean_type, set_type}
use Rattle.schema_json_shapes.specs.Said.{record_type, entity_type, either_type, extension_type, reference}
use Rattle.schema_json_shapes.specs.Said.{AreAttributes}
use Rattle.schema_json_shapes.specs.Said.{no_attribute, next_attribute, plain, record_with}
use Rattle.schema_json_shapes.specs.Shapes.{IsShapeOrNone}
use Rattle.laws_translate.proofs.Maps.{map_rises}
use Rattle.schema_build_expand.specs.View.{boolean_layer, long_layer, string_layer, reference_layer}
use Rattle.schema_build_expand.specs.View.{extension_layer}
use Rattle.schema_build_hierarchy.proofs.Once.{contains_cases}
use Rattle.laws_build.specs.Closure.WellFormed.{Rises, boolean_rises, long_rises, string_rises, set_rises}
use Rattle.laws_build.specs.Closure.WellFormed.{record_rises, reference_rises, extension_rises, TagsRise}
use Rattle.laws_build.proofs.Closure.Formed.{values_kept}
use Rattle.laws_build.proofs.Closure.Lists.{has_none}
use Rattle.laws_build.proofs.Closure.SaidTypes.{by_layer_of, all_rise, common_rises}
use Rattle.laws_build.proofs.Closure.Views.{shape_viewed, reference_viewed, set_viewed, record_viewed}

abbrev Attribute : Type 0
Attribute = TypeOfAttribute RawName

pub string_rise : Rises RawName (plain variant.String)
string_rise = by_layer_of _ string_layer (shape_viewed variant.String TypeVariant-F.String None
    (ap (out-TypeVariant RawName) (sym variant.rolls-String) ∙ out-roll-TypeVariant RawName TypeVariant-F.String))
    string_rises

pub long_rise : Rises RawName (plain variant.Long)
long_rise = by_layer_of _ long_layer (shape_viewed variant.Long TypeVariant-F.Long None
    (ap (out-TypeVariant RawName) (sym variant.rolls-Long) ∙ out-roll-TypeVariant RawName TypeVariant-F.Long))
    long_rises

pub boolean_rise : Rises RawName (plain variant.Boolean)
boolean_rise = by_layer_of _ boolean_layer (shape_viewed variant.Boolean TypeVariant-F.Boolean None
    (ap (out-TypeVariant RawName) (sym variant.rolls-Boolean) ∙ out-roll-TypeVariant RawName TypeVariant-F.Boolean))
    boolean_rises

pub set_rise : (t : «Type» RawName) → Rises RawName t → Rises RawName (plain (variant.Set t))
set_rise t h = by_layer_of _ _ (set_viewed _ t None refl) (set_rises t h)

pub entity_rise : (n : RawName) → Rises RawName (plain (variant.Entity n))
entity_rise n =
    by_layer_of _ (reference_layer Entity n) (shape_viewed (variant.Entity n) (TypeVariant-F.Entity n) None
    (ap (out-TypeVariant RawName) (sym (variant.rolls-Entity n))
    ∙ out-roll-TypeVariant RawName (TypeVariant-F.Entity n))) (reference_rises Entity n)

pub extension_rise : (id : UnreservedId) → Rises RawName (plain (variant.Extension id))
extension_rise id =
    by_layer_of _ (extension_layer id.id.text) (shape_viewed (variant.Extension id) (TypeVariant-F.Extension id) None
    (ap (out-TypeVariant RawName) (sym (variant.rolls-Extension id))
    ∙ out-roll-TypeVariant RawName (TypeVariant-F.Extension id))) (extension_rises id.id.text)

-- a record whose attributes rise
pub record_rise : (es : List (List ℕ × Attribute)) (more : Bool) → IsStrictlySortedBy text_cmp (keys_of es)
    → ((e : List ℕ × Attribute) → Contains es e → Rises RawName (out-TypeOfAttribute RawName e.1).ty)
    → Rises RawName (record_with es more)
record_rise es more up each =
    let r : RecordType RawName = roll-RecordType RawName (record { attributes = es; additional_attributes = more }) in
    let same : attributes_of r ≡ es =
    ap (λ x. x.attributes) (out-roll-RecordType RawName (record { attributes = es; additional_attributes = more })) in
    by_layer_of (record_with es more) _ (record_viewed (record_with es more) r None refl)
    (record_rises (is_open r) (attributes_of r) (subst (λ l. IsStrictlySortedBy text_cmp (keys_of l)) (sym same) up)
    (all_rise (attributes_of r)
    (λ e c. each e (subst (λ (l : List (List ℕ × Attribute)). Contains l e) same c))))

-- the attributes of a map are those of its entries
made_rises : (es : List (List ℕ × Attribute))
    → ((e : List ℕ × Attribute) → Contains es e → Rises RawName (out-TypeOfAttribute RawName e.1).ty)
    → (more : Bool) → Rises RawName (record_with (map_of text_cmp es) more)
made_rises es each more =
    let P : Attribute → Type 0 = λ a. Rises RawName (out-TypeOfAttribute RawName a).ty in
    record_rise (map_of text_cmp es) more (map_rises Attribute text_cmp text_total text_exact (λ n. n) es)
    (λ e c. All-contains P (values_of (map_of text_cmp es)) e.1 (values_kept text_cmp P [] es (All-nil P) each)
    (contains_map (λ (z : List ℕ × Attribute). z.1) (map_of text_cmp es) e c))

mutual
  pub type_rises : (d : Data) (t : «Type» RawName) → IsType d t → Rises RawName t
  type_rises d t (string_type ms w) = string_rise
  type_rises d t (long_type ms w) = long_rise
  type_rises d t (boolean_type ms w) = boolean_rise
  type_rises d t (set_type ms e x w at says) = set_rise x (type_rises e x says)
  type_rises d t (record_type ms inner es w at says) = made_rises es (attributes_rise inner es says) _
  type_rises d t (entity_type ms s n w at is) = entity_rise n
  type_rises d t (either_type ms s n w at is) =
      by_layer_of _ _ (reference_viewed _ n None refl) (reference_rises CommonOrEntity n)
  type_rises d t (extension_type ms s id w at is) = extension_rise id
  type_rises d t (reference ms s n at is_word is) = common_rises t n None refl

  attributes_rise : (ms : Members) (es : List (List ℕ × Attribute)) → AreAttributes ms es
      → (e : List ℕ × Attribute) → Contains es e → Rises RawName (out-TypeOfAttribute RawName e.1).ty
  attributes_rise ms es no_attribute e c = has_none e c
  attributes_rise ms es (next_attribute k beside rest a as' says notes marks others) e c =
      elim (contains_cases (chars k, a) as' e c) [
        | inl same ↦ subst (λ (z : List ℕ × Attribute). Rises RawName (out-TypeOfAttribute RawName z.1).ty) same
            (type_rises (object beside) (out-TypeOfAttribute RawName a).ty says)
        | inr there ↦ attributes_rise rest as' others e there
      ]

-- a shape or a context, and tags
pub shape_rises : (o : Option Data) (t : «Type» RawName) → IsShapeOrNone o t → Rises RawName t
shape_rises None t e = subst (Rises RawName) (sym e)
    (record_rise [] Bool.false (nothing_rises text_cmp) (λ e c. has_none e c))
shape_rises (Some d) t says = type_rises d t says

pub tags_rise : (o : Option Data) (tags : Option («Type» RawName)) → IsOptional IsType o tags → TagsRise tags
tags_rise None tags e = subst TagsRise (sym e) tt
tags_rise (Some d) tags (t, says, e) = subst TagsRise (sym e) (type_rises d t says)
