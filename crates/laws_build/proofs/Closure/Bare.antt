-- What another schema declares has nothing but a name and ancestors.
use Rattle.std.proofs.Common.{◌≡◌, ℕ, Bool, true, false, not, ◌&&◌, List, [], ◌∷◌, Option, refl, sym, ap}
use Rattle.std.proofs.Common.{◌∙◌, subst, true≢false}
use Rattle.cedar_data.proofs.Lists.{empty_before}
use Rattle.cedar_identifiers.specs.declared.internal_name.InternalName.{InternalName}
use Rattle.cedar_identifiers.specs.declared.name.Name.{Name}
use Rattle.cedar_identifiers.specs.declared.name_text.NameText as named
use Rattle.cedar_identifiers.specs.declared.raw_name.RawName.{RawName}
use Rattle.cedar_names.specs.Meaning.{PlainType, Attributes, no_more}
use Rattle.cedar_names.specs.Meaning as meant
use Rattle.schema_json.specs.Shapes.{attributes_of, is_open, is_empty_type, is_empty_record}
use Rattle.schema_json.specs.Shapes.{has_none, is_empty_shape, is_empty_outside}
use Rattle.schema_json.specs.declared.action_type.ActionType.{ActionType}
use Rattle.schema_json.specs.declared.entity_type.EntityType.{EntityType}
use Rattle.schema_json.specs.declared.fragment.Fragment.{Fragment}
use Rattle.schema_json.specs.declared.types.Type.{«Type», Type-F, out-Type}
use Rattle.schema_json.specs.declared.types.TypeVariant.{TypeVariant, TypeVariant-F, out-TypeVariant}
use Rattle.schema_json.specs.declared.types.RecordType.{RecordType}
use Rattle.schema_json.specs.declared.types.TypeOfAttribute.{TypeOfAttribute}
use Rattle.schema_json_walk.specs.Bare.{is_bare_entity, is_bare_action}
use Rattle.schema_json_walk.specs.Parts.{Part}
use Rattle.schema_json_walk.specs.Walk.{of_kind, of_entity, of_action, of_action_parts, of_fragment}
use Rattle.schema_build_errors.specs.declared.schema_error.SchemaError.TheVariants as error
use Rattle.schema_build_errors.specs.declared.use_errors.UnsupportedFeature.{UnsupportedFeature}
use Rattle.schema_build_expand.specs.Expands.{Expands, by_layer, LayerExpands, to_bool, to_long, to_string, to_set}
use Rattle.schema_build_expand.specs.Expands.{to_record, to_extension, to_entity, to_builtin, to_declared, ExpandAll}
use Rattle.schema_build_expand.specs.Expands.{to_no_attributes, to_attribute}
use Rattle.schema_build_expand.specs.Scope.{Scope}
use Rattle.schema_build_expand.specs.View.{View, outer_view, shape_view, record_layer, view}
use Rattle.schema_build_checks.specs.Refusing.{IsAboutFirst}
use Rattle.schema_build_checks.specs.Rows.{Never}
use Rattle.schema_build_checks.specs.WalkFaults.{unsupported, NamesFeature, HasUnsupported}
use Rattle.laws_build.proofs.Closure.Lists.{empty_where}

abbrev Entry : Type 0
Entry = List ℕ × TypeOfAttribute RawName

abbrev pub ShapeOf : Type 0
ShapeOf = TypeVariant-F RawName («Type» RawName) (TypeVariant RawName) (RecordType RawName) (TypeOfAttribute RawName)

abbrev pub OuterOf : Type 0
OuterOf = Type-F RawName («Type» RawName) (TypeVariant RawName) (RecordType RawName) (TypeOfAttribute RawName)

pub alike_record : (r : RecordType RawName) → is_empty_record r ≡ (has_none (attributes_of r) && not (is_open r))
alike_record r = refl

pub alike_type : (t : «Type» RawName) → is_empty_type t ≡ is_empty_outside (out-Type RawName t)
alike_type t = refl

entries_none : (es : List Entry) (b : Bool) → (has_none es && not b) ≡ true → es ≡ []
entries_none [] b e = refl
entries_none (x ∷ xs) b e = absurd (cc)

-- a type that is an empty record has the layer of one
IsEmptyLayer : View RawName → Type 0
IsEmptyLayer v = (b : Bool) × (v ≡ record_layer b [])

shape_none : (v : ShapeOf) → is_empty_shape v ≡ true → IsEmptyLayer (shape_view v)
unfolding IsEmptyLayer
shape_none (TypeVariant-F.Record r) e = (
  is_open r,
  ap (record_layer (is_open r))
      (entries_none (attributes_of r) (is_open r) (sym (alike_record r) ∙ e)),
)
shape_none TypeVariant-F.String e = absurd (cc)
shape_none TypeVariant-F.Long e = absurd (cc)
shape_none TypeVariant-F.Boolean e = absurd (cc)
shape_none (TypeVariant-F.Set element) e = absurd (cc)
shape_none (TypeVariant-F.Entity name) e = absurd (cc)
shape_none (TypeVariant-F.EntityOrCommon name) e = absurd (cc)
shape_none (TypeVariant-F.Extension name) e = absurd (cc)

outside_none : (o : OuterOf) → is_empty_outside o ≡ true → IsEmptyLayer (outer_view o)
outside_none (Type-F.Variant ty loc) e = shape_none (out-TypeVariant RawName ty) e
outside_none (Type-F.CommonTypeRef name loc) e = absurd (cc)

module _ (s : Scope RawName) where
  all_none : (ns : Option InternalName) (es : List Entry) (ps : Attributes) → ExpandAll RawName s ns es ps → es ≡ []
      → ps ≡ no_more
  all_none ns es ps (to_no_attributes _) e = refl
  all_none ns es ps (to_attribute _ name a rest x xs h hs) e = absurd (cc)

  layer_none : (ns : Option InternalName) (v : View RawName) (p : PlainType) → LayerExpands RawName s ns v p
      → (b : Bool) → v ≡ record_layer b [] → (xs : Attributes) → p ≡ meant.Rec xs → xs ≡ no_more
  layer_none ns v p (to_record _ es ps h) b e xs q =
      let none : es ≡ [] = cc in
      let same : ps ≡ xs = cc in
      sym same ∙ all_none ns es ps h none
  layer_none ns v p (to_bool _) b e xs q = absurd (cc)
  layer_none ns v p (to_long _) b e xs q = absurd (cc)
  layer_none ns v p (to_string _) b e xs q = absurd (cc)
  layer_none ns v p (to_set _ t x h) b e xs q = absurd (cc)
  layer_none ns v p (to_extension _ w h) b e xs q = absurd (cc)
  layer_none ns v p (to_entity _ kind name to h) b e xs q = absurd (cc)
  layer_none ns v p (to_builtin _ kind name to r h u k) b e xs q = absurd (cc)
  layer_none ns v p (to_declared _ kind name d r h c k) b e xs q = absurd (cc)

  type_none : (ns : Option InternalName) (t : «Type» RawName) (p : PlainType) → Expands RawName s ns t p
      → IsEmptyLayer (view t) → (xs : Attributes) → p ≡ meant.Rec xs → xs ≡ no_more
  unfolding IsEmptyLayer
  type_none ns t p (by_layer _ _ _ l) (b, e) xs q = layer_none ns _ p l b e xs q

  -- an empty record stands for no attributes
  pub empty_means : (ns : Option InternalName) (t : «Type» RawName) (xs : Attributes) → is_empty_type t ≡ true
      → Expands RawName s ns t (meant.Rec xs) → xs ≡ no_more
  empty_means ns t xs e h =
      type_none ns t (meant.Rec xs) h (outside_none (out-Type RawName t) (sym (alike_type t) ∙ e)) xs refl

-- features that no schema has are in no part
abbrev features : Option Name → Part RawName → List UnsupportedFeature
features ns part = unsupported part

pub none_unsupported : {G : named.Ghosts RawName} (f : Fragment RawName G) → Never (HasUnsupported f)
    → of_fragment (λ ns part. unsupported part) f ≡ []
none_unsupported f never = by_case (of_fragment features f) refl
  where
    by_case : (us : List UnsupportedFeature) → of_fragment features f ≡ us → of_fragment features f ≡ []
    by_case [] e = e
    by_case (u ∷ us) e =
        let error_is = error.UnsupportedFeature (record { 0 = u }) in
        absurd (never error_is (subst (λ l. IsAboutFirst NamesFeature l error_is) (sym e) (_, refl, refl)))

bare_where : (a b : Bool) → (a && not b) ≡ false → a ≡ true → b ≡ true
bare_where true true e h = refl
bare_where true false e h = absurd (true≢false e)
bare_where false b e h = absurd (true≢false (sym h))

pub entity_bare : (e : EntityType RawName) → of_entity unsupported e ≡ [] → e.external ≡ true → is_bare_entity e ≡ true
entity_bare e none h = bare_where e.external (is_bare_entity e)
    (empty_where (e.external && not (is_bare_entity e)) _ (empty_before _ (of_kind unsupported e.kind) none)) h

pub action_bare : {G : named.Ghosts RawName} (a : ActionType RawName G) → of_action unsupported a ≡ []
    → a.external ≡ true → is_bare_action a ≡ true
action_bare a none h = bare_where a.external (is_bare_action a)
    (empty_where (a.external && not (is_bare_action a)) _ (empty_before _ (of_action_parts unsupported a) none)) h
