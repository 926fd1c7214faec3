-- A type whose attributes rise stands for one whose attributes rise.
use Rattle.std.proofs.Common.{◌≡◌, ℕ, List, ◌∷◌, Option, Some, refl, ap, subst}
use Rattle.std.specs.List.Sorted.{IsStrictlySortedBy}
use Rattle.std.specs.Map.{keys_of}
use Rattle.cedar_data.specs.Text.{text_cmp}
use Rattle.cedar_identifiers.specs.declared.internal_name.InternalName.{InternalName}
use Rattle.cedar_identifiers.specs.declared.raw_name.RawName.{RawName}
use Rattle.cedar_names.specs.Meaning.{PlainType, Attributes}
use Rattle.schema_json.specs.declared.types.Type.{«Type»}
use Rattle.schema_json.specs.declared.types.TypeOfAttribute.{TypeOfAttribute, out-TypeOfAttribute}
use Rattle.schema_build_expand.specs.Expands.{Expands, by_layer, LayerExpands, to_bool, to_long, to_string, to_set}
use Rattle.schema_build_expand.specs.Expands.{to_record, to_extension, to_entity, to_builtin, to_declared, ExpandAll}
use Rattle.schema_build_expand.specs.Expands.{to_no_attributes, to_attribute}
use Rattle.schema_build_expand.specs.Scope.{Scope, DeclaredType, Declares, builtin}
use Rattle.schema_build_expand.specs.View.{View}
use Rattle.laws_build.specs.Closure.Ordered.{meant_names, IsOrderedType, AreOrderedTypes}
use Rattle.laws_build.specs.Closure.WellFormed.{Rises, rises_by_layer, LayerRises, set_rises, record_rises, AllRise}
use Rattle.laws_build.specs.Closure.WellFormed.{next_rises}

module _ (s : Scope RawName)
    (commons : (name : List (List ℕ)) (d : DeclaredType RawName) → Declares s name d → Rises RawName d.ty)
    (builtins : (to : List (List ℕ)) (p : PlainType) → builtin s to ≡ Some p → IsOrderedType p) where
  -- attributes keep their names
  names_kept : (ns : Option InternalName) (es : List (List ℕ × TypeOfAttribute RawName)) (ps : Attributes)
      → ExpandAll RawName s ns es ps → keys_of es ≡ meant_names ps
  names_kept ns es ps (to_no_attributes _) = refl
  names_kept ns es ps (to_attribute _ name a rest x xs h hs) = ap (λ l. name ∷ l) (names_kept ns rest xs hs)

  mutual
    pub ordered : (ns : Option InternalName) (t : «Type» RawName) (p : PlainType) → Expands RawName s ns t p
        → Rises RawName t → IsOrderedType p
    ordered ns t p (by_layer _ _ _ l) (rises_by_layer _ r) = layer_ordered ns _ p l r

    layer_ordered : (ns : Option InternalName) (v : View RawName) (p : PlainType) → LayerExpands RawName s ns v p
        → LayerRises RawName v → IsOrderedType p
    layer_ordered ns v p (to_bool _) r = tt
    layer_ordered ns v p (to_long _) r = tt
    layer_ordered ns v p (to_string _) r = tt
    layer_ordered ns v p (to_set _ e x h) (set_rises _ r) = ordered ns e x h r
    layer_ordered ns v p (to_record _ es xs h) (record_rises _ _ up r) =
        (subst (IsStrictlySortedBy text_cmp) (names_kept ns es xs h) up, all_ordered ns es xs h r)
    layer_ordered ns v p (to_extension _ w h) r = tt
    layer_ordered ns v p (to_entity _ kind name to h) r = tt
    layer_ordered ns v p (to_builtin _ kind name to q h u b) r = builtins to q b
    layer_ordered ns v p (to_declared _ kind name d q h c e) r = ordered d.place d.ty q e (commons d.name d c)

    all_ordered : (ns : Option InternalName) (es : List (List ℕ × TypeOfAttribute RawName)) (ps : Attributes)
        → ExpandAll RawName s ns es ps → AllRise RawName es → AreOrderedTypes ps
    all_ordered ns es ps (to_no_attributes _) r = tt
    all_ordered ns es ps (to_attribute _ name a rest x xs h hs) (next_rises _ _ _ r rs) =
        (ordered ns (out-TypeOfAttribute RawName a).ty x h r, all_ordered ns rest xs hs rs)
