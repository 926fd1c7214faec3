-- A type of a fragment stands for one whose names are known.
use Rattle.std.proofs.Common.{◌≡◌, ℕ, Bool, true, false, cond, List, [], ◌∷◌, ◌++◌, map, Contains, Option, Some}
use Rattle.std.proofs.Common.{None, codes, refl, sym, ap, ◌∙◌, subst, inl, inr}
use Rattle.std.specs.List.{list_any}
use Rattle.std.specs.Str.{bytes_eq}
use Rattle.std.proofs.lemmas.Bool.{cases_Bool}
use Rattle.std.proofs.lemmas.List.Elements.{Contains-append_cases}
use Rattle.std.proofs.lemmas.List.Folds.{Any-from_list_any}
use Rattle.std.proofs.lemmas.Slice.Eq.{bytes_eq-Decides}
use Rattle.std.proofs.lemmas.Option.{same_Some}
use Rattle.cedar_data.proofs.Lists.{contains_unmap, found_passes, list_any-map}
use Rattle.cedar_data.proofs.Options.{seen_of}
use Rattle.cedar_identifiers.specs.Names.{components_of}
use Rattle.cedar_identifiers.specs.Words.{is_id}
use Rattle.cedar_identifiers.specs.declared.internal_name.InternalName.{InternalName}
use Rattle.cedar_identifiers.specs.declared.name_text.NameText as named
use Rattle.cedar_identifiers.specs.declared.raw_name.RawName.{RawName}
use Rattle.cedar_identifiers.specs.declared.reference_type.ReferenceType.{ReferenceType}
use Rattle.cedar_identifiers.specs.declared.reference_type.ReferenceType.TheVariants.{Entity}
use Rattle.cedar_identifiers.specs.declared.unreserved_id.UnreservedId.{UnreservedId}
use Rattle.cedar_names.specs.Meaning.{PlainType, Attributes, SchemaMeaning}
use Rattle.cedar_names.specs.Meaning as meant
use Rattle.cedar_names.specs.Tables.{table_has}
use Rattle.cedar_names.specs.declared.extension_table.ExtensionTable.{ExtensionTable}
use Rattle.schema_json.specs.declared.fragment.Fragment.{Fragment}
use Rattle.schema_json.specs.declared.types.Type.{«Type»}
use Rattle.schema_json.specs.declared.types.TypeOfAttribute.{TypeOfAttribute, out-TypeOfAttribute}
use Rattle.laws_written.specs.Printed.{IsProperPath}
use Rattle.laws_translate.specs.MeantNames.{IsSpelledType, AreSpelledTypes}
use Rattle.schema_resolve_definitions.specs.Declarations.{declared}
use Rattle.schema_resolve_definitions.specs.Defined.{defined}
use Rattle.schema_resolve_definitions.specs.Tests.{tests_of}
use Rattle.schema_resolve_targets.specs.Meanings.{kind_there}
use Rattle.schema_resolve_targets.specs.Qualified.{in_namespace}
use Rattle.schema_resolve_targets.specs.Targets.{is_defined, target}
use Rattle.schema_build_expand.specs.Expands.{Expands, by_layer, LayerExpands, to_bool, to_long, to_string, to_set}
use Rattle.schema_build_expand.specs.Expands.{to_record, to_extension, to_entity, to_builtin, to_declared, ExpandAll}
use Rattle.schema_build_expand.specs.Expands.{to_no_attributes, to_attribute}
use Rattle.schema_build_expand.specs.Scope.{in_table, builtin}
use Rattle.schema_build_expand.specs.View.{View}
use Rattle.schema_build_scope.specs.FragmentScope.{fragment_scope, by_components}
use Rattle.schema_build_scope.proofs.Targets.{kind_entity}
use Rattle.schema_build_hierarchy.proofs.ParentsDeclared.{among_held}
use Rattle.schema_build.specs.Meaning.{FragmentMeaning}
use Rattle.laws_build.specs.Closure.Known.{action_types, IsKnownName, IsKnownType, AreKnownTypes}
use Rattle.laws_build.proofs.Closure.Declared.{entity_held, action_held, type_named}

module _ {G : named.Ghosts RawName} (f : Fragment RawName G) (table : ExtensionTable) (m : SchemaMeaning)
    (mean : FragmentMeaning f table m) where
  -- what is defined as an entity type is known
  pub entity_known : (n : List (List ℕ)) → (tests_of (defined f table)).is_entity n ≡ true → IsKnownName m n
  entity_known n h =
      let types = map (λ a. a.0) (declared f).actions in
      elim (Contains-append_cases (declared f).entities types n (among_held ((declared f).entities ++ types) n h)) [
        | inl here ↦ inl (entity_held f table m mean n here)
        | inr there ↦
            let (k, ck, same) = contains_unmap (λ a. a.0) (declared f).actions n there in
            inr (subst (Contains (action_types m)) same (type_named m k (action_held f table m mean k ck)))
      ]

  means_known : (ns : Option InternalName) (kind : ReferenceType) (name : RawName) (to : List (List ℕ))
      → (fragment_scope f table).means ns kind name ≡ Some (to, Entity) → IsKnownName m to
  means_known ns kind name to e =
      let t = tests_of (defined f table) in
      let c = in_namespace ns kind name in
      let (x, is, same) = seen_of by_components _ (to, Entity) e in
      let (n, found, pair) = seen_of (λ n. (n, kind_there t kind n)) (target t c) x is in
      let here : kind_there t kind n ≡ Entity = ap (λ z. z.1) pair ∙ ap (λ z. z.1) same in
      let named : components_of n ≡ to = ap (λ z. components_of z.0) pair ∙ ap (λ z. z.0) same in
      let passes = found_passes (λ p. is_defined t c.reference_type (components_of p)) c.possibilities n found in
      subst (IsKnownName m) named (entity_known (components_of n) (kind_entity t kind n passes here))

  word_known : (w : List ℕ) → in_table (fragment_scope f table) w ≡ true → table_has table w ≡ true
  word_known w h = sym (list_any-map (bytes_eq w) (λ (n : UnreservedId). n.id.text) table.names) ∙ h

  builtin_word_known : (b c d e : Bool) (w : List ℕ) (p : PlainType) → in_table (fragment_scope f table) w ≡ e
      → cond b (Some meant.Bool) (cond c (Some meant.Long) (cond d (Some meant.String)
      (cond e (Some (meant.Ext w)) None))) ≡ Some p → IsKnownType table m p
  builtin_word_known true c d e w p h is = subst (IsKnownType table m) (same_Some meant.Bool p is) tt
  builtin_word_known false true d e w p h is = subst (IsKnownType table m) (same_Some meant.Long p is) tt
  builtin_word_known false false true e w p h is = subst (IsKnownType table m) (same_Some meant.String p is) tt
  builtin_word_known false false false true w p h is =
      subst (IsKnownType table m) (same_Some (meant.Ext w) p is) (word_known w h)
  builtin_word_known false false false false w p h is = absurd (cc)

  builtin_known : (to : List (List ℕ)) (p : PlainType) → builtin (fragment_scope f table) to ≡ Some p
      → IsKnownType table m p
  builtin_known [] p e = absurd (cc)
  builtin_known (w ∷ []) p e =
      builtin_word_known (bytes_eq w (codes "Bool")) (bytes_eq w (codes "Long")) (bytes_eq w (codes "String"))
      (in_table (fragment_scope f table) w) w p refl e
  builtin_known (v ∷ w ∷ []) p e = elim (cases_Bool (bytes_eq v (codes "__cedar"))) [
    | inl hit ↦
        builtin_known (w ∷ []) p (ap (λ b. cond b (builtin (fragment_scope f table) (w ∷ [])) None) (sym hit) ∙ e)
    | inr miss ↦ absurd (
        let no : None ≡ Some p =
        ap (λ b. cond b (builtin (fragment_scope f table) (w ∷ [])) None) (sym miss) ∙ e in
        cc)
  ]
  builtin_known (v ∷ w ∷ x ∷ more) p e = absurd (cc)

  mutual
    pub known : (ns : Option InternalName) (t : «Type» RawName) (p : PlainType)
        → Expands RawName (fragment_scope f table) ns t p → IsKnownType table m p
    known ns t p (by_layer _ _ _ l) = layer_known ns _ p l

    layer_known : (ns : Option InternalName) (v : View RawName) (p : PlainType)
        → LayerExpands RawName (fragment_scope f table) ns v p → IsKnownType table m p
    layer_known ns v p (to_bool _) = tt
    layer_known ns v p (to_long _) = tt
    layer_known ns v p (to_string _) = tt
    layer_known ns v p (to_set _ e x h) = known ns e x h
    layer_known ns v p (to_record _ es xs h) = all_known ns es xs h
    layer_known ns v p (to_extension _ w h) = word_known w h
    layer_known ns v p (to_entity _ kind name to h) = means_known ns kind name to h
    layer_known ns v p (to_builtin _ kind name to r h u b) = builtin_known to r b
    layer_known ns v p (to_declared _ kind name d r h c e) = known d.place d.ty r e

    all_known : (ns : Option InternalName) (es : List (List ℕ × TypeOfAttribute RawName)) (ps : Attributes)
        → ExpandAll RawName (fragment_scope f table) ns es ps → AreKnownTypes table m ps
    all_known ns es ps (to_no_attributes _) = tt
    all_known ns es ps (to_attribute _ name a rest x xs h hs) =
        (known ns (out-TypeOfAttribute RawName a).ty x h, all_known ns rest xs hs)

-- a word of the table is a word
table_word : (names : List UnreservedId) (w : List ℕ) → list_any (λ n. bytes_eq w n.id.text) names ≡ true
    → is_id w ≡ true
table_word names w h =
    let found = Any-from_list_any (λ (n : UnreservedId). bytes_eq w n.id.text) names h in
    ap is_id ((bytes_eq-Decides w found.1.id.text).0 found.4) ∙ found.1.id.word

-- types whose names are known are made of words, where the names are
module _ (table : ExtensionTable) (m : SchemaMeaning)
    (proper : (n : List (List ℕ)) → IsKnownName m n → IsProperPath n) where
  mutual
    pub spelled : (p : PlainType) → IsKnownType table m p → IsSpelledType p
    spelled meant.Bool h = tt
    spelled meant.Long h = tt
    spelled meant.String h = tt
    spelled (meant.Set t) h = spelled t h
    spelled (meant.Rec xs) h = all_spelled xs h
    spelled (meant.Entity name) h = proper name h
    spelled (meant.Ext name) h = table_word table.names name h

    pub all_spelled : (xs : Attributes) → AreKnownTypes table m xs → AreSpelledTypes xs
    all_spelled meant.no_more h = tt
    all_spelled (meant.attribute n r t xs) h = (spelled t h.0, all_spelled xs h.1)
