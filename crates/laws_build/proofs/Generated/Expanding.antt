-- What the types of a fragment stand for that says what a generated text declares.
use Rattle.std.proofs.Common.{◌≡◌, inl, inr, ℕ, ◌≤◌, Bool, true, false, cond, List, [], ◌∷◌, ◌++◌, codes}
use Rattle.std.proofs.Common.{map}
use Rattle.std.proofs.Common.{Some, None, is_some, refl, sym, ap, ◌∙◌, subst, true≢false, if◌then◌else◌}
use Rattle.std.specs.Prelude.{slice_get}
use Rattle.std.specs.Option.{option_map}
use Rattle.std.proofs.lemmas.Bool.{or_right, false_from_ne_true}
use Rattle.cedar_data.specs.Maps.{map_of}
use Rattle.cedar_data.specs.Text.{text_cmp}
use Rattle.cedar_data.proofs.Orders.{text_total}
use Rattle.schema_generate.specs.Generated.{entity_word}
use Rattle.cedar_identifiers.specs.Names.{components_of}
use Rattle.cedar_identifiers.specs.declared.raw_name.RawName.{RawName}
use Rattle.cedar_identifiers.specs.declared.reference_type.ReferenceType.{ReferenceType}
use Rattle.cedar_identifiers.specs.declared.reference_type.ReferenceType.TheVariants.{Common, Entity, CommonOrEntity}
use Rattle.cedar_names.specs.Definitions.{among}
use Rattle.cedar_names.specs.Meaning.{PlainType, Attributes, no_more, attribute}
use Rattle.cedar_names.specs.Orders.{names_in_order}
use Rattle.cedar_names.specs.declared.extension_table.ExtensionTable.{ExtensionTable}
use Rattle.schema_json.specs.Shapes.{attributes_of}
use Rattle.schema_json.specs.declared.fragment.Fragment.{Fragment}
use Rattle.schema_json.specs.declared.types.Type.{«Type»}
use Rattle.schema_json.specs.declared.types.TypeOfAttribute.{TypeOfAttribute, out-TypeOfAttribute}
use Rattle.schema_json.specs.AsWritten.{as_written}
use Rattle.laws_written.specs.Written.{WrittenAttributes, rec}
use Rattle.laws_translate.specs.FragmentsSay.{FragmentSays}
use Rattle.laws_translate.specs.TypesSay.{TypeSays, AttributeSays}
use Rattle.schema_resolve_definitions.specs.Defined.{builtins, is_hidden, names_of_builtin, names_of_builtins}
use Rattle.schema_resolve_definitions.specs.Tests.{Tests}
use Rattle.schema_build_expand.specs.Expands.{Expands, by_layer, LayerExpands, to_record, to_entity, to_builtin}
use Rattle.schema_build_expand.specs.Expands.{ExpandAll, to_no_attributes, to_attribute}
use Rattle.schema_build_expand.specs.Scope.{Scope, AreDeclaredOnce, IsUndeclared}
use Rattle.schema_build_expand.specs.View.{record_layer}
use Rattle.schema_build_scope.specs.FragmentScope.{fragment_scope, declaration}
use Rattle.laws_build.proofs.Closure.Views.{reference_viewed, record_viewed}
use Rattle.laws_build.proofs.Said.Members.{IsIn, in_flat, found_there}
use Rattle.laws_build.proofs.Said.Defining.{among_to}
use Rattle.laws_build.specs.Generated.Declares.{generated_items}
use Rattle.laws_build.proofs.Generated.Defined.{IsDeclaredName, IsTypeName, long, own, own_there}
use Rattle.laws_build.proofs.Generated.Defined.{t}
use Rattle.laws_build.proofs.Generated.Defined.{commons_are, long_defined, type_defined}
use Rattle.laws_build.proofs.Generated.Faultless.{none_common}
use Rattle.laws_build.proofs.Generated.Walked.{AreNames, SaysName, said_name}

-- a name of one component is none of two
two_words : (c w x : List ℕ) (p : List (List ℕ)) → p ≡ x ∷ [] → p ≡ c ∷ w ∷ [] → ⊥
two_words c w x p e h = cc

module _ (n : ℕ) (some : 1 ≤ n) (f : Fragment RawName as_written) (says : FragmentSays f (generated_items n))
    (table : ExtensionTable) where
  abbrev tests : Tests
  tests = t n some f says table

  abbrev scope : Scope RawName
  scope = fragment_scope f table

  scope_without : scope.commons ≡ []
  scope_without = ap (λ l. map declaration (map_of names_in_order l)) (none_common n some f says table)

  pub none_declared : (name : List (List ℕ)) → IsUndeclared scope name
  none_declared name d (k, at, same) = by (ap (λ l. slice_get l k) (sym scope_without) ∙ at)
    where
      by : None ≡ Some d → ⊥
      by e = true≢false (sym (ap is_some e))

  pub declared_once : AreDeclaredOnce scope
  declared_once name a b h k = absurd (none_declared name a h)

  -- the name of an entity type is none of a common type
  not_common : (p : List (List ℕ)) → IsDeclaredName n p → tests.is_common p ≡ false
  not_common p known = false_from_ne_true (tests.is_common p) (λ h.
      let names = names_of_builtins (own n some f says) (builtins table) in
      let there : IsIn p names =
      among_to names p (sym (ap (λ l. among (l ++ names) p) (commons_are n some f says)) ∙ h) in
      let o = in_flat (names_of_builtin (own n some f says)) (builtins table) p there in
      by o.0 o.2)
    where
      by : (w : List ℕ) → IsIn p (names_of_builtin (own n some f says) w) → ⊥
      by w (inl e) = two_words (codes "__cedar") w (entity_word known.0) p known.2 e
      by w (inr h) = alone (is_hidden (own n some f says) w) refl h
        where
          alone : (b : Bool) → is_hidden (own n some f says) w ≡ b → IsIn p (if b then [] else (w ∷ []) ∷ []) → ⊥
          alone true e k = k
          alone false e (inr k) = k
          alone false e (inl k) =
              true≢false (sym (or_right ((own n some f says).is_common (w ∷ []))
              ((own n some f says).is_entity (w ∷ []))
              (ap (own n some f says).is_entity (sym k) ∙ own_there n some f says p known)) ∙ e)

  -- what a name means in the empty namespace
  meant : (m : RawName) (b : Bool) → IsTypeName n (components_of m.name) → tests.is_common (components_of m.name) ≡ b
      → scope.means None CommonOrEntity m ≡ Some (components_of m.name, if b then Common else Entity)
  meant m b h e =
      let found = type_defined n some f says table (components_of m.name) h in
      ap (λ c. option_map (λ (x : _ × ReferenceType).
      let r : List (List ℕ) × ReferenceType = (components_of x.0, x.1) in r)
      (option_map (λ x. (x, if tests.is_common (components_of x) then Common else Entity))
      (cond c (Some m.name) None))) found
      ∙ ap (λ c. let r : List (List ℕ) × ReferenceType = (components_of m.name, if c then Common else Entity) in
      Some r) e

  name_expands : (u : «Type» RawName) → SaysName (IsTypeName n) u
      → (p : PlainType) × Expands RawName scope None u p
  name_expands u (p, inl is, (m, loc, e, same)) =
      let name : components_of m.name ≡ long = same ∙ is in
      let means : scope.means None CommonOrEntity m ≡ Some (long, Common) =
      meant m true (inl name) (ap tests.is_common name ∙ long_defined n some f says table)
      ∙ ap (λ x. let r : List (List ℕ) × ReferenceType = (x, Common) in Some r) name in (
        PlainType.Long,
        by_layer None u PlainType.Long
            (subst (λ v. LayerExpands RawName scope None v PlainType.Long) (sym (reference_viewed u m loc e))
            (to_builtin None CommonOrEntity m long PlainType.Long means (none_declared long) refl)),
      )
  name_expands u (p, inr known, (m, loc, e, same)) =
      let here : IsDeclaredName n (components_of m.name) = subst (IsDeclaredName n) (sym same) known in
      let means = meant m false (inr here) (not_common (components_of m.name) here) in (
        PlainType.Entity (components_of m.name),
        by_layer None u (PlainType.Entity (components_of m.name))
            (subst (λ v. LayerExpands RawName scope None v (PlainType.Entity (components_of m.name)))
            (sym (reference_viewed u m loc e))
            (to_entity None CommonOrEntity m (components_of m.name) means)),
      )

  abbrev Entry : Type 0
  Entry = List ℕ × TypeOfAttribute RawName

  entries_expand : (es : List Entry)
      → ((x : Entry) → IsIn x es → SaysName (IsTypeName n) (out-TypeOfAttribute RawName x.1).ty)
      → (ps : Attributes) × ExpandAll RawName scope None es ps
  entries_expand [] each = (no_more, to_no_attributes None)
  entries_expand (x ∷ es) each =
      let first = name_expands (out-TypeOfAttribute RawName x.1).ty (each x (inl refl)) in
      let others = entries_expand es (λ y h. each y (inr h)) in (
        attribute x.0 (out-TypeOfAttribute RawName x.1).required first.0 others.0,
        to_attribute None x.0 x.1 es first.0 others.0 first.1 others.1,
      )

  -- a record of names stands for something
  pub record_expands : (u : «Type» RawName) (xs : WrittenAttributes) → AreNames (IsTypeName n) xs → TypeSays u (rec xs)
      → (ps : Attributes) × Expands RawName scope None u (PlainType.Rec ps)
  record_expands u xs q (r, loc, e, closed, up, each) =
      let all = entries_expand (attributes_of r) (λ x h.
      let there = found_there text_cmp text_total (λ (k : List ℕ). k) (attributes_of r) x up h in
      said_name (IsTypeName n) x.0 x.1 xs q (subst (λ o. AttributeSays x.0 o xs) there (each x.0))) in (
        all.0,
        by_layer None u (PlainType.Rec all.0)
            (subst (λ v. LayerExpands RawName scope None v (PlainType.Rec all.0))
            (sym (record_viewed u r loc e ∙ ap (λ b. record_layer b (attributes_of r)) closed))
            (to_record None (attributes_of r) all.0 all.1)),
      )
