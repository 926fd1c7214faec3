-- The types of a formed fragment rise.
use Rattle.std.proofs.Common.{◌≡◌, ℕ, Bool, true, false, cond, List, [], ◌∷◌, map, All, Contains, Option, Some, None}
use Rattle.std.proofs.Common.{subst}
use Rattle.std.specs.Prelude.{codes}
use Rattle.std.specs.BTreeMap.{insert_entry}
use Rattle.std.specs.Map.{values_of}
use Rattle.std.specs.Str.{bytes_eq}
use Rattle.std.specs.declared.cmp.Ordering.{Ordering}
use Rattle.std.proofs.lemmas.List.Elements.{All-contains, All-nil}
use Rattle.std.proofs.lemmas.Map.Views.{All-values-insert_entry}
use Rattle.std.proofs.lemmas.Option.{same_Some}
use Rattle.cedar_data.specs.Maps.{with_entries}
use Rattle.cedar_data.proofs.Lists.{contains_flat, contains_map, contains_unmap, contains_first, contains_later}
use Rattle.cedar_identifiers.specs.declared.internal_name.InternalName.{InternalName}
use Rattle.cedar_identifiers.specs.declared.name_text.NameText as named
use Rattle.cedar_identifiers.specs.declared.raw_name.RawName.{RawName}
use Rattle.cedar_names.specs.Meaning.{PlainType}
use Rattle.cedar_names.specs.Meaning as meant
use Rattle.cedar_names.specs.Orders.{names_in_order}
use Rattle.cedar_names.specs.declared.extension_table.ExtensionTable.{ExtensionTable}
use Rattle.schema_json.specs.declared.action_type.ActionType.{ActionType}
use Rattle.schema_json.specs.declared.fragment.Fragment.{Fragment}
use Rattle.schema_json.specs.declared.types.Type.{«Type»}
use Rattle.schema_build_expand.specs.Expands.{Expands}
use Rattle.schema_build_expand.specs.Scope.{Scope, DeclaredType, Declares, in_table, builtin}
use Rattle.schema_build_checks.specs.DeclaredAt.{ActionAt}
use Rattle.schema_build_scope.specs.Commons.{TypeAt, full_common_entry, declared_commons, commons_in_order}
use Rattle.schema_build_scope.specs.FragmentScope.{declaration, fragment_scope}
use Rattle.schema_build_hierarchy.specs.Declarations.{DeclaredEntity}
use Rattle.schema_build_hierarchy.specs.Declarations.{Declared as DeclaredAs}
use Rattle.schema_build_hierarchy.proofs.Above.{contains_at}
use Rattle.laws_build.specs.Closure.Ordered.{IsOrderedType}
use Rattle.laws_build.specs.Closure.Formed.{ContextRises, IsFormed}
use Rattle.laws_build.specs.Closure.WellFormed.{Rises, IsKindFormed}
use Rattle.laws_build.proofs.Closure.Declared.{EntityStands, ActionStands}
use Rattle.laws_build.proofs.Closure.Rising.{ordered}

-- a builtin type has no attributes
word_ordered : (b c d e : Bool) (w : List ℕ) (p : PlainType)
    → cond b (Some meant.Bool) (cond c (Some meant.Long) (cond d (Some meant.String)
    (cond e (Some (meant.Ext w)) None))) ≡ Some p → IsOrderedType p
word_ordered true c d e w p is = subst IsOrderedType (same_Some meant.Bool p is) tt
word_ordered false true d e w p is = subst IsOrderedType (same_Some meant.Long p is) tt
word_ordered false false true e w p is = subst IsOrderedType (same_Some meant.String p is) tt
word_ordered false false false true w p is = subst IsOrderedType (same_Some (meant.Ext w) p is) tt
word_ordered false false false false w p is = absurd (cc)

builtin_ordered : (s : Scope RawName) (to : List (List ℕ)) (p : PlainType) → builtin s to ≡ Some p → IsOrderedType p
builtin_ordered s [] p e = absurd (cc)
builtin_ordered s (w ∷ []) p e = word_ordered (bytes_eq w (codes "Bool")) (bytes_eq w (codes "Long"))
    (bytes_eq w (codes "String")) (in_table s w) w p e
builtin_ordered s (v ∷ w ∷ []) p e = by_test (bytes_eq v (codes "__cedar")) e
  where
    by_test : (b : Bool) → cond b (builtin s (w ∷ [])) None ≡ Some p → IsOrderedType p
    by_test true e = word_ordered (bytes_eq w (codes "Bool")) (bytes_eq w (codes "Long"))
        (bytes_eq w (codes "String")) (in_table s w) w p e
    by_test false e = absurd (cc)
builtin_ordered s (v ∷ w ∷ x ∷ more) p e = absurd (cc)

-- what holds of all values of entries holds of those of their map
pub values_kept : {K X : Type 0} (cmp : K → K → Ordering) (P : X → Type 0) (old es : List (K × X))
    → All P (values_of old) → ((e : K × X) → Contains es e → P e.1) → All P (values_of (with_entries cmp old es))
values_kept cmp P old [] h each = h
values_kept cmp P old (e ∷ es) h each =
    values_kept cmp P (insert_entry cmp old e.0 e.1) es
    (All-values-insert_entry cmp e.0 e.1 P old h (each e (contains_first e es)))
    (λ x c. each x (contains_later e es x c))

module _ {G : named.Ghosts RawName} (f : Fragment RawName G) (is_formed : IsFormed f) (table : ExtensionTable) where
  commons_rise : (c : InternalName × TypeAt) → Contains (declared_commons f) c → Rises RawName c.1.ty
  commons_rise c there =
      let (e, ce, d) = contains_flat (λ e. map (full_common_entry e.0) e.1.common_types) f.0 c there in
      let (x, cx, same) = contains_unmap (full_common_entry e.0) e.1.common_types c d in
      let all = All-contains (λ e. All (λ c. Rises RawName c.1.ty) e.1.common_types) f.0 e is_formed.commons ce in
      let one : Rises RawName x.1.ty = All-contains (λ c. Rises RawName c.1.ty) e.1.common_types x all cx in
      subst (λ (z : InternalName × TypeAt). Rises RawName z.1.ty) same one

  scope_rises : (name : List (List ℕ)) (d : DeclaredType RawName) → Declares (fragment_scope f table) name d
      → Rises RawName d.ty
  scope_rises name d (k, at, same) =
      let there = contains_at (map declaration (commons_in_order f)) k d at in
      let (x, cx, is) = contains_unmap declaration (commons_in_order f) d there in
      let all = values_kept names_in_order (λ (c : TypeAt). Rises RawName c.ty) [] (declared_commons f)
      (All-nil (λ (c : TypeAt). Rises RawName c.ty)) commons_rise in
      let one : Rises RawName x.1.ty = All-contains (λ (c : TypeAt). Rises RawName c.ty)
      (values_of (commons_in_order f)) x.1 all
      (contains_map (λ (e : InternalName × TypeAt). e.1) (commons_in_order f) x cx) in
      subst (λ (z : DeclaredType RawName). Rises RawName z.ty) is one

  pub rising_ordered : (ns : Option InternalName) (t : «Type» RawName) (p : PlainType)
      → Expands RawName (fragment_scope f table) ns t p → Rises RawName t → IsOrderedType p
  rising_ordered = ordered (fragment_scope f table) scope_rises (builtin_ordered (fragment_scope f table))

  pub kind_formed : (d : DeclaredEntity) → EntityStands f d → IsKindFormed d.ty.kind
  kind_formed d s =
      let all = All-contains (λ e. All (λ d. IsKindFormed d.1.kind) e.1.entity_types) f.0 s.entry is_formed.entities
      s.inside in
      let one = All-contains (λ d. IsKindFormed d.1.kind) s.entry.1.entity_types s.item all s.among in
      subst (λ (z : DeclaredEntity). IsKindFormed z.ty.kind) s.is one

  pub context_rises : (d : DeclaredAs ActionAt (ActionType RawName G)) → ActionStands f d
      → ContextRises d.ty.applies_to
  context_rises d s =
      let all = All-contains (λ e. All (λ a. ContextRises a.1.applies_to) e.1.actions) f.0 s.entry is_formed.actions
      s.inside in
      let one = All-contains (λ a. ContextRises a.1.applies_to) s.entry.1.actions s.item all s.among in
      subst (λ (z : DeclaredAs ActionAt (ActionType RawName G)). ContextRises z.ty.applies_to) s.is one
