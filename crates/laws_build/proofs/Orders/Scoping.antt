-- In fragments that declare the same, names mean the same and the same common types are declared.
use Rattle.std.proofs.Common.{◌≡◌, ℕ, List, [], ◌∷◌, map, Contains, Option, Some, refl, sym, ap, ◌∙◌, subst}
use Rattle.std.specs.Prelude.{slice_get}
use Rattle.std.specs.BTreeMap.{insert_entry}
use Rattle.std.specs.Cmp.{IsTotalOrder, on_total, tied_itself}
use Rattle.std.specs.Cmp.Lexicographic.{slice_cmp, lists_total}
use Rattle.std.specs.List.Sorted.{IsStrictlySortedBy}
use Rattle.std.specs.Map.{keys_of}
use Rattle.std.specs.Option.{option_map}
use Rattle.std.specs.Ordering.{match_ordering}
use Rattle.std.specs.declared.cmp.Ordering.{Ordering}
use Rattle.std.specs.declared.cmp.Ordering.TheVariants.{Less, Equal, Greater}
use Rattle.std.proofs.lemmas.Option.{slice_get-map, slice_get_within, get_or_from_slice_get}
use Rattle.cedar_data.specs.Maps.{with_entries, map_of}
use Rattle.cedar_data.specs.Text.{text_cmp}
use Rattle.cedar_data.proofs.Lists.{map-map}
use Rattle.cedar_data.proofs.Options.{seen_of}
use Rattle.cedar_data.proofs.Orders.{text_total, texts_exact}
use Rattle.cedar_identifiers.specs.Names.{components_of}
use Rattle.cedar_identifiers.specs.declared.internal_name.InternalName.{InternalName}
use Rattle.cedar_identifiers.specs.declared.raw_name.RawName.{RawName}
use Rattle.cedar_identifiers.specs.declared.reference_type.ReferenceType.{ReferenceType}
use Rattle.cedar_names.specs.Orders.{names_in_order}
use Rattle.cedar_names.specs.declared.extension_table.ExtensionTable.{ExtensionTable}
use Rattle.laws_translate.specs.Bare.{bare_internal, bare_name}
use Rattle.laws_translate.proofs.Maps.{map_rises}
use Rattle.schema_resolve_definitions.specs.Defined.{defined}
use Rattle.schema_resolve_definitions.specs.Tests.{tests_of}
use Rattle.schema_build_expand.specs.Scope.{DeclaredType, Declares, AreDeclaredOnce}
use Rattle.schema_build_checks.proofs.Names.{names_by_components}
use Rattle.schema_build_scope.specs.Commons.{TypeAt, declared_commons, commons_in_order}
use Rattle.schema_build_scope.specs.FragmentScope.{meant_in, declaration, fragment_scope}
use Rattle.schema_build_hierarchy.proofs.Gathered.{keyed_once}
use Rattle.schema_build_hierarchy.proofs.Ordered.{sorted_back}
use Rattle.laws_build.specs.Orders.Alike.{bare_place, DeclareTheSame}
use Rattle.laws_build.proofs.Orders.Declaring.{Frag, common_alone, type_alone, commons_same, tests_same}
use Rattle.laws_build.proofs.Orders.Expanding.{bare_common_type, AreScopesAlike}
use Rattle.laws_build.proofs.Orders.Naming.{meant_seen}
use Rattle.laws_build.proofs.Orders.Seen.{map_seen}

-- lists that are seen the same have items that are seen the same at each place
pub at_matched : {A B : Type 0} (f : A → B) (xs ys : List A) → map f xs ≡ map f ys → (k : ℕ) (x : A)
    → slice_get xs k ≡ Some x → (y : A) × (slice_get ys k ≡ Some y) × (f y ≡ f x)
at_matched f xs ys e k x at =
    seen_of f (slice_get ys k) (f x)
    (sym (slice_get-map f ys k)
    ∙ (ap (λ l. slice_get l k) (sym e) ∙ (slice_get-map f xs k ∙ ap (option_map f) at)))

abbrev Found : Type 0
Found = InternalName × TypeAt

-- maps by names, without places
inserted_as : (c : Ordering) (e : Found) (es : List Found) (k : InternalName) (v : TypeAt)
    → insert_entry names_in_order (map common_alone es) (bare_internal k) (type_alone v)
    ≡ map common_alone (insert_entry names_in_order es k v)
    → match_ordering c ((bare_internal k, type_alone v) ∷ common_alone e ∷ map common_alone es)
    ((bare_internal e.0, type_alone v) ∷ map common_alone es)
    (common_alone e ∷ insert_entry names_in_order (map common_alone es) (bare_internal k) (type_alone v))
    ≡ map common_alone
    (match_ordering c ((k, v) ∷ e ∷ es) ((e.0, v) ∷ es) (e ∷ insert_entry names_in_order es k v))
inserted_as Less e es k v h = refl
inserted_as Equal e es k v h = refl
inserted_as Greater e es k v h = ap (λ l. common_alone e ∷ l) h

inserted_seen : (es : List Found) (k : InternalName) (v : TypeAt)
    → insert_entry names_in_order (map common_alone es) (bare_internal k) (type_alone v)
    ≡ map common_alone (insert_entry names_in_order es k v)
inserted_seen [] k v = refl
inserted_seen (e ∷ es) k v = inserted_as (names_in_order k e.0) e es k v (inserted_seen es k v)

with_seen : (m es : List Found) → with_entries names_in_order (map common_alone m) (map common_alone es)
    ≡ map common_alone (with_entries names_in_order m es)
with_seen m [] = refl
with_seen m (e ∷ es) =
    ap (λ x. with_entries names_in_order x (map common_alone es)) (inserted_seen m e.0 e.1)
    ∙ with_seen (insert_entry names_in_order m e.0 e.1) es

module _ (g : Frag) (table : ExtensionTable) where
  abbrev by_components : InternalName → InternalName → Ordering
  by_components a b = slice_cmp text_cmp (components_of a) (components_of b)

  components_total : IsTotalOrder by_components
  components_total = on_total components_of (lists_total text_total)

  -- names are in the order of their components
  by_both : (R : InternalName → InternalName → Ordering) → by_components ≡ R
      → IsStrictlySortedBy by_components (keys_of (map_of R (declared_commons g)))
  by_both R e = subst (λ S. IsStrictlySortedBy by_components (keys_of (map_of S (declared_commons g)))) e
      (sorted_back components_of (slice_cmp text_cmp) (keys_of (map_of by_components (declared_commons g)))
      (subst (IsStrictlySortedBy (slice_cmp text_cmp))
      (sym (map-map components_of (λ (e : Found). e.0) (map_of by_components (declared_commons g))))
      (map_rises TypeAt (slice_cmp text_cmp) (lists_total text_total) texts_exact components_of
      (declared_commons g))))

  commons_rise : IsStrictlySortedBy by_components (keys_of (commons_in_order g))
  commons_rise = by_both names_in_order (λ i a b. sym (names_by_components a b) i)

  -- no two declared common types have one name
  pub declared_once : AreDeclaredOnce (fragment_scope g table)
  declared_once name a b (j, at_j, is_a) (k, at_k, is_b) =
      let es = commons_in_order g in
      let (x, ax, sx) = seen_of declaration (slice_get es j) a (sym (slice_get-map declaration es j) ∙ at_j) in
      let (y, ay, sy) = seen_of declaration (slice_get es k) b (sym (slice_get-map declaration es k) ∙ at_k) in
      let cx : Contains es x = (j, slice_get_within es j x ax, get_or_from_slice_get es j x x ax) in
      let cy : Contains es y = (k, slice_get_within es k y ay, get_or_from_slice_get es k y y ay) in
      let named : components_of x.0 ≡ components_of y.0 =
      ap (λ (d : DeclaredType RawName). d.name) sx
      ∙ (is_a ∙ (sym is_b ∙ ap (λ (d : DeclaredType RawName). d.name) (sym sy))) in
      let tied : by_components x.0 y.0 ≡ Equal =
      ap (slice_cmp text_cmp (components_of x.0)) (sym named)
      ∙ tied_itself (lists_total text_total) (components_of x.0) in
      sym sx ∙ (ap declaration (keyed_once components_total es commons_rise x y cx cy tied) ∙ sy)

declaration_seen : (es : List Found) → map bare_common_type (map declaration es) ≡ map declaration (map common_alone es)
declaration_seen es = sym (map_seen common_alone bare_common_type declaration declaration (λ e. refl) es)

module _ (f g : Frag) (table : ExtensionTable) (same : DeclareTheSame f g) where
  ordered_same : map common_alone (commons_in_order f) ≡ map common_alone (commons_in_order g)
  ordered_same =
      sym (with_seen [] (declared_commons f))
      ∙ (ap (map_of names_in_order) (commons_same f g same) ∙ with_seen [] (declared_commons g))

  commons_match : map bare_common_type (fragment_scope f table).commons
      ≡ map bare_common_type (fragment_scope g table).commons
  commons_match =
      declaration_seen (commons_in_order f)
      ∙ (ap (map declaration) ordered_same ∙ sym (declaration_seen (commons_in_order g)))

  means_same : (ns ms : Option InternalName) (kind : ReferenceType) (n m : RawName) → bare_place ns ≡ bare_place ms
      → bare_name n ≡ bare_name m
      → (fragment_scope f table).means ns kind n ≡ (fragment_scope g table).means ms kind m
  means_same ns ms kind n m places names =
      sym (meant_seen (tests_of (defined f table)) ns kind n)
      ∙ ((λ i. meant_in (tests_same f g same table i) (places i) kind (names i))
      ∙ meant_seen (tests_of (defined g table)) ms kind m)

module _ (f g : Frag) (table : ExtensionTable) (same : DeclareTheSame f g) where
  there : (x y : Frag) → DeclareTheSame x y → (name : List (List ℕ)) (d : DeclaredType RawName)
      → Declares (fragment_scope x table) name d
      → (e : DeclaredType RawName) × Declares (fragment_scope y table) name e
      × (bare_common_type d ≡ bare_common_type e)
  there x y alike name d (k, at, is) =
      let (e, here, seen) = at_matched bare_common_type (fragment_scope x table).commons
      (fragment_scope y table).commons (commons_match x y table alike) k d at in
      (e, (k, here, ap (λ (z : DeclaredType RawName). z.name) seen ∙ is), sym seen)

  pub scopes_alike : AreScopesAlike (fragment_scope f table) (fragment_scope g table)
  scopes_alike = record {
    means = means_same f g table same;
    there = there f g same;
    back = λ name d h. (let (e, k, seen) = there g f (sym same) name d h in (e, k));
    words = refl;
  }
