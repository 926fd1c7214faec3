-- Each row of the table of faults holds or does not.
use Rattle.std.proofs.Common.{◌≡◌, ◌<◌, false, ◌||◌, List, [], ◌∷◌, ◌++◌, map, length, refl, sym, ap, ◌∙◌}
use Rattle.std.proofs.Common.{Contains, inl, inr, ◌⊎◌, None, subst, arith}
use Rattle.std.proofs.lemmas.List.Elements.{All-contains}
use Rattle.cedar_data.proofs.Lists.{contains_map, contains_first, contains_later}
use Rattle.cedar_identifiers.specs.declared.conditional_name.ConditionalName.{ConditionalName}
use Rattle.cedar_identifiers.specs.declared.id.Id.{Id}
use Rattle.cedar_identifiers.specs.declared.internal_name.InternalName.{InternalName}
use Rattle.cedar_identifiers.specs.declared.name.Name.{Name}
use Rattle.cedar_identifiers.specs.declared.name_text.NameText as named
use Rattle.cedar_identifiers.specs.declared.raw_name.RawName.{RawName}
use Rattle.cedar_names.specs.Orders.{names_in_order, names_total}
use Rattle.cedar_names.specs.declared.extension_table.ExtensionTable.{ExtensionTable}
use Rattle.schema_json.specs.declared.fragment.Fragment.{Fragment}
use Rattle.schema_json_walk.specs.Walk.{of_fragment}
use Rattle.schema_resolve_definitions.specs.Declarations.{alone, declared}
use Rattle.schema_resolve_definitions.specs.Tests.{tests_of}
use Rattle.schema_resolve_targets.specs.Undefined.{Undefined, types_among}
use Rattle.schema_build_errors.specs.declared.schema_error.SchemaError.TheVariants as error
use Rattle.schema_build_checks.specs.DeclaredAt.{called_actions, hiding_types}
use Rattle.schema_build_checks.specs.DeclaredTwice.{IsBasenameOf, ActionTypeDeclared, TypeHides}
use Rattle.schema_build_checks.specs.Least.{IsFirstLeast}
use Rattle.schema_build_checks.specs.Rows.{Never}
use Rattle.schema_build_checks.specs.WalkFaults.{unknown_extension, unsupported, NamesExtension, NamesFeature}
use Rattle.schema_build_checks.specs.WalkFaults.{HasUnknownExtension, HasUnsupported}
use Rattle.schema_build_scope.specs.UndefinedRows.{HasUndefinedTypes, undefined_alone}
use Rattle.schema_build_hierarchy.specs.Rows.{undeclared_uses, HasUndeclaredEntityTypes}
use Rattle.schema_build_hierarchy.proofs.UsesFree.{Free, uses_free, first_contained}
use Rattle.schema_resolve_definitions.specs.Defined.{defined}
use Rattle.schema_build_hierarchy.specs.FirstUses.{IsFirstUse, AreFirstUses}
use Rattle.laws_build.proofs.Existence.Decided.{Decided, about_decided, first_least, none_least}
use Rattle.laws_build.proofs.Existence.FirstUses.{first_uses}

-- the last word of a name
last_word : (first : Id) (others : List Id) → (front : List Id) × (w : Id) × (first ∷ others ≡ front ++ w ∷ [])
last_word first [] = ([], first, refl)
last_word first (o ∷ others) =
    let r = last_word o others in (first ∷ r.0, r.1, ap (λ l. first ∷ l) r.2)

basename_of : (n : InternalName) → (w : InternalName) × IsBasenameOf n w
basename_of n =
    let r = last_word n.first n.others in (
      record { first = r.1; others = []; loc = None },
      record { namespace = r.0; last = r.2; alone = refl; placeless = refl },
    )

module _ {G : named.Ghosts RawName} (f : Fragment RawName G) where
  pub action_type_decided : Decided (ActionTypeDeclared f)
  action_type_decided = go (first_least names_in_order names_total (called_actions f))
    where
      never : called_actions f ≡ [] → Never (ActionTypeDeclared f)
      never none (error.ActionEntityTypeDeclared e) (name, h, l) =
          none_least names_in_order names_total (called_actions f) name none h
      never none _ h = absurd h

      go : (called_actions f ≡ []) ⊎ ((x : InternalName) × IsFirstLeast names_in_order (called_actions f) x)
          → Decided (ActionTypeDeclared f)
      go (inl none) = inr (never none)
      go (inr (x, h)) = inl (error.ActionEntityTypeDeclared (record { loc = x.loc }), (x, h, refl))

  pub type_hides_decided : Decided (TypeHides f)
  type_hides_decided = go (first_least names_in_order names_total (hiding_types (tests_of (declared f)) f))
    where
      never : hiding_types (tests_of (declared f)) f ≡ [] → Never (TypeHides f)
      never none (error.TypeShadowing e) (h, b) =
          none_least names_in_order names_total (hiding_types (tests_of (declared f)) f) e.shadowing_def none h
      never none _ h = absurd h

      go : (hiding_types (tests_of (declared f)) f ≡ []) ⊎ ((x : InternalName) × IsFirstLeast names_in_order
          (hiding_types (tests_of (declared f)) f) x) → Decided (TypeHides f)
      go (inl none) = inr (never none)
      go (inr (x, h)) =
          let b = basename_of x in
          inl (error.TypeShadowing (record { shadowed_def = b.0; shadowing_def = x }), (h, b.1))

  pub extension_decided : (table : ExtensionTable) → Decided (HasUnknownExtension table f)
  extension_decided table =
      about_decided NamesExtension (λ id. (
      let name : Name = record { name = alone id.id; unreserved = ap (λ b. b || false) id.unreserved } in
      (error.UnknownExtensionType (record { actual = name }), refl)))
      (of_fragment (λ ns part. unknown_extension table part) f)

  pub feature_decided : Decided (HasUnsupported f)
  feature_decided =
      about_decided NamesFeature (λ u. (error.UnsupportedFeature (record { 0 = u }), (record { 0 = u }, refl, refl)))
      (of_fragment (λ ns part. unsupported part) f)

  pub undefined_types_decided : (table : ExtensionTable) → Decided (HasUndefinedTypes f table)
  undefined_types_decided table = go (types_among (undefined_alone f table)) refl
    where
      found : List Undefined
      found = undefined_alone f table

      never : types_among (undefined_alone f table) ≡ [] → Never (HasUndefinedTypes f table)
      never none (error.TypeNotDefined e) h = h.1 none
      never none _ h = absurd h

      go : (cs : List ConditionalName) → types_among (undefined_alone f table) ≡ cs
          → Decided (HasUndefinedTypes f table)
      go [] is = inr (never is)
      go (c ∷ cs) is = inl (
        error.TypeNotDefined (record { undefined_types = types_among (undefined_alone f table) }),
        (refl, λ none. (let h : c ∷ cs ≡ [] = sym is ∙ none in cc)),
      )

  -- names of these
  names_made : (xs : List InternalName) → ((n : InternalName) → Contains xs n → Free n)
      → (ns : List Name) × (map (λ (n : Name). n.name) ns ≡ xs)
  names_made [] free = ([], refl)
  names_made (x ∷ xs) free =
      let more = names_made xs (λ n c. free n (contains_later x xs n c)) in
      let name : Name = record { name = x; unreserved = free x (contains_first x xs) } in
      (name ∷ more.0, ap (λ l. x ∷ l) more.1)

  pub undeclared_decided : (table : ExtensionTable) → Decided (HasUndeclaredEntityTypes (tests_of (defined f table)) f)
  undeclared_decided table =
      let uses = undeclared_uses (tests_of (defined f table)) f in
      let firsts = first_uses names_in_order names_total uses in
      let names = names_made firsts.0 (λ n c. All-contains Free uses n
      (uses_free f table (tests_of (defined f table)) refl)
      (first_contained names_in_order uses n
      (All-contains (IsFirstUse names_in_order uses) firsts.0 n firsts.1.first c))) in
      go names.0 (subst (AreFirstUses names_in_order uses) (sym names.1) firsts.1)
    where
      here : List InternalName
      here = undeclared_uses (tests_of (defined f table)) f

      some_used : {A : Type 0} (xs : List A) → 0 < length xs → (x : A) × Contains xs x
      some_used [] h = absurd (omega arith)
      some_used (x ∷ xs) h = (x, contains_first x xs)

      never : AreFirstUses names_in_order (undeclared_uses (tests_of (defined f table)) f) []
          → Never (HasUndeclaredEntityTypes (tests_of (defined f table)) f)
      never none e (given, is, firsts, some) =
          let x = some_used given.types some in
          let c = contains_map (λ (n : Name). n.name) given.types x.0 x.1 in
          let u = first_contained names_in_order (undeclared_uses (tests_of (defined f table)) f) x.0.name
          (All-contains (IsFirstUse names_in_order (undeclared_uses (tests_of (defined f table)) f))
          (map (λ (n : Name). n.name) given.types) x.0.name firsts.first c) in
          let w = none.whole x.0.name u in
          omega (arith, w.1.1)

      go : (ns : List Name)
          → AreFirstUses names_in_order (undeclared_uses (tests_of (defined f table)) f) (map (λ (n : Name). n.name) ns)
          → Decided (HasUndeclaredEntityTypes (tests_of (defined f table)) f)
      go [] firsts = inr (never firsts)
      go (n ∷ ns) firsts = inl (
        error.UndeclaredEntityTypes (record { types = n ∷ ns }),
        (record { types = n ∷ ns }, refl, firsts, omega arith),
      )
