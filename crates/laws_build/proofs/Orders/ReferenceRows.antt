-- The rows on references that mean nothing hold together of fragments that declare the same.
use Rattle.std.proofs.Common.{◌≡◌, ◌<◌, ℕ, Bool, true, false, not, cond, List, [], ◌∷◌, map, filter, length, Option}
use Rattle.std.proofs.Common.{Some, None, Ordering, refl, sym, ap, ◌∙◌, arith}
use Rattle.std.specs.Option.{option_map, option_to_list}
use Rattle.std.specs.List.{AllByRecursion}
use Rattle.std.specs.Ordering.{is_eq}
use Rattle.std.proofs.lemmas.List.Elements.{All-from_recursion, recursion_from_All}
use Rattle.cedar_data.proofs.Lists.{map-map}
use Rattle.cedar_identifiers.specs.Names.{components_of, has_cedar}
use Rattle.cedar_identifiers.specs.declared.conditional_name.ConditionalName.{ConditionalName}
use Rattle.cedar_identifiers.specs.declared.internal_name.InternalName.{InternalName}
use Rattle.cedar_identifiers.specs.declared.name.Name.{Name}
use Rattle.cedar_identifiers.specs.declared.name_text.NameText as named
use Rattle.cedar_identifiers.specs.declared.raw_name.RawName.{RawName}
use Rattle.cedar_identifiers.specs.declared.reference_type.ReferenceType.{ReferenceType}
use Rattle.cedar_identifiers.specs.declared.reference_type.ReferenceType.TheVariants.{Common, Entity}
use Rattle.cedar_names.specs.Orders.{names_in_order}
use Rattle.cedar_names.specs.declared.extension_table.ExtensionTable.{ExtensionTable}
use Rattle.schema_json.specs.Actions.{written_type}
use Rattle.schema_json.specs.Presence.{is_where_due}
use Rattle.schema_json.specs.declared.action_type.ActionEntityUID.{ActionEntityUID}
use Rattle.laws_translate.specs.Bare.{bare_internal, bare_name}
use Rattle.schema_json_walk.specs.Parts.{Part, type_reference, context_reference, parent, principal, resource}
use Rattle.schema_json_walk.specs.Parts.{action_parent, extension_type, open_record, action_attributes}
use Rattle.schema_json_walk.specs.Parts.{external_not_bare}
use Rattle.schema_json_walk.specs.Walk.{of_fragment}
use Rattle.schema_resolve_definitions.specs.Declarations.{name_of, declared}
use Rattle.schema_resolve_definitions.specs.Defined.{defined}
use Rattle.schema_resolve_definitions.specs.Tests.{Tests, tests_of}
use Rattle.schema_resolve_targets.specs.Gathered.{uids}
use Rattle.schema_resolve_targets.specs.Qualified.{in_namespace, type_in_namespace}
use Rattle.schema_resolve_targets.specs.ReferenceParts.{by_reference}
use Rattle.schema_resolve_targets.specs.Untargeted.{untargeted_in, undefined}
use Rattle.schema_resolve_targets.specs.Targets.{target, action_target, unless}
use Rattle.schema_resolve_targets.specs.Undefined.{Undefined, types_among, actions_among}
use Rattle.schema_resolve_targets.specs.Undefined as undefined
use Rattle.schema_build_errors.specs.declared.schema_error.SchemaError.TheVariants as error
use Rattle.schema_build_scope.specs.UndefinedRows.{undefined_alone, HasUndefinedTypes, HasUndefinedActions}
use Rattle.schema_build_hierarchy.specs.FirstUses.{IsFirstUse, AreFirstUses}
use Rattle.schema_build_hierarchy.specs.Rows.{undeclared_target, undeclared_part, undeclared_uses}
use Rattle.schema_build_hierarchy.specs.Rows.{HasUndeclaredEntityTypes}
use Rattle.laws_build.specs.Orders.Alike.{bare_space, bare_place, declared_alone, DeclareTheSame}
use Rattle.laws_build.proofs.Orders.Declaring.{Frag, own_alone, tests_same}
use Rattle.laws_build.proofs.Orders.Meaning.{seen_rise}
use Rattle.laws_build.proofs.Orders.Naming.{place_named, candidates_seen, written_type_seen, target_seen}
use Rattle.laws_build.proofs.Orders.Naming.{action_seen}
use Rattle.laws_build.proofs.Orders.Rows.{Follows, filter_too}
use Rattle.laws_build.proofs.Orders.Seen.{matched, none_seen}
use Rattle.laws_build.proofs.Orders.Walked.{bare_part, fragment_seen}

-- references without places
abbrev pub bare_conditional : ConditionalName → ConditionalName
bare_conditional c = record {
  possibilities = map bare_internal c.possibilities;
  raw = bare_name c.raw;
  reference_type = c.reference_type;
}

abbrev pub bare_undefined : Undefined → Undefined
bare_undefined (undefined.type_reference c) = undefined.type_reference (bare_conditional c)
bare_undefined (undefined.action_reference id ty) = undefined.action_reference id (option_map bare_conditional ty)

abbrev Reference : Type 0
Reference = List ℕ × Option ConditionalName

abbrev bare_reference : Reference → Reference
bare_reference r = (r.0, option_map bare_conditional r.1)

conditional_seen : (ns : Option InternalName) (kind : ReferenceType) (name : RawName)
    → in_namespace (bare_place ns) kind (bare_name name) ≡ bare_conditional (in_namespace ns kind name)
conditional_seen ns kind name = λ i. record {
  possibilities = candidates_seen ns name.name i;
  raw = bare_name name;
  reference_type = kind;
}

action_conditional_seen : (ns : Option InternalName) (id : List ℕ) (ty : Option RawName)
    → type_in_namespace (bare_place ns) id (option_map bare_name ty) ≡ bare_conditional (type_in_namespace ns id ty)
action_conditional_seen ns id ty =
    (λ i. in_namespace (bare_place ns) Entity (let n : RawName = record { name = written_type_seen ty i } in n))
    ∙ conditional_seen ns Entity (record { name = written_type ty })

unless_seen : {A B U V : Type 0} (h : A → B) (k : U → V) (o : Option A) (u : U)
    → unless (option_map h o) (k u) ≡ map k (unless o u)
unless_seen h k None u = refl
unless_seen h k (Some a) u = refl

module _ (t : Tests) where
  type_untargeted : (ns : Option Name) (kind : ReferenceType) (name : RawName)
      → (untargeted_in t (name_of (bare_space ns))).types kind (bare_name name)
      ≡ map bare_undefined ((untargeted_in t (name_of ns)).types kind name)
  type_untargeted ns kind name =
      ap (λ p. (untargeted_in t p).types kind (bare_name name)) (place_named ns)
      ∙ ((λ i. unless (target_seen t (name_of ns) kind name i)
      (undefined.type_reference (conditional_seen (name_of ns) kind name i)))
      ∙ unless_seen bare_internal bare_undefined (target t (in_namespace (name_of ns) kind name))
      (undefined.type_reference (in_namespace (name_of ns) kind name)))

  action_untargeted : (ns : Option Name) (id : List ℕ) (ty : Option RawName)
      → (untargeted_in t (name_of (bare_space ns))).actions id (option_map bare_name ty)
      ≡ map bare_undefined ((untargeted_in t (name_of ns)).actions id ty)
  action_untargeted ns id ty =
      ap (λ p. (untargeted_in t p).actions id (option_map bare_name ty)) (place_named ns)
      ∙ ((λ i. unless (action_seen t (name_of ns) id ty i)
      (undefined.action_reference id (Some (action_conditional_seen (name_of ns) id ty i))))
      ∙ unless_seen bare_internal bare_undefined
      (action_target t id (Some (type_in_namespace (name_of ns) id ty)))
      (undefined.action_reference id (Some (type_in_namespace (name_of ns) id ty))))

  untargeted_seen : (ns : Option Name) (p : Part RawName)
      → by_reference (untargeted_in t (name_of (bare_space ns))) (bare_part p)
      ≡ map bare_undefined (by_reference (untargeted_in t (name_of ns)) p)
  untargeted_seen ns (type_reference kind name) = type_untargeted ns kind name
  untargeted_seen ns (context_reference name) = type_untargeted ns Common name
  untargeted_seen ns (parent name) = type_untargeted ns Entity name
  untargeted_seen ns (principal name) = type_untargeted ns Entity name
  untargeted_seen ns (resource name) = type_untargeted ns Entity name
  untargeted_seen ns (action_parent id ty) = action_untargeted ns id ty
  untargeted_seen ns (extension_type id) = refl
  untargeted_seen ns open_record = refl
  untargeted_seen ns (action_attributes names) = refl
  untargeted_seen ns external_not_bare = refl

  untargeted_alone : (f : Frag) → undefined t (declared_alone f) ≡ map bare_undefined (undefined t f)
  untargeted_alone = fragment_seen (λ ns. by_reference (untargeted_in t (name_of ns))) bare_undefined untargeted_seen

types_seen : (us : List Undefined) → types_among (map bare_undefined us) ≡ map bare_conditional (types_among us)
types_seen [] = refl
types_seen (undefined.type_reference c ∷ us) = ap (λ l. bare_conditional c ∷ l) (types_seen us)
types_seen (undefined.action_reference id ty ∷ us) = types_seen us

actions_seen : (us : List Undefined) → actions_among (map bare_undefined us) ≡ map bare_reference (actions_among us)
actions_seen [] = refl
actions_seen (undefined.type_reference c ∷ us) = actions_seen us
actions_seen (undefined.action_reference id ty ∷ us) = ap (λ l. bare_reference (id, ty) ∷ l) (actions_seen us)

module _ (f g : Frag) (table : ExtensionTable) (same : DeclareTheSame f g) where
  undefined_same : map bare_undefined (undefined_alone f table) ≡ map bare_undefined (undefined_alone g table)
  undefined_same =
      sym (untargeted_alone (tests_of (defined f table)) f)
      ∙ ((λ i. undefined (tests_same f g same table i) (same i)) ∙ untargeted_alone (tests_of (defined g table)) g)

  types_same : map bare_conditional (types_among (undefined_alone f table))
      ≡ map bare_conditional (types_among (undefined_alone g table))
  types_same = sym (types_seen (undefined_alone f table))
      ∙ (ap types_among undefined_same ∙ types_seen (undefined_alone g table))

  actions_same : map bare_reference (actions_among (undefined_alone f table))
      ≡ map bare_reference (actions_among (undefined_alone g table))
  actions_same = sym (actions_seen (undefined_alone f table))
      ∙ (ap actions_among undefined_same ∙ actions_seen (undefined_alone g table))

  pub types_follow : Follows (HasUndefinedTypes f table) (HasUndefinedTypes g table)
  types_follow (error.TypeNotDefined e) (is, some) = (
    error.TypeNotDefined (record { undefined_types = types_among (undefined_alone g table) }),
    (
      refl,
      λ none. some (none_seen bare_conditional (types_among (undefined_alone f table))
          (types_same ∙ ap (map bare_conditional) none)),
    ),
  )
  types_follow _ h = absurd h

-- references to actions of other places
due_too : {A B : Type 0} (h : A → B) (due : Bool) (o : Option A) → is_where_due due (option_map h o)
    ≡ is_where_due due o
due_too h due None = refl
due_too h due (Some a) = refl

module _ {G : named.Ghosts ConditionalName} where
  replaced : (us : List (ActionEntityUID ConditionalName G)) (ys : List Reference)
      → map bare_reference (uids us) ≡ map bare_reference ys
      → (vs : List (ActionEntityUID ConditionalName G)) × (uids vs ≡ ys)
  replaced [] [] e = ([], refl)
  replaced [] (y ∷ ys) e = absurd (cc)
  replaced (u ∷ us) [] e = absurd (cc)
  replaced (u ∷ us) (y ∷ ys) e =
      let first : bare_reference (u.id, u.ty) ≡ bare_reference y = cc in
      let others : map bare_reference (uids us) ≡ map bare_reference ys = cc in
      let (vs, is) = replaced us ys others in
      let typed : is_where_due G.TYPED y.1 ≡ true =
      sym (due_too bare_conditional G.TYPED y.1)
      ∙ (ap (λ (r : Reference). is_where_due G.TYPED r.1) (sym first)
      ∙ (due_too bare_conditional G.TYPED u.ty ∙ u.typed)) in
      (record { id = y.0; ty = y.1; typed = typed } ∷ vs, ap (λ l. y ∷ l) is)

module _ (f g : Frag) (table : ExtensionTable) (same : DeclareTheSame f g) where
  pub actions_follow : Follows (HasUndefinedActions f table) (HasUndefinedActions g table)
  actions_follow (error.ActionNotDefined e) (is, some) =
      let alike = actions_same f g table same in
      let (vs, are) = replaced e.0 (actions_among (undefined_alone g table)) (ap (map bare_reference) is ∙ alike) in (
        error.ActionNotDefined (record { 0 = vs }),
        (
          are,
          λ none. some (none_seen bare_reference (actions_among (undefined_alone f table))
              (alike ∙ ap (map bare_reference) none)),
        ),
      )
  actions_follow _ h = absurd h

-- uses of entity types that are not declared
module _ (t own : Tests) where
  kept_seen : (o : Option InternalName)
      → filter (λ n. not (own.is_entity (components_of n))) (option_to_list (option_map bare_internal o))
      ≡ map bare_internal (filter (λ n. not (own.is_entity (components_of n))) (option_to_list o))
  kept_seen None = refl
  kept_seen (Some n) = by_case (not (own.is_entity (components_of n)))
    where
      by_case : (b : Bool) → cond b (bare_internal n ∷ []) [] ≡ map bare_internal (cond b (n ∷ []) [])
      by_case true = refl
      by_case false = refl

  use_seen : (ns : Option Name) (name : RawName)
      → undeclared_target t own (bare_space ns) (bare_name name) ≡ map bare_internal (undeclared_target t own ns name)
  use_seen ns name =
      ap (λ p. filter (λ n. not (own.is_entity (components_of n)))
      (option_to_list (target t (in_namespace p Entity (bare_name name)))))
      (place_named ns)
      ∙ (ap (λ o. filter (λ n. not (own.is_entity (components_of n))) (option_to_list o))
      (target_seen t (name_of ns) Entity name)
      ∙ kept_seen (target t (in_namespace (name_of ns) Entity name)))

  part_seen : (ns : Option Name) (p : Part RawName)
      → undeclared_part t own (bare_space ns) (bare_part p) ≡ map bare_internal (undeclared_part t own ns p)
  part_seen ns (parent name) = use_seen ns name
  part_seen ns (principal name) = use_seen ns name
  part_seen ns (resource name) = use_seen ns name
  part_seen ns (type_reference kind name) = refl
  part_seen ns (context_reference name) = refl
  part_seen ns (action_parent id ty) = refl
  part_seen ns (extension_type id) = refl
  part_seen ns open_record = refl
  part_seen ns (action_attributes names) = refl
  part_seen ns external_not_bare = refl

uses_alone : (t : Tests) (f : Frag) → undeclared_uses t (declared_alone f) ≡ map bare_internal (undeclared_uses t f)
uses_alone t f =
    ap (λ own. uses_by own (declared_alone f)) (own_alone f)
    ∙ fragment_seen (undeclared_part t (tests_of (declared f))) bare_internal (part_seen t (tests_of (declared f))) f
  where
    uses_by : Tests → Frag → List InternalName
    uses_by own x = of_fragment (undeclared_part t own) x

-- each use once, at other places
module _ (xs ys : List InternalName) (alike : map bare_internal xs ≡ map bare_internal ys) where
  first_too : (x : InternalName) → IsFirstUse names_in_order xs x
      → (y : InternalName) × IsFirstUse names_in_order ys y × (bare_internal x ≡ bare_internal y)
  first_too x (others, e) =
      let kept : map bare_internal (filter (λ z. is_eq (names_in_order x z)) xs)
      ≡ map bare_internal (filter (λ z. is_eq (names_in_order x z)) ys) =
      filter_too bare_internal (λ z. is_eq (names_in_order x z)) (λ z. is_eq (names_in_order x z))
      (λ a b s. ap (λ (z : InternalName). is_eq (names_in_order x z)) s) xs ys alike in
      by_case (filter (λ z. is_eq (names_in_order x z)) ys) refl (sym (ap (map bare_internal) e) ∙ kept)
    where
      by_case : (l : List InternalName) → filter (λ z. is_eq (names_in_order x z)) ys ≡ l
          → map bare_internal (x ∷ others) ≡ map bare_internal l
          → (y : InternalName) × IsFirstUse names_in_order ys y × (bare_internal x ≡ bare_internal y)
      by_case [] is s = absurd (cc)
      by_case (y ∷ rest) is s =
          let same : bare_internal x ≡ bare_internal y = cc in
          let through : filter (λ z. is_eq (names_in_order y z)) ys ≡ y ∷ rest =
          ap (λ (w : InternalName). filter (λ z. is_eq (names_in_order w z)) ys) (sym same) ∙ is in
          (y, (rest, through), same)

  named_too : (types : List Name) → AllByRecursion (λ (n : Name). IsFirstUse names_in_order xs n.name) types
      → (others : List Name) × AllByRecursion (λ (n : Name). IsFirstUse names_in_order ys n.name) others
      × (map (λ (n : Name). bare_internal n.name) types ≡ map (λ (n : Name). bare_internal n.name) others)
  named_too [] h = ([], tt, refl)
  named_too (n ∷ ns) h =
      let (y, first, same) = first_too n.name h.0 in
      let (others, all, rest) = named_too ns h.1 in
      let name : Name = record {
        name = y;
        unreserved = ap (λ (x : InternalName). has_cedar (components_of x)) (sym same) ∙ n.unreserved;
      } in
      (name ∷ others, (first, all), λ i. same i ∷ rest i)

module _ (f g : Frag) (table : ExtensionTable) (same : DeclareTheSame f g) where
  abbrev t : Tests
  t = tests_of (defined f table)

  abbrev u : Tests
  u = tests_of (defined g table)

  uses_same : map bare_internal (undeclared_uses t f) ≡ map bare_internal (undeclared_uses u g)
  uses_same =
      sym (uses_alone t f) ∙ ((λ i. undeclared_uses (tests_same f g same table i) (same i)) ∙ uses_alone u g)

  uses_too : (types : List Name) → AreFirstUses names_in_order (undeclared_uses t f) (map (λ n. n.name) types)
      → 0 < length types → (others : List Name)
      × AreFirstUses names_in_order (undeclared_uses u g) (map (λ n. n.name) others) × (0 < length others)
  uses_too types are some =
      let xs = undeclared_uses t f in
      let ys = undeclared_uses u g in
      let first = each_named types (recursion_from_All (IsFirstUse names_in_order xs)
      (map (λ (n : Name). n.name) types) are.first) in
      let (others, all, seen) = named_too xs ys uses_same types first in
      let alike : map bare_internal (map (λ (n : Name). n.name) types)
      ≡ map bare_internal (map (λ (n : Name). n.name) others) =
      map-map bare_internal (λ (n : Name). n.name) types
      ∙ (seen ∙ sym (map-map bare_internal (λ (n : Name). n.name) others)) in (
        others,
        record {
          rising = seen_rise bare_internal names_in_order names_in_order (λ a b. refl)
              (map (λ (n : Name). n.name) types) (map (λ (n : Name). n.name) others) alike are.rising;
          first = All-from_recursion (IsFirstUse names_in_order ys) (map (λ (n : Name). n.name) others)
              (all_named others all);
          whole = (λ v c.
              let (w, cw, e) = matched bare_internal ys xs (sym uses_same) v c in
              let (x, cx, tied) = are.whole w cw in
              let (z, cz, d) = matched bare_internal (map (λ (n : Name). n.name) types)
              (map (λ (n : Name). n.name) others) alike x cx in
              (z, cz, (λ i. names_in_order_bare (sym d i) (e i)) ∙ tied));
        },
        longer types others seen some,
      )
    where
      names_in_order_bare : InternalName → InternalName → Ordering
      names_in_order_bare a b = names_in_order a b

      each_named : (types : List Name)
          → AllByRecursion (IsFirstUse names_in_order (undeclared_uses t f)) (map (λ (n : Name). n.name) types)
          → AllByRecursion (λ (n : Name). IsFirstUse names_in_order (undeclared_uses t f) n.name) types
      each_named [] h = tt
      each_named (n ∷ ns) h = (h.0, each_named ns h.1)

      all_named : (types : List Name)
          → AllByRecursion (λ (n : Name). IsFirstUse names_in_order (undeclared_uses u g) n.name) types
          → AllByRecursion (IsFirstUse names_in_order (undeclared_uses u g)) (map (λ (n : Name). n.name) types)
      all_named [] h = tt
      all_named (n ∷ ns) h = (h.0, all_named ns h.1)

      longer : (types others : List Name)
          → map (λ (n : Name). bare_internal n.name) types ≡ map (λ (n : Name). bare_internal n.name) others
          → 0 < length types → 0 < length others
      longer [] others e h = absurd (omega (arith, h))
      longer (n ∷ ns) [] e h = absurd (cc)
      longer (n ∷ ns) (m ∷ ms) e h = omega arith

  pub uses_follow : Follows (HasUndeclaredEntityTypes t f) (HasUndeclaredEntityTypes u g)
  uses_follow e (given, is, are, some) =
      let (others, all, more) = uses_too given.types are some in
      (error.UndeclaredEntityTypes (record { types = others }), (_, refl, all, more))
