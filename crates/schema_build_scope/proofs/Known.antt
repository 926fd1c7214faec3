-- Where the rows on extension types, features and references to types do not hold, each part of each type is meant.
use Rattle.std.proofs.Common.{◌≡◌, zero, suc, Bool, true, false, ◌||◌, List, [], ◌∷◌, All, Contains}
use Rattle.std.proofs.Common.{Option, Some, None, refl, sym, ap, ◌∙◌, subst, arith}
use Rattle.std.specs.Prelude.{IsSome, if◌then◌else◌}
use Rattle.std.specs.List.{flat_map, list_any}
use Rattle.std.specs.Option.{option_map, is_some}
use Rattle.std.specs.Str.{bytes_eq}
use Rattle.cedar_data.proofs.Lists.{all_of, contains_flat, list_any-map}
use Rattle.cedar_identifiers.specs.declared.internal_name.InternalName.{InternalName}
use Rattle.cedar_identifiers.specs.declared.name.Name.{Name}
use Rattle.cedar_identifiers.specs.declared.name_text.NameText as named
use Rattle.cedar_identifiers.specs.declared.raw_name.RawName.{RawName}
use Rattle.cedar_identifiers.specs.declared.conditional_name.ConditionalName.{ConditionalName}
use Rattle.cedar_identifiers.specs.declared.reference_type.ReferenceType.{ReferenceType}
use Rattle.cedar_identifiers.specs.declared.reference_type.ReferenceType.TheVariants.{Entity}
use Rattle.cedar_identifiers.specs.declared.unreserved_id.UnreservedId.{UnreservedId}
use Rattle.cedar_names.specs.Tables.{table_has, table_names}
use Rattle.cedar_names.specs.declared.extension_table.ExtensionTable.{ExtensionTable}
use Rattle.schema_json.specs.declared.entity_type.EntityType.{EntityType}
use Rattle.schema_json.specs.declared.entity_type.EntityTypeKind.TheVariants.{Standard}
use Rattle.schema_json.specs.declared.entity_type.StandardEntityType.{StandardEntityType}
use Rattle.schema_json.specs.declared.fragment.Fragment.{Fragment}
use Rattle.schema_json.specs.declared.fragment.NamespaceDefinition.{NamespaceDefinition}
use Rattle.schema_json.specs.declared.types.Type.{«Type»}
use Rattle.schema_json_walk.specs.Parts.{Part, type_reference, context_reference, parent, principal, resource}
use Rattle.schema_json_walk.specs.Parts.{action_parent, extension_type, open_record, action_attributes}
use Rattle.schema_json_walk.specs.Parts.{external_not_bare}
use Rattle.schema_json_walk.specs.Walk.{of_type, of_namespace, of_fragment, parts}
use Rattle.schema_json_walk.proofs.ByParts.{type_by_parts}
use Rattle.schema_resolve_definitions.specs.Declarations.{name_of, alone}
use Rattle.schema_resolve_definitions.specs.Defined.{defined}
use Rattle.schema_resolve_definitions.specs.Tests.{Tests, tests_of}
use Rattle.schema_resolve_targets.specs.Meanings.{means}
use Rattle.schema_resolve_targets.specs.Qualified.{in_namespace}
use Rattle.schema_resolve_targets.specs.ReferenceParts.{by_reference}
use Rattle.schema_resolve_targets.specs.Untargeted.{untargeted_in}
use Rattle.schema_resolve_targets.specs.Targets.{target, unless}
use Rattle.schema_resolve_targets.specs.Undefined.{Undefined, types_among}
use Rattle.schema_resolve_targets.specs.Undefined as among
use Rattle.schema_resolve_targets.proofs.Gathering.{types_both}
use Rattle.schema_build_errors.specs.declared.schema_error.SchemaError.{SchemaError}
use Rattle.schema_build_errors.specs.declared.schema_error.SchemaError.TheVariants as error
use Rattle.schema_build_errors.specs.declared.use_errors.UnsupportedFeature.{UnsupportedFeature}
use Rattle.schema_build_expand.specs.Rows.{IsMeant}
use Rattle.schema_build_checks.specs.Refusing.{IsAboutFirst}
use Rattle.schema_build_checks.specs.Rows.{Never}
use Rattle.schema_build_checks.specs.WalkFaults.{unknown_extension, unsupported, NamesExtension, NamesFeature}
use Rattle.schema_build_scope.specs.FragmentScope.{fragment_scope, meant_in, by_components}
use Rattle.schema_build_scope.specs.Parts.{IsTypeMeant, IsAllKnown, AreTypesMeant}
use Rattle.schema_build_scope.specs.UndefinedRows.{NamesTypes, undefined_alone}
use Rattle.schema_build_scope.proofs.Quiet.{IsOfParts, empty_parted, quiet_in, quiet_namespace, quiet_common}
use Rattle.schema_build_scope.proofs.Quiet.{quiet_shape, quiet_tags, quiet_context, quiet_parent}
use Rattle.schema_build_scope.proofs.TypeParts.{only_within, parts_within}

all_flat : {A B : Type 0} (P : B → Type 0) (f : A → List B) (xs : List A)
    → ((x : A) → Contains xs x → (y : B) → Contains (f x) y → P y) → All P (flat_map f xs)
all_flat P f xs h =
    all_of P (flat_map f xs) (λ y c. let (x, there, here) = contains_flat f xs y c in h x there y here)

-- a row on the first of a list does not hold where there is none
none_first : {U : Type 0} (about : U → SchemaError → Type 0) → ((u : U) → (e : SchemaError) × about u e) → (us : List U)
    → Never (IsAboutFirst about us) → us ≡ []
none_first about given [] never = refl
none_first about given (u ∷ us) never = let e = given u in absurd (never e.0 e.1)

extension_error : (id : UnreservedId) → (e : SchemaError) × NamesExtension id e
extension_error id =
    let name : Name = record { name = alone id.id; unreserved = ap (λ b. b || false) id.unreserved } in
    (error.UnknownExtensionType (record { actual = name }), refl)

feature_error : (u : UnsupportedFeature) → (e : SchemaError) × NamesFeature u e
feature_error u = (error.UnsupportedFeature (record { 0 = u }), (record { 0 = u }, refl, refl))

pub no_types : (us : List Undefined) → Never (NamesTypes us) → types_among us ≡ []
no_types us never = go (types_among us) refl
  where
    go : (cs : List ConditionalName) → types_among us ≡ cs → types_among us ≡ []
    go [] e = e
    go (c ∷ cs) e =
        absurd (never (error.TypeNotDefined (record { undefined_types = types_among us }))
        (refl, λ none. (let h : c ∷ cs ≡ [] = sym e ∙ none in cc)))

-- no reference to a type is among them
abbrev pub NoTypes : List Undefined → Type 0
NoTypes us = types_among us ≡ []

pub types_parted : IsOfParts NoTypes
types_parted = record {
  left = λ a b e. empty_parted.left (types_among a) (types_among b) (sym (types_both a b) ∙ e);
  right = λ a b e. empty_parted.right (types_among a) (types_among b) (sym (types_both a b) ∙ e);
}

-- a reference that is not among them means something
pub targeted : (o : Option InternalName) (c : ConditionalName) → NoTypes (unless o (among.type_reference c))
    → is_some o ≡ true
targeted None c e = cc
targeted (Some n) c e = refl

pub kept_some : {A B : Type 0} (f : A → B) (o : Option A) → is_some o ≡ true → is_some (option_map f o) ≡ true
kept_some f None e = e
kept_some f (Some a) e = refl

reference_meant : (t : Tests) (ns : Option InternalName) (kind : ReferenceType) (name : RawName)
    → NoTypes (by_reference (untargeted_in t ns) (type_reference kind name)) → IsSome (meant_in t ns kind name)
reference_meant t ns kind name q =
    let c = in_namespace ns kind name in
    kept_some by_components (means t ns kind name) (kept_some _ (target t c) (targeted (target t c) c q))

-- an extension type that is not unknown is in the table
known_extension : (table : ExtensionTable) (id : UnreservedId) → unknown_extension table (extension_type id) ≡ []
    → list_any (bytes_eq id.id.text) (table_names table) ≡ true
known_extension table id e =
    list_any-map (bytes_eq id.id.text) (λ (n : UnreservedId). n.id.text) table.names ∙ go (table_has table id.id.text) e
  where
    go : (b : Bool) → (if b then [] else id ∷ []) ≡ [] → b ≡ true
    go true e = refl
    go false e = cc

module _ {G : named.Ghosts RawName} (f : Fragment RawName G) (table : ExtensionTable) where
  -- a part of a type of which no row is told is meant
  part_meant : (ns : Option Name) (p : Part RawName) → unknown_extension table p ≡ [] → unsupported p ≡ []
      → NoTypes (by_reference (untargeted_in (tests_of (defined f table)) (name_of ns)) p)
      → (q : Part RawName) → Contains (only_within RawName p) q → IsMeant (fragment_scope f table) (name_of ns) q
  part_meant ns p known fits q_types q c = go p known fits q_types c
    where
      is_only : (x : Part RawName) → Contains (x ∷ []) q → x ≡ q
      is_only x (zero, lt, e) = e
      is_only x (suc i, lt, e) = absurd (omega (arith, lt))

      nowhere : Contains {X = Part RawName} [] q → ⊥
      nowhere (i, lt, e) = omega (arith, lt)

      go : (x : Part RawName) → unknown_extension table x ≡ [] → unsupported x ≡ []
          → NoTypes (by_reference (untargeted_in (tests_of (defined f table)) (name_of ns)) x)
          → Contains (only_within RawName x) q → IsMeant (fragment_scope f table) (name_of ns) q
      go (type_reference kind name) known fits types c =
          subst (IsMeant (fragment_scope f table) (name_of ns)) (is_only (type_reference kind name) c)
          (reference_meant (tests_of (defined f table)) (name_of ns) kind name types)
      go (extension_type id) known fits types c =
          subst (IsMeant (fragment_scope f table) (name_of ns)) (is_only (extension_type id) c)
          (known_extension table id known)
      go open_record known fits types c = cc
      go (context_reference name) known fits types c = absurd (nowhere c)
      go (parent name) known fits types c = absurd (nowhere c)
      go (principal name) known fits types c = absurd (nowhere c)
      go (resource name) known fits types c = absurd (nowhere c)
      go (action_parent id ty) known fits types c = absurd (nowhere c)
      go (action_attributes names) known fits types c = absurd (nowhere c)
      go external_not_bare known fits types c = absurd (nowhere c)

  module _ (known : IsAllKnown f table) where
    extensions : of_fragment (λ ns part. unknown_extension table part) f ≡ []
    extensions = none_first NamesExtension extension_error (of_fragment (λ ns part. unknown_extension table part) f)
        known.extensions

    features : of_fragment (λ ns part. unsupported part) f ≡ []
    features = none_first NamesFeature feature_error (of_fragment (λ ns part. unsupported part) f) known.features

    types : NoTypes (undefined_alone f table)
    types = no_types (undefined_alone f table) known.types

    module _ (ns : Option Name) where
      abbrev find_types : Part RawName → List Undefined
      find_types = by_reference (untargeted_in (tests_of (defined f table)) (name_of ns))

      type_meant : (ty : «Type» RawName) → of_type (unknown_extension table) ty ≡ [] → of_type unsupported ty ≡ []
          → NoTypes (of_type find_types ty) → IsTypeMeant f table ns ty
      type_meant ty no_extension no_feature no_type =
          subst (All (IsMeant (fragment_scope f table) (name_of ns))) (sym (parts_within RawName ty))
          (all_flat (IsMeant (fragment_scope f table) (name_of ns)) (only_within RawName) (parts ty)
          (λ p c q d. part_meant ns p
          (quiet_in (λ us. us ≡ []) empty_parted (unknown_extension table) (parts ty) p c
          (sym (type_by_parts (unknown_extension table) ty) ∙ no_extension))
          (quiet_in (λ us. us ≡ []) empty_parted unsupported (parts ty) p c
          (sym (type_by_parts unsupported ty) ∙ no_feature))
          (quiet_in NoTypes types_parted find_types (parts ty) p c
          (subst NoTypes (type_by_parts find_types ty) no_type))
          q d))

      module _ (n : NamespaceDefinition RawName G) (among : Contains f.0 (ns, n)) where
        extensions_in : of_namespace (unknown_extension table) n ≡ []
        extensions_in = quiet_namespace (λ us. us ≡ []) empty_parted (λ ns part. unknown_extension table part) f ns n
            among extensions

        features_in : of_namespace unsupported n ≡ []
        features_in = quiet_namespace (λ us. us ≡ []) empty_parted (λ ns part. unsupported part) f ns n among features

        types_in : NoTypes (of_namespace find_types n)
        types_in = quiet_namespace NoTypes types_parted
            (λ ns. by_reference (untargeted_in (tests_of (defined f table)) (name_of ns))) f ns n among types

    -- each type of the fragment
    pub types_meant : AreTypesMeant f table
    types_meant = record {
      commons = λ ns n e in_f in_n. type_meant ns e.1.ty
          (quiet_common (λ us. us ≡ []) empty_parted (unknown_extension table) (λ name. refl) n
          (extensions_in ns n in_f) e in_n)
          (quiet_common (λ us. us ≡ []) empty_parted unsupported (λ name. refl) n (features_in ns n in_f) e in_n)
          (quiet_common NoTypes types_parted (find_types ns) (λ name. refl) n (types_in ns n in_f) e in_n);
      shapes = λ ns n e s in_f in_n is. type_meant ns s.shape.0
          (quiet_shape (λ us. us ≡ []) empty_parted (unknown_extension table) (λ name. refl) n
          (extensions_in ns n in_f) e s in_n is)
          (quiet_shape (λ us. us ≡ []) empty_parted unsupported (λ name. refl) n (features_in ns n in_f) e s in_n is)
          (quiet_shape NoTypes types_parted (find_types ns) (λ name. refl) n (types_in ns n in_f) e s in_n is);
      tags = λ ns n e s ty in_f in_n is there. type_meant ns ty
          (quiet_tags (λ us. us ≡ []) empty_parted (unknown_extension table) (λ name. refl) n
          (extensions_in ns n in_f) e s ty in_n is there)
          (quiet_tags (λ us. us ≡ []) empty_parted unsupported (λ name. refl) n (features_in ns n in_f) e s ty
          in_n is there)
          (quiet_tags NoTypes types_parted (find_types ns) (λ name. refl) n (types_in ns n in_f) e s ty in_n is there);
      contexts = λ ns n e a in_f in_n is. type_meant ns a.context.0
          (quiet_context (λ us. us ≡ []) empty_parted (unknown_extension table) (λ name. refl) n
          (extensions_in ns n in_f) e a in_n is)
          (quiet_context (λ us. us ≡ []) empty_parted unsupported (λ name. refl) n (features_in ns n in_f) e a in_n is)
          (quiet_context NoTypes types_parted (find_types ns) (λ name. refl) n (types_in ns n in_f) e a in_n is);
    }

    -- each parent of an entity type, as written, means an entity type
    pub parents_meant : (ns : Option Name) (n : NamespaceDefinition RawName G) (e : UnreservedId × EntityType RawName)
        (s : StandardEntityType RawName) → Contains f.0 (ns, n) → Contains n.entity_types e → e.1.kind ≡ Standard s
        → All (λ p. IsSome (target (tests_of (defined f table)) (in_namespace (name_of ns) Entity p))) s.member_of_types
    parents_meant ns n e s in_f in_n is =
        all_of (λ p. IsSome (target (tests_of (defined f table)) (in_namespace (name_of ns) Entity p)))
        s.member_of_types
        (λ p there.
        let c = in_namespace (name_of ns) Entity p in
        targeted (target (tests_of (defined f table)) c) c
        (quiet_parent NoTypes types_parted (find_types ns) (λ name. refl) n (types_in ns n in_f) e s p in_n is
        there))
