-- Each principal and each resource means something.
use Rattle.std.proofs.Common.{◌≡◌, ℕ, List, [], ◌∷◌, ◌++◌, Option, Some, None, refl, sym, ap, ◌∙◌}
use Rattle.std.specs.List.{flat_map}
use Rattle.std.specs.Option.{option_map}
use Rattle.cedar_identifiers.specs.Names.{components_of}
use Rattle.cedar_identifiers.specs.declared.conditional_name.ConditionalName.{ConditionalName}
use Rattle.cedar_identifiers.specs.declared.internal_name.InternalName.{InternalName}
use Rattle.cedar_identifiers.specs.declared.name.Name.{Name}
use Rattle.cedar_identifiers.specs.declared.name_text.NameText as named
use Rattle.cedar_identifiers.specs.declared.raw_name.RawName.{RawName}
use Rattle.cedar_identifiers.specs.declared.reference_type.ReferenceType.TheVariants.{Entity}
use Rattle.cedar_names.specs.declared.extension_table.ExtensionTable.{ExtensionTable}
use Rattle.schema_json.specs.declared.fragment.Fragment.{Fragment}
use Rattle.schema_json_walk.specs.Parts.{Part}
use Rattle.schema_json_walk.specs.Walk.{of_fragment, fragment_parts}
use Rattle.schema_json_walk.proofs.ByParts.{fragment_by_parts}
use Rattle.schema_resolve_definitions.specs.Declarations.{name_of}
use Rattle.schema_resolve_definitions.specs.Defined.{defined}
use Rattle.schema_resolve_definitions.specs.Tests.{Tests, tests_of}
use Rattle.schema_resolve_targets.specs.Qualified.{in_namespace}
use Rattle.schema_resolve_targets.specs.ReferenceParts.{by_reference}
use Rattle.schema_resolve_targets.specs.Untargeted.{untargeted_in}
use Rattle.schema_resolve_targets.specs.Targets.{target, unless}
use Rattle.schema_resolve_targets.specs.Undefined.{Undefined, type_reference, types_among}
use Rattle.schema_resolve_targets.proofs.Gathering.{types_both}
use Rattle.schema_build_errors.specs.declared.schema_error.SchemaError.TheVariants as error
use Rattle.schema_build_checks.specs.Rows.{Never}
use Rattle.schema_build_scope.specs.UndefinedRows.{undefined_alone, HasUndefinedTypes}
use Rattle.schema_build_hierarchy.specs.Parents.{target_in}

types_flat : {A : Type 0} (g : A → List Undefined) (xs : List A)
    → types_among (flat_map g xs) ≡ flat_map (λ x. types_among (g x)) xs
types_flat g [] = refl
types_flat g (x ∷ xs) = types_both (g x) (flat_map g xs) ∙ ap (λ l. types_among (g x) ++ l) (types_flat g xs)

-- the references to types of a part that mean nothing
abbrev pub untyped : Tests → Option Name → Part RawName → List ConditionalName
untyped t ns part = types_among (by_reference (untargeted_in t (name_of ns)) part)

-- where there are none, the name means something
pub target_there : (t : Tests) (ns : Option Name) (name : RawName)
    → types_among (unless (target t (in_namespace (name_of ns) Entity name))
    (type_reference (in_namespace (name_of ns) Entity name))) ≡ []
    → (b : List (List ℕ)) × (target_in t ns Entity name ≡ Some b)
target_there t ns name none = by_case (target t c) refl none
  where
    c : ConditionalName
    c = in_namespace (name_of ns) Entity name

    by_case : (o : Option InternalName) → target t c ≡ o → types_among (unless o (type_reference c)) ≡ []
        → (b : List (List ℕ)) × (target_in t ns Entity name ≡ Some b)
    by_case None e none = absurd (cc)
    by_case (Some n) e none = (components_of n, ap (option_map components_of) e)

module _ {G : named.Ghosts RawName} (f : Fragment RawName G) (table : ExtensionTable) where
  none_among : Never (HasUndefinedTypes f table) → types_among (undefined_alone f table) ≡ []
  none_among never = by_case (types_among (undefined_alone f table)) refl
    where
      by_case : (cs : List ConditionalName) → types_among (undefined_alone f table) ≡ cs
          → types_among (undefined_alone f table) ≡ []
      by_case [] e = e
      by_case (c ∷ cs) e = absurd (never
          (error.TypeNotDefined (record { undefined_types = types_among (undefined_alone f table) }))
          (refl, λ none. (let no : c ∷ cs ≡ [] = sym e ∙ none in cc)))

  pub none_untyped : Never (HasUndefinedTypes f table) → of_fragment (untyped (tests_of (defined f table))) f ≡ []
  none_untyped never =
      let t = tests_of (defined f table) in
      let visit = λ (ns : Option Name). by_reference (untargeted_in t (name_of ns)) in
      fragment_by_parts (untyped t) f
      ∙ sym (types_flat (λ e. visit e.0 e.1) (fragment_parts f))
      ∙ ap types_among (sym (fragment_by_parts visit f)) ∙ none_among never
