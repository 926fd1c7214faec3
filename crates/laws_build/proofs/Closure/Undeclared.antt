-- What parents, principals and resources mean is declared.
use Rattle.std.proofs.Common.{◌≡◌, ◌<◌, ℕ, Bool, true, false, not, cond, List, [], ◌∷◌, length, map, Contains, Option}
use Rattle.std.proofs.Common.{Some, None, refl, sym, ap, ◌∙◌, subst, inl, inr, arith}
use Rattle.std.specs.Prelude.{filter}
use Rattle.std.specs.List.{AllByRecursion}
use Rattle.std.specs.Option.{option_to_list}
use Rattle.std.proofs.lemmas.List.{length-map}
use Rattle.cedar_data.proofs.Lists.{contains_flat, found_passes, contains_first}
use Rattle.cedar_data.proofs.Options.{seen_of}
use Rattle.cedar_identifiers.specs.Names.{components_of, has_cedar}
use Rattle.cedar_identifiers.specs.declared.internal_name.InternalName.{InternalName}
use Rattle.cedar_identifiers.specs.declared.name.Name.{Name}
use Rattle.cedar_identifiers.specs.declared.name_text.NameText as named
use Rattle.cedar_identifiers.specs.declared.raw_name.RawName.{RawName}
use Rattle.cedar_identifiers.specs.declared.reference_type.ReferenceType.TheVariants.{Entity}
use Rattle.cedar_names.specs.Meaning.{SchemaMeaning}
use Rattle.cedar_names.specs.Orders.{names_in_order, names_total}
use Rattle.cedar_names.specs.declared.extension_table.ExtensionTable.{ExtensionTable}
use Rattle.schema_json.specs.declared.fragment.Fragment.{Fragment}
use Rattle.schema_json_walk.specs.Parts.{Part, type_reference, context_reference, parent, principal, resource}
use Rattle.schema_json_walk.specs.Parts.{action_parent, extension_type, open_record, action_attributes}
use Rattle.schema_json_walk.specs.Parts.{external_not_bare}
use Rattle.schema_json_walk.specs.Walk.{fragment_parts}
use Rattle.schema_json_walk.proofs.ByParts.{fragment_by_parts}
use Rattle.schema_resolve_definitions.specs.Declarations.{name_of, declared}
use Rattle.schema_resolve_definitions.specs.Defined.{defined}
use Rattle.schema_resolve_definitions.specs.Tests.{Tests, tests_of}
use Rattle.schema_resolve_targets.specs.Qualified.{in_namespace}
use Rattle.schema_resolve_targets.specs.Targets.{target}
use Rattle.schema_build_errors.specs.declared.schema_error.SchemaError.TheVariants as error
use Rattle.schema_build_checks.specs.Rows.{Never}
use Rattle.schema_build_hierarchy.specs.FirstUses.{AreFirstUses}
use Rattle.schema_build_hierarchy.specs.Parents.{target_in}
use Rattle.schema_build_hierarchy.specs.Rows.{undeclared_target, undeclared_part, undeclared_uses}
use Rattle.schema_build_hierarchy.specs.Rows.{HasUndeclaredEntityTypes}
use Rattle.schema_build_hierarchy.proofs.Once.{contains_cases}
use Rattle.schema_build_hierarchy.proofs.ParentRanks.{filter_kept}
use Rattle.schema_build_hierarchy.proofs.ParentsDeclared.{among_held}
use Rattle.schema_build.specs.Meaning.{FragmentMeaning}
use Rattle.laws_build.specs.Closure.Known.{meant_entities}
use Rattle.laws_build.proofs.Closure.Declared.{entity_held}
use Rattle.laws_build.proofs.Closure.Firsts.{firsts, are_firsts, firsts_have}
use Rattle.laws_build.proofs.Closure.Known.{entity_known}
use Rattle.laws_build.proofs.Closure.Lists.{has_none, all_have}
use Rattle.laws_build.proofs.Closure.Open.{known_free}

abbrev Free : InternalName → Type 0
Free n = has_cedar (components_of n) ≡ false

-- names without `__cedar`, as names that may be declared
all_named : (ns : List InternalName) → AllByRecursion Free ns → (types : List Name) × (map (λ n. n.name) types ≡ ns)
all_named [] h = ([], refl)
all_named (n ∷ ns) h =
    let (types, same) = all_named ns h.1 in
    let first : Name = record { name = n; unreserved = h.0 } in
    (first ∷ types, ap (λ l. n ∷ l) same)

pub held_one : (o : Option InternalName) (n : InternalName) → Contains (option_to_list o) n → o ≡ Some n
held_one None n c = has_none n c
held_one (Some x) n c = elim (contains_cases x [] n c) [
  | inl same ↦ ap Some same
  | inr none ↦ has_none n none
]

module _ {G : named.Ghosts RawName} (f : Fragment RawName G) (table : ExtensionTable) (m : SchemaMeaning)
    (mean : FragmentMeaning f table m) where
  abbrev all_tests : Tests
  all_tests = tests_of (defined f table)

  abbrev own_tests : Tests
  own_tests = tests_of (declared f)

  target_free : (ns : Option Name) (name : RawName) (n : InternalName)
      → Contains (undeclared_target all_tests own_tests ns name) n → Free n
  target_free ns name n c =
      let o = target all_tests (in_namespace (name_of ns) Entity name) in
      let kept = filter_kept (λ p. not (own_tests.is_entity (components_of p))) (option_to_list o) n c in
      let there = found_passes (λ p. all_tests.is_entity (components_of p)) _ n (held_one o n kept) in
      known_free f table m mean (components_of n) (entity_known f table m mean (components_of n) there)

  part_free : (ns : Option Name) (part : Part RawName) (n : InternalName)
      → Contains (undeclared_part all_tests own_tests ns part) n → Free n
  part_free ns (parent name) n c = target_free ns name n c
  part_free ns (principal name) n c = target_free ns name n c
  part_free ns (resource name) n c = target_free ns name n c
  part_free ns (type_reference kind name) n c = has_none n c
  part_free ns (context_reference name) n c = has_none n c
  part_free ns (action_parent id ty) n c = has_none n c
  part_free ns (extension_type name) n c = has_none n c
  part_free ns open_record n c = has_none n c
  part_free ns (action_attributes names) n c = has_none n c
  part_free ns external_not_bare n c = has_none n c

  uses_free : AllByRecursion Free (undeclared_uses all_tests f)
  uses_free = all_have Free (undeclared_uses all_tests f) (λ n c.
      let visit = undeclared_part all_tests own_tests in
      let (p, cp, d) = contains_flat (λ e. visit e.0 e.1) (fragment_parts f) n
      (subst (λ l. Contains l n) (fragment_by_parts visit f) c) in
      part_free p.0 p.1 n d)

  -- where the row does not hold, nothing undeclared is used
  pub none_used : Never (HasUndeclaredEntityTypes all_tests f) → undeclared_uses all_tests f ≡ []
  none_used never = by_case (undeclared_uses all_tests f) refl
    where
      by_case : (us : List InternalName) → undeclared_uses all_tests f ≡ us → undeclared_uses all_tests f ≡ []
      by_case [] e = e
      by_case (u ∷ us) e = absurd (
          let uses = undeclared_uses all_tests f in
          let first = firsts names_total uses in
          let are = are_firsts names_total uses in
          let (types, same) = all_named first (firsts_have names_total Free uses uses_free) in
          let there : Contains uses u = subst (λ l. Contains l u) (sym e) (contains_first u us) in
          let (z, cz, tied) = are.whole u there in
          let many : 0 < length types = omega (arith, cz.1, ap length same, length-map types (λ n. n.name)) in
          never (error.UndeclaredEntityTypes (record { types = types }))
          (_, refl, subst (AreFirstUses names_in_order uses) (sym same) are, many))

  -- what a name means is declared, where it is no undeclared use
  own_target : (n : InternalName) (b : Bool) → own_tests.is_entity (components_of n) ≡ b
      → filter (λ p. not (own_tests.is_entity (components_of p))) (n ∷ []) ≡ [] → b ≡ true
  own_target n true e none = refl
  own_target n false e none = absurd (
      let shown : filter (λ p. not (own_tests.is_entity (components_of p))) (n ∷ []) ≡ n ∷ [] =
      ap (λ z. cond (not z) (n ∷ []) []) e in
      let no : n ∷ [] ≡ [] = sym shown ∙ none in
      cc)

  pub target_named : (ns : Option Name) (name : RawName) (b : List (List ℕ))
      → undeclared_target all_tests own_tests ns name ≡ [] → target_in all_tests ns Entity name ≡ Some b
      → Contains (meant_entities m) b
  target_named ns name b none e =
      let o = target all_tests (in_namespace (name_of ns) Entity name) in
      let (n, is, same) = seen_of components_of o b e in
      let alone : filter (λ p. not (own_tests.is_entity (components_of p))) (n ∷ []) ≡ [] =
      ap (λ z. filter (λ p. not (own_tests.is_entity (components_of p))) (option_to_list z)) (sym is) ∙ none in
      let own = own_target n (own_tests.is_entity (components_of n)) refl alone in
      subst (Contains (meant_entities m)) same
      (entity_held f table m mean (components_of n) (among_held (declared f).entities (components_of n) own))
