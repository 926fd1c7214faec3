-- What a fragment defines that says what a generated text declares.
use Rattle.std.proofs.Common.{◌≡◌, ◌⊎◌, inl, inr, ℕ, ◌<◌, ◌≤◌, Bool, true, false, ◌||◌, ◌==◌, List, [], ◌∷◌, ◌++◌, map}
use Rattle.std.proofs.Common.{refl, sym, ap, ◌∙◌, subst, true≢false, if◌then◌else◌}
use Rattle.std.specs.Prelude.{codes}
use Rattle.std.proofs.lemmas.Bool.{or_left, or_right, false_from_ne_true}
use Rattle.cedar_identifiers.specs.Names.{components_of}
use Rattle.cedar_identifiers.specs.declared.raw_name.RawName.{RawName}
use Rattle.cedar_names.specs.Definitions.{among}
use Rattle.cedar_names.specs.declared.extension_table.ExtensionTable.{ExtensionTable}
use Rattle.schema_json.specs.declared.fragment.Fragment.{Fragment}
use Rattle.schema_json.specs.AsWritten.{as_written}
use Rattle.laws_translate.specs.FragmentsSay.{FragmentSays}
use Rattle.schema_resolve_definitions.specs.Declarations.{declared, declared_name, commons_in, entities_in}
use Rattle.schema_resolve_definitions.specs.Defined.{defined, builtins, is_hidden, names_of_builtin, names_of_builtins}
use Rattle.schema_resolve_definitions.specs.Tests.{Tests, tests_of}
use Rattle.schema_build_hierarchy.specs.Declarations.{entity_name, entities_of, declared_entities}
use Rattle.laws_build.proofs.Said.Members.{IsIn, left_to, right_to, in_map, map_to, flat_to, flat_nothing}
use Rattle.laws_build.proofs.Said.Defining.{among_from, among_to, flat_mapped, names_at}
use Rattle.laws_build.specs.Generated.Declares.{entity_path, generated_items}
use Rattle.laws_build.proofs.Generated.Declared.{Block, no_commons, entity_at, entity_there}

-- the number is small and the name is that of its entity type
abbrev pub IsDeclaredName : ℕ → List (List ℕ) → Type 0
IsDeclaredName n p = (i : ℕ) × (i < n) × (p ≡ entity_path i)

abbrev pub long : List (List ℕ)
long = codes "Long" ∷ []

-- a name that stands in a type
abbrev pub IsTypeName : ℕ → List (List ℕ) → Type 0
IsTypeName n p = (p ≡ long) ⊎ IsDeclaredName n p

-- the name begins with an `E`
abbrev begins : List (List ℕ) → Bool
begins [] = false
begins ([] ∷ ps) = false
begins ((c ∷ cs) ∷ ps) = c == 69

no_long : (i : ℕ) → long ≡ entity_path i → ⊥
no_long i e = true≢false (sym (ap begins e))

module _ (n : ℕ) (some : 1 ≤ n) (f : Fragment RawName as_written) (says : FragmentSays f (generated_items n)) where
  abbrev pub own : Tests
  own = tests_of (declared f)

  entities_are : (declared f).entities ≡ map entity_name (declared_entities f)
  entities_are = flat_mapped (λ (e : Block). entities_in e.0 e.1) entity_name entities_of
      (λ e. names_at e.0 e.1.entity_types) f.0

  pub commons_are : (declared f).commons ≡ []
  commons_are = flat_nothing (λ (e : Block). commons_in e.0 e.1) f.0
      (λ e h. ap (map (λ x. components_of (declared_name e.0 x.0.id.id))) (no_commons n some f says e h))

  named_there : (i : ℕ) → i < n → IsIn (entity_path i) (declared f).entities
  named_there i h =
      let d = entity_there n some f says i h in
      subst (IsIn (entity_path i)) (sym entities_are)
      (subst (λ x. IsIn x (map entity_name (declared_entities f))) d.2
      (map_to entity_name (declared_entities f) d.0 d.1))

  pub own_there : (p : List (List ℕ)) → IsDeclaredName n p → own.is_entity p ≡ true
  own_there p (i, h, e) = ap own.is_entity e ∙ among_from (declared f).entities (entity_path i) (named_there i h)

  pub own_named : (p : List (List ℕ)) → own.is_entity p ≡ true → IsDeclaredName n p
  own_named p h =
      let o = in_map entity_name (declared_entities f) p
      (subst (IsIn p) entities_are (among_to (declared f).entities p h)) in
      let of = entity_at n some f says o.0 o.1 in
      (of.number, of.below, o.2 ∙ of.name)

  long_shown : is_hidden own (codes "Long") ≡ false
  long_shown =
      let none : own.is_entity long ≡ false = false_from_ne_true (own.is_entity long) (λ h.
      let of = own_named long h in no_long of.0 of.2) in
      λ i. among (commons_are i) long || none i

  module _ (table : ExtensionTable) where
    abbrev pub t : Tests
    t = tests_of (defined f table)

    pub entity_defined : (p : List (List ℕ)) → IsDeclaredName n p → t.is_entity p ≡ true
    entity_defined p (i, h, e) =
        ap t.is_entity e
        ∙ among_from ((declared f).entities ++ map (λ k. k.0) (declared f).actions) (entity_path i)
        (left_to (declared f).entities (map (λ k. k.0) (declared f).actions) (entity_path i) (named_there i h))

    pub long_defined : t.is_common long ≡ true
    long_defined =
        let names = names_of_builtins own (builtins table) in
        let here : IsIn long (names_of_builtin own (codes "Long")) =
        inr (subst (λ b. IsIn long (if b then [] else long ∷ [])) (sym long_shown) (inl refl)) in
        among_from ((declared f).commons ++ names) long
        (right_to (declared f).commons names long
        (flat_to (names_of_builtin own) (builtins table) (codes "Long") long (inr (inl refl)) here))

    pub type_defined : (p : List (List ℕ)) → IsTypeName n p → (t.is_common p || t.is_entity p) ≡ true
    type_defined p (inl e) = or_left (t.is_common p) (t.is_entity p) (ap t.is_common e ∙ long_defined)
    type_defined p (inr h) = or_right (t.is_common p) (t.is_entity p) (entity_defined p h)
