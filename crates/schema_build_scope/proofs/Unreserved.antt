-- The entity types that are defined have no component `__cedar`.
use Rattle.std.proofs.Common.{◌≡◌, ℕ, Bool, true, false, ◌||◌, List, [], ◌∷◌, map, Option, Some, None, refl, ap}
use Rattle.std.proofs.Common.{◌∙◌}
use Rattle.std.specs.List.{flat_map, AllByRecursion}
use Rattle.std.proofs.lemmas.List.{map-append}
use Rattle.std.proofs.lemmas.List.Folds.{list_any-append}
use Rattle.std.proofs.lemmas.Bool.{or_from}
use Rattle.cedar_data.proofs.Every.{All-append, All-map}
use Rattle.cedar_identifiers.specs.Words.{is_cedar}
use Rattle.cedar_identifiers.specs.Candidates.{behind}
use Rattle.cedar_identifiers.specs.Names.{components_of, has_cedar}
use Rattle.cedar_identifiers.specs.declared.id.Id.{Id}
use Rattle.cedar_identifiers.specs.declared.internal_name.InternalName.{InternalName}
use Rattle.cedar_identifiers.specs.declared.name.Name.{Name}
use Rattle.cedar_identifiers.specs.declared.name_text.NameText as named
use Rattle.cedar_identifiers.specs.declared.raw_name.RawName.{RawName}
use Rattle.cedar_identifiers.specs.declared.unreserved_id.UnreservedId.{UnreservedId}
use Rattle.cedar_names.specs.Definitions.{among, same_name}
use Rattle.cedar_names.specs.declared.extension_table.ExtensionTable.{ExtensionTable}
use Rattle.cedar_names.proofs.Defined.{equal_names}
use Rattle.schema_json.specs.Actions.{action_name}
use Rattle.schema_json.specs.declared.action_type.ActionType.{ActionType}
use Rattle.schema_json.specs.declared.entity_type.EntityType.{EntityType}
use Rattle.schema_json.specs.declared.fragment.Fragment.{Fragment}
use Rattle.schema_resolve_definitions.specs.Declarations.{alone, declared_name, action_type, entities_in, actions_in}
use Rattle.schema_resolve_definitions.specs.Declarations.{declared}
use Rattle.schema_resolve_definitions.specs.Defined.{defined}
use Rattle.schema_resolve_definitions.specs.Tests.{tests_of}

abbrev IsFree : List (List ℕ) → Type 0
IsFree name = has_cedar name ≡ false

behind_free : (ns name : InternalName) → IsFree (components_of ns) → IsFree (components_of name)
    → IsFree (components_of (behind ns name))
behind_free ns name a b =
    ap (λ l. has_cedar (ns.first.text ∷ l)) (map-append (λ (i : Id). i.text) ns.others (name.first ∷ name.others))
    ∙ list_any-append is_cedar (components_of ns) (components_of name)
    ∙ or_from (has_cedar (components_of ns)) (has_cedar (components_of name)) a b

word_free : (id : UnreservedId) → IsFree (components_of (alone id.id))
word_free id = or_from (is_cedar id.id.text) false id.unreserved refl

declared_free : (ns : Option Name) (id : UnreservedId) → IsFree (components_of (declared_name ns id.id))
declared_free None id = word_free id
declared_free (Some ns) id = behind_free ns.name (alone id.id) ns.unreserved (word_free id)

action_free : (ns : Option Name) → IsFree (components_of (action_type ns))
action_free None = refl
action_free (Some ns) = behind_free ns.name action_name ns.unreserved refl

each_all : {A B : Type 0} (P : B → Type 0) (f : A → List B) → ((a : A) → AllByRecursion P (f a)) → (xs : List A)
    → AllByRecursion P (flat_map f xs)
each_all P f all [] = tt
each_all P f all (x ∷ xs) = All-append P (f x) (flat_map f xs) (all x) (each_all P f all xs)

mapped_all : {A B : Type 0} (P : B → Type 0) (f : A → B) → ((a : A) → P (f a)) → (xs : List A)
    → AllByRecursion P (map f xs)
mapped_all P f all [] = tt
mapped_all P f all (x ∷ xs) = (all x, mapped_all P f all xs)

among_free : (names : List (List (List ℕ))) (n : List (List ℕ)) → AllByRecursion IsFree names
    → among names n ≡ true → IsFree n
among_free [] n all h = cc
among_free (x ∷ xs) n all h = go (among_free xs n all.1) (same_name n x) refl h
  where
    go : (among xs n ≡ true → IsFree n) → (b : Bool) → same_name n x ≡ b → (b || among xs n) ≡ true → IsFree n
    go more true is h = ap has_cedar (equal_names n x is) ∙ all.0
    go more false is h = more h

module _ {G : named.Ghosts RawName} (f : Fragment RawName G) (table : ExtensionTable) where
  -- a name that is defined as an entity type has no component `__cedar`
  pub entity_free : (n : List (List ℕ)) → (tests_of (defined f table)).is_entity n ≡ true → IsFree n
  entity_free n h =
      among_free (defined f table).entities n
      (All-append IsFree (declared f).entities (map (λ a. a.0) (declared f).actions)
      (each_all IsFree (λ e. entities_in e.0 e.1)
      (λ e. mapped_all IsFree (λ (d : UnreservedId × EntityType RawName). components_of (declared_name e.0 d.0.id))
      (λ d. declared_free e.0 d.0) e.1.entity_types)
      f.0)
      (All-map IsFree (λ a. a.0) (declared f).actions
      (each_all (λ a. IsFree a.0) (λ e. actions_in e.0 e.1)
      (λ e. mapped_all (λ a. IsFree a.0)
      (λ (d : List ℕ × ActionType RawName G).
      let a : List (List ℕ) × List ℕ = (components_of (action_type e.0), d.0) in a) (λ d. action_free e.0) e.1.actions)
      f.0)))
      h
