-- What a fragment declares and what it means.
use Rattle.std.proofs.Common.{◌≡◌, ℕ, List, [], ◌∷◌, ◌++◌, Contains, Option, codes, sym, ap, ◌∙◌}
use Rattle.std.proofs.Common.{subst}
use Rattle.cedar_data.proofs.Lists.{contains_flat, contains_map, contains_unmap}
use Rattle.cedar_identifiers.specs.Names.{components_of}
use Rattle.cedar_identifiers.specs.declared.name.Name.{Name}
use Rattle.cedar_identifiers.specs.declared.name_text.NameText as named
use Rattle.cedar_identifiers.specs.declared.raw_name.RawName.{RawName}
use Rattle.cedar_identifiers.specs.declared.unreserved_id.UnreservedId.{UnreservedId}
use Rattle.cedar_names.specs.Meaning.{EntityMeaning, ActionMeaning, SchemaMeaning}
use Rattle.cedar_names.specs.declared.extension_table.ExtensionTable.{ExtensionTable}
use Rattle.schema_json.specs.declared.action_type.ActionType.{ActionType}
use Rattle.schema_json.specs.declared.entity_type.EntityType.{EntityType}
use Rattle.schema_json.specs.declared.fragment.Fragment.{Fragment}
use Rattle.schema_json.specs.declared.fragment.NamespaceDefinition.{NamespaceDefinition}
use Rattle.schema_resolve_definitions.specs.Declarations.{declared, declared_name, entities_in, actions_in}
use Rattle.schema_resolve_definitions.specs.Declarations.{action_type}
use Rattle.schema_build_checks.specs.DeclaredAt.{ActionAt}
use Rattle.schema_build_hierarchy.specs.Declarations.{Declared, DeclaredEntity, entity_name, entity_in, entities_of}
use Rattle.schema_build_hierarchy.specs.Declarations.{declared_entities, action_key, action_in, actions_of}
use Rattle.schema_build_hierarchy.specs.Declarations.{declared_actions}
use Rattle.schema_build_hierarchy.proofs.ParentsDeclared.{flat_contains, name_at}
use Rattle.schema_build.specs.Meaning.{key_of, IsEntityMeaning, IsActionMeaning, FragmentMeaning}
use Rattle.laws_build.specs.Closure.Known.{meant_entities, meant_actions, action_types}
use Rattle.laws_build.proofs.Closure.Lists.{beside_left, beside_right}
use Rattle.laws_build.proofs.Closure.Words.{front, full_name, action_type_full}

module _ {G : named.Ghosts RawName} (f : Fragment RawName G) where
  -- where an entity type is declared
  pub record EntityStands (d : DeclaredEntity) : Type 0 where
    pub entry : Option Name × NamespaceDefinition RawName G
    pub inside : Contains f.0 entry
    pub item : UnreservedId × EntityType RawName
    pub among : Contains entry.1.entity_types item
    pub is : entity_in entry.0 item ≡ d

  pub entity_stands : (d : DeclaredEntity) → Contains (declared_entities f) d → EntityStands d
  entity_stands d c =
      let (e, ce, cd) = contains_flat entities_of f.0 d c in
      let (p, cp, same) = contains_unmap (entity_in e.0) e.1.entity_types d cd in
      record { entry = e; inside = ce; item = p; among = cp; is = same }

  -- its name is its word behind its namespace
  pub entity_full : (d : DeclaredEntity) (s : EntityStands d)
      → entity_name d ≡ front s.entry.0 ++ s.item.0.id.text ∷ []
  entity_full d s = ap entity_name (sym s.is)
      ∙ full_name s.entry.0 s.item.0.id s.item.1.loc

  -- where an action is declared
  pub record ActionStands (d : Declared ActionAt (ActionType RawName G)) : Type 0 where
    pub entry : Option Name × NamespaceDefinition RawName G
    pub inside : Contains f.0 entry
    pub item : List ℕ × ActionType RawName G
    pub among : Contains entry.1.actions item
    pub is : action_in entry.0 item ≡ d

  pub action_stands : (d : Declared ActionAt (ActionType RawName G)) → Contains (declared_actions f) d → ActionStands d
  action_stands d c =
      let (e, ce, cd) = contains_flat actions_of f.0 d c in
      let (p, cp, same) = contains_unmap (action_in e.0) e.1.actions d cd in
      record { entry = e; inside = ce; item = p; among = cp; is = same }

  pub action_full : (d : Declared ActionAt (ActionType RawName G)) (s : ActionStands d)
      → (action_key d).0 ≡ front s.entry.0 ++ codes "Action" ∷ []
  action_full d s = ap (λ z. (action_key z).0) (sym s.is) ∙ action_type_full s.entry.0

  module _ (table : ExtensionTable) (m : SchemaMeaning) (mean : FragmentMeaning f table m) where
    -- what is declared has its meaning, and each meaning is that of something declared
    pub entity_declared : (e : EntityMeaning) → Contains m.entities e
        → (d : DeclaredEntity) × Contains (declared_entities f) d × IsEntityMeaning f table d e
    entity_declared e c =
        let (d, cd, is) =
        beside_right (IsEntityMeaning f table) mean.entities.declared m.entities mean.entities.each e c in
        (d, (mean.entities.same d).1 cd, is)

    pub entity_meant : (d : DeclaredEntity) → Contains (declared_entities f) d
        → (e : EntityMeaning) × Contains m.entities e × IsEntityMeaning f table d e
    entity_meant d c = beside_left (IsEntityMeaning f table) mean.entities.declared m.entities mean.entities.each d
        ((mean.entities.same d).0 c)

    pub action_declared : (a : ActionMeaning) → Contains m.actions a
        → (d : Declared ActionAt (ActionType RawName G)) × Contains (declared_actions f) d
        × IsActionMeaning f table d a
    action_declared a c =
        let (d, cd, is) =
        beside_right (IsActionMeaning f table) mean.actions.declared m.actions mean.actions.each a c in
        (d, (mean.actions.same d).1 cd, is)

    pub action_meant : (d : Declared ActionAt (ActionType RawName G)) → Contains (declared_actions f) d
        → (a : ActionMeaning) × Contains m.actions a × IsActionMeaning f table d a
    action_meant d c = beside_left (IsActionMeaning f table) mean.actions.declared m.actions mean.actions.each d
        ((mean.actions.same d).0 c)

    -- the names of what is declared are those of the meaning
    pub entity_named : (d : DeclaredEntity) → Contains (declared_entities f) d
        → Contains (meant_entities m) (entity_name d)
    entity_named d c =
        let (e, ce, is) = entity_meant d c in
        subst (Contains (meant_entities m)) is.name (contains_map (λ e. e.name) m.entities e ce)

    pub action_named : (d : Declared ActionAt (ActionType RawName G)) → Contains (declared_actions f) d
        → Contains (meant_actions m) (action_key d)
    action_named d c =
        let (a, ca, is) = action_meant d c in
        subst (Contains (meant_actions m)) is.key (contains_map key_of m.actions a ca)

    pub entity_held : (b : List (List ℕ)) → Contains (declared f).entities b → Contains (meant_entities m) b
    entity_held b c =
        let (e, ce, cb) = contains_flat (λ e. entities_in e.0 e.1) f.0 b c in
        let (x, cx, same) = contains_unmap (λ x. components_of (declared_name e.0 x.0.id)) e.1.entity_types b cb in
        let d = entity_in e.0 x in
        let there : Contains (declared_entities f) d =
        flat_contains entities_of f.0 e d ce (contains_map (entity_in e.0) e.1.entity_types x cx) in
        subst (Contains (meant_entities m)) (sym (name_at e.0 x) ∙ same) (entity_named d there)

    pub action_held : (b : List (List ℕ) × List ℕ) → Contains (declared f).actions b → Contains (meant_actions m) b
    action_held b c =
        let (e, ce, cb) = contains_flat (λ e. actions_in e.0 e.1) f.0 b c in
        let (x, cx, same) = contains_unmap (λ x. (components_of (action_type e.0), x.0)) e.1.actions b cb in
        let d = action_in e.0 x in
        let there : Contains (declared_actions f) d =
        flat_contains actions_of f.0 e d ce (contains_map (action_in e.0) e.1.actions x cx) in
        subst (Contains (meant_actions m)) same (action_named d there)

    -- the names of the meaning are declared
    pub name_there : (b : List (List ℕ)) → Contains (meant_entities m) b → Contains (declared f).entities b
    name_there b c =
        let (e, ce, same) = contains_unmap (λ e. e.name) m.entities b c in
        let (d, cd, is) = entity_declared e ce in
        let s = entity_stands d cd in
        let here = contains_map (λ x. components_of (declared_name s.entry.0 x.0.id)) s.entry.1.entity_types s.item
        s.among in
        let there : Contains (declared f).entities (components_of (declared_name s.entry.0 s.item.0.id)) =
        flat_contains (λ e. entities_in e.0 e.1) f.0 s.entry _ s.inside here in
        subst (Contains (declared f).entities)
        (name_at s.entry.0 s.item ∙ ap entity_name s.is ∙ sym is.name ∙ same) there

    pub action_there : (b : List (List ℕ) × List ℕ) → Contains (meant_actions m) b → Contains (declared f).actions b
    action_there b c =
        let (a, ca, same) = contains_unmap key_of m.actions b c in
        let (d, cd, is) = action_declared a ca in
        let s = action_stands d cd in
        let here = contains_map (λ x. (components_of (action_type s.entry.0), x.0)) s.entry.1.actions s.item s.among in
        let there : Contains (declared f).actions (components_of (action_type s.entry.0), s.item.0) =
        flat_contains (λ e. actions_in e.0 e.1) f.0 s.entry _ s.inside here in
        subst (Contains (declared f).actions) (ap action_key s.is ∙ sym is.key ∙ same) there

-- the type of a named action
pub type_named : (m : SchemaMeaning) (k : List (List ℕ) × List ℕ) → Contains (meant_actions m) k
    → Contains (action_types m) k.0
type_named m k c =
    let (a, ca, same) = contains_unmap key_of m.actions k c in
    subst (Contains (action_types m)) (ap (λ z. z.0) same) (contains_map (λ a. a.ty) m.actions a ca)
