-- What fragments declare that declare the same.
use Rattle.std.proofs.Common.{◌≡◌, ℕ, List, map, Option, Some, None, refl, sym, ap, ◌∙◌}
use Rattle.std.specs.List.{flat_map}
use Rattle.cedar_identifiers.specs.Names.{components_of}
use Rattle.cedar_identifiers.specs.declared.internal_name.InternalName.{InternalName}
use Rattle.cedar_identifiers.specs.declared.name.Name.{Name}
use Rattle.cedar_identifiers.specs.declared.raw_name.RawName.{RawName}
use Rattle.cedar_identifiers.specs.declared.unreserved_id.UnreservedId.{UnreservedId}
use Rattle.cedar_names.specs.Definitions.{Definitions}
use Rattle.cedar_names.specs.declared.extension_table.ExtensionTable.{ExtensionTable}
use Rattle.schema_json.specs.declared.action_type.ActionType.{ActionType}
use Rattle.schema_json.specs.declared.common_type.CommonType.{CommonType}
use Rattle.schema_json.specs.declared.common_type.CommonTypeId.{CommonTypeId}
use Rattle.schema_json.specs.declared.entity_type.EntityType.{EntityType}
use Rattle.schema_json.specs.declared.fragment.Fragment.{Fragment}
use Rattle.schema_json.specs.declared.fragment.NamespaceDefinition.{NamespaceDefinition}
use Rattle.schema_json.specs.AsWritten.{as_written}
use Rattle.laws_translate.specs.Bare.{bare_internal, bare}
use Rattle.laws_translate.specs.BareFragments.{bare_common, bare_entity, bare_action}
use Rattle.schema_resolve_definitions.specs.Declarations.{declared_name, action_type, commons_in, entities_in}
use Rattle.schema_resolve_definitions.specs.Declarations.{actions_in, declared}
use Rattle.schema_resolve_definitions.specs.Defined.{builtins, completed, defined}
use Rattle.schema_resolve_definitions.specs.Tests.{tests_of}
use Rattle.schema_build_checks.specs.DeclaredAt.{ActionAt}
use Rattle.schema_build_scope.specs.Commons.{TypeAt, full_common_entry, declared_commons}
use Rattle.schema_build_hierarchy.specs.Declarations.{Declared, DeclaredEntity, entity_in, action_in, entities_of}
use Rattle.schema_build_hierarchy.specs.Declarations.{actions_of, declared_entities, declared_actions}
use Rattle.laws_build.specs.Orders.Alike.{bare_space, bare_place, declarations_alone, declared_alone, DeclareTheSame}
use Rattle.laws_build.proofs.Orders.Entries.{CommonEntry, EntityEntry, ActionEntry, common_bare, entity_bare}
use Rattle.laws_build.proofs.Orders.Entries.{action_bare}
use Rattle.laws_build.proofs.Orders.Seen.{map_seen, map_same, flat_seen, flat_same}

abbrev pub Frag : Type 0
Frag = Fragment RawName as_written

abbrev pub Block : Type 0
Block = Option Name × NamespaceDefinition RawName as_written

abbrev pub DeclaredAction : Type 0
DeclaredAction = Declared ActionAt (ActionType RawName as_written)

abbrev pub bare_block : Block → Block
bare_block e = (bare_space e.0, declarations_alone e.1)

-- declarations without places
abbrev pub entity_alone : DeclaredEntity → DeclaredEntity
entity_alone d = record { name = bare_internal d.name; ns = bare_space d.ns; ty = bare_entity d.ty }

abbrev pub at_alone : ActionAt → ActionAt
at_alone a = record { ty = bare_internal a.ty; id = a.id; loc = None }

abbrev pub action_alone : DeclaredAction → DeclaredAction
action_alone d = record { name = at_alone d.name; ns = bare_space d.ns; ty = bare_action d.ty }

abbrev pub type_alone : TypeAt → TypeAt
type_alone t = record { place = bare_place t.place; ty = bare t.ty }

abbrev pub common_alone : InternalName × TypeAt → InternalName × TypeAt
common_alone c = (bare_internal c.0, type_alone c.1)

entity_seen : (ns : Option Name) (e : UnreservedId × EntityType RawName)
    → entity_in (bare_space ns) (e.0, bare_entity e.1) ≡ entity_alone (entity_in ns e)
entity_seen None e = refl
entity_seen (Some n) e = refl

pub action_type_seen : (ns : Option Name) → action_type (bare_space ns) ≡ bare_internal (action_type ns)
action_type_seen None = refl
action_type_seen (Some n) = refl

action_seen : (ns : Option Name) (e : List ℕ × ActionType RawName as_written)
    → action_in (bare_space ns) (e.0, bare_action e.1) ≡ action_alone (action_in ns e)
action_seen None e = refl
action_seen (Some n) e = refl

common_seen : (ns : Option Name) (e : CommonTypeId × CommonType RawName)
    → full_common_entry (bare_space ns) (e.0, bare_common e.1) ≡ common_alone (full_common_entry ns e)
common_seen None e = refl
common_seen (Some n) e = refl

entities_alone : (f : Frag) → declared_entities (declared_alone f) ≡ map entity_alone (declared_entities f)
entities_alone f = flat_seen bare_block entity_alone entities_of entities_of
    (λ e. map_seen entity_bare entity_alone (entity_in (bare_space e.0)) (entity_in e.0) (entity_seen e.0)
    e.1.entity_types) f.0

actions_alone : (f : Frag) → declared_actions (declared_alone f) ≡ map action_alone (declared_actions f)
actions_alone f = flat_seen bare_block action_alone actions_of actions_of
    (λ e. map_seen action_bare action_alone (action_in (bare_space e.0)) (action_in e.0) (action_seen e.0)
    e.1.actions) f.0

commons_alone : (f : Frag) → declared_commons (declared_alone f) ≡ map common_alone (declared_commons f)
commons_alone f = flat_seen bare_block common_alone (λ (e : Block). map (full_common_entry e.0) e.1.common_types)
    (λ (e : Block). map (full_common_entry e.0) e.1.common_types)
    (λ e. map_seen common_bare common_alone (full_common_entry (bare_space e.0)) (full_common_entry e.0)
    (common_seen e.0)
    e.1.common_types)
    f.0

common_named : (ns : Option Name) (e : CommonTypeId × CommonType RawName)
    → components_of (declared_name (bare_space ns) e.0.id.id) ≡ components_of (declared_name ns e.0.id.id)
common_named None e = refl
common_named (Some n) e = refl

entity_named : (ns : Option Name) (e : UnreservedId × EntityType RawName)
    → components_of (declared_name (bare_space ns) e.0.id) ≡ components_of (declared_name ns e.0.id)
entity_named None e = refl
entity_named (Some n) e = refl

action_named : (ns : Option Name) → components_of (action_type (bare_space ns)) ≡ components_of (action_type ns)
action_named None = refl
action_named (Some n) = refl

abbrev keyed : InternalName → List ℕ → List (List ℕ) × List ℕ
keyed ty id = (components_of ty, id)

declared_named : (f : Frag) → declared (declared_alone f) ≡ declared f
declared_named f =
    let commons : flat_map (λ (e : Block). commons_in e.0 e.1) (declared_alone f).0
    ≡ flat_map (λ (e : Block). commons_in e.0 e.1) f.0 = flat_same bare_block (λ (e : Block). commons_in e.0 e.1)
    (λ (e : Block). commons_in e.0 e.1)
    (λ e. map_same common_bare (λ (x : CommonEntry). components_of (declared_name (bare_space e.0) x.0.id.id))
    (λ (x : CommonEntry). components_of (declared_name e.0 x.0.id.id)) (common_named e.0) e.1.common_types) f.0 in
    let entities : flat_map (λ (e : Block). entities_in e.0 e.1) (declared_alone f).0
    ≡ flat_map (λ (e : Block). entities_in e.0 e.1) f.0 = flat_same bare_block (λ (e : Block). entities_in e.0 e.1)
    (λ (e : Block). entities_in e.0 e.1)
    (λ e. map_same entity_bare (λ (x : EntityEntry). components_of (declared_name (bare_space e.0) x.0.id))
    (λ (x : EntityEntry). components_of (declared_name e.0 x.0.id)) (entity_named e.0) e.1.entity_types) f.0 in
    let actions : flat_map (λ (e : Block). actions_in e.0 e.1) (declared_alone f).0
    ≡ flat_map (λ (e : Block). actions_in e.0 e.1) f.0 = flat_same bare_block (λ (e : Block). actions_in e.0 e.1)
    (λ (e : Block). actions_in e.0 e.1)
    (λ e. map_same action_bare (λ (x : ActionEntry). keyed (action_type (bare_space e.0)) x.0)
    (λ (x : ActionEntry). keyed (action_type e.0) x.0) (λ a. λ i. (action_named e.0 i, a.0)) e.1.actions) f.0 in
    λ i. record { commons = commons i; entities = entities i; actions = actions i }

pub own_alone : (f : Frag) → tests_of (declared (declared_alone f)) ≡ tests_of (declared f)
own_alone f = ap tests_of (declared_named f)

module _ (f g : Frag) (same : DeclareTheSame f g) where
  pub entities_same : map entity_alone (declared_entities f) ≡ map entity_alone (declared_entities g)
  entities_same = sym (entities_alone f) ∙ (ap declared_entities same ∙ entities_alone g)

  pub actions_same : map action_alone (declared_actions f) ≡ map action_alone (declared_actions g)
  actions_same = sym (actions_alone f) ∙ (ap declared_actions same ∙ actions_alone g)

  pub commons_same : map common_alone (declared_commons f) ≡ map common_alone (declared_commons g)
  commons_same = sym (commons_alone f) ∙ (ap declared_commons same ∙ commons_alone g)

  pub names_same : declared f ≡ declared g
  names_same = sym (declared_named f) ∙ (ap declared same ∙ declared_named g)

  pub own_same : tests_of (declared f) ≡ tests_of (declared g)
  own_same = ap tests_of names_same

  pub defined_same : (table : ExtensionTable) → defined f table ≡ defined g table
  defined_same table = sym (alone f) ∙ (ap (λ x. defined x table) same ∙ alone g)
    where
      alone : (x : Frag) → defined (declared_alone x) table ≡ defined x table
      alone x = ap completed_with (declared_named x)
        where
          completed_with : Definitions → Definitions
          completed_with d = completed d (builtins table)

  pub tests_same : (table : ExtensionTable) → tests_of (defined f table) ≡ tests_of (defined g table)
  tests_same table = ap tests_of (defined_same table)
