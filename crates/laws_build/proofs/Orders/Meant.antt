-- What a fragment means, each fragment means that declares the same in order.
use Rattle.std.proofs.Common.{◌≡◌, List, Contains, refl, sym, ap, ◌∙◌, subst}
use Rattle.cedar_names.specs.Meaning.{EntityMeaning, ActionMeaning, SchemaMeaning}
use Rattle.cedar_names.specs.Orders.{names_in_order, places_total}
use Rattle.cedar_names.specs.declared.extension_table.ExtensionTable.{ExtensionTable}
use Rattle.schema_resolve_definitions.specs.Declarations.{name_of}
use Rattle.schema_resolve_definitions.specs.Tests.{Tests}
use Rattle.schema_build_types.specs.Content.{actions_cmp}
use Rattle.schema_build_checks.specs.DeclaredAt.{actions_at_in_order}
use Rattle.schema_build_checks.proofs.Names.{names_tied}
use Rattle.schema_build_scope.specs.FragmentScope.{fragment_scope}
use Rattle.schema_build_hierarchy.specs.Declarations.{DeclaredEntity, entity_name, action_key, declared_entities}
use Rattle.schema_build_hierarchy.specs.Declarations.{declared_actions}
use Rattle.schema_build_hierarchy.specs.Parents.{IsAncestor, IsActionAncestor}
use Rattle.schema_build_hierarchy.proofs.Exact.{actions_tied}
use Rattle.schema_build_hierarchy.proofs.Gathered as gathered
use Rattle.schema_build_items.specs.ActionKinds.{components_cmp, tests_alone}
use Rattle.schema_build.specs.FaultsTold.{IsInOrder}
use Rattle.schema_build.specs.Meaning.{kind_meaning, apply_meaning, IsEntityMeaning, IsActionMeaning, EntitiesMean}
use Rattle.schema_build.specs.Meaning.{ActionsMean, FragmentMeaning}
use Rattle.laws_build.specs.Orders.Alike.{DeclareTheSame}
use Rattle.laws_build.proofs.Orders.Declaring.{Frag, DeclaredAction, entity_alone, action_alone, entities_same}
use Rattle.laws_build.proofs.Orders.Declaring.{actions_same, tests_same}
use Rattle.laws_build.proofs.Orders.Meaning.{spaces_same, kind_too, apply_too, just_too, rebuilt, members_too}
use Rattle.laws_build.proofs.Orders.Meaning.{seen_rise, zip_too, ancestor_too, action_ancestor_too}
use Rattle.laws_build.proofs.Orders.Scoping.{declared_once, scopes_alike}

module _ (f g : Frag) (table : ExtensionTable) (same : DeclareTheSame f g) (order : IsInOrder g) where
  abbrev t : Tests
  t = tests_alone f table

  abbrev u : Tests
  u = tests_alone g table

  entities_once : (a b : DeclaredEntity) → Contains (declared_entities g) a → Contains (declared_entities g) b
      → entity_alone a ≡ entity_alone b → a ≡ b
  entities_once a b ca cb e =
      gathered.entities_once g.0 places_total order.namespaces order.entities a b ca cb
      (names_tied a.name b.name (ap (λ (d : DeclaredEntity). entity_name d) e))

  actions_once : (a b : DeclaredAction) → Contains (declared_actions g) a → Contains (declared_actions g) b
      → action_alone a ≡ action_alone b → a ≡ b
  actions_once a b ca cb e =
      gathered.actions_once g.0 places_total order.namespaces order.actions a b ca cb
      (actions_tied a.name b.name (ap (λ (d : DeclaredAction). action_key d) e))

  entity_means : (d e : DeclaredEntity) (m : EntityMeaning) → entity_alone d ≡ entity_alone e
      → IsEntityMeaning f table d m → IsEntityMeaning g table e m
  entity_means d e m seen h =
      let named : entity_name d ≡ entity_name e = ap (λ (x : DeclaredEntity). entity_name x) seen in
      record {
        name = h.name ∙ named;
        is_external = h.is_external ∙ ap (λ (x : DeclaredEntity). x.ty.external) seen;
        ancestors = just_too components_cmp (IsAncestor t (declared_entities f) (entity_name d))
            (IsAncestor u (declared_entities g) (entity_name e))
            (λ a r. subst (λ n. IsAncestor u (declared_entities g) n a) named
            (ancestor_too f g table same (entity_name d) a r))
            (λ a r. ancestor_too g f table (sym same) (entity_name d) a
            (subst (λ n. IsAncestor u (declared_entities g) n a) (sym named) r))
            m.ancestors h.ancestors;
        kind = kind_too (fragment_scope f table) (fragment_scope g table) (scopes_alike f g table same)
            (name_of d.ns) (name_of e.ns) (spaces_same d.ns e.ns (ap (λ (x : DeclaredEntity). x.ns) seen))
            d.ty.kind e.ty.kind (kind_meaning m) (ap (λ (x : DeclaredEntity). x.ty.kind) seen) h.kind;
      }

  action_means : (d e : DeclaredAction) (m : ActionMeaning) → action_alone d ≡ action_alone e
      → IsActionMeaning f table d m → IsActionMeaning g table e m
  action_means d e m seen h =
      let named : action_key d ≡ action_key e = ap (λ (x : DeclaredAction). action_key x) seen in
      record {
        key = h.key ∙ named;
        is_external = h.is_external ∙ ap (λ (x : DeclaredAction). x.ty.external) seen;
        ancestors = just_too actions_cmp (IsActionAncestor t (declared_actions f) (action_key d))
            (IsActionAncestor u (declared_actions g) (action_key e))
            (λ a r. subst (λ n. IsActionAncestor u (declared_actions g) n a) named
            (action_ancestor_too f g table same (action_key d) a r))
            (λ a r. action_ancestor_too g f table (sym same) (action_key d) a
            (subst (λ n. IsActionAncestor u (declared_actions g) n a) (sym named) r))
            m.ancestors h.ancestors;
        applies = apply_too t u (tests_same f g same table) (fragment_scope f table) (fragment_scope g table)
            (scopes_alike f g table same) d.ns e.ns (ap (λ (x : DeclaredAction). x.ns) seen)
            d.ty.applies_to e.ty.applies_to (apply_meaning m) (ap (λ (x : DeclaredAction). x.ty.applies_to) seen)
            h.applies;
      }

  entities_mean : (ms : List EntityMeaning) → EntitiesMean f table ms → EntitiesMean g table ms
  entities_mean ms h =
      let alike = entities_same f g same in
      let (ys, es, are) = rebuilt entity_alone (declared_entities f) (declared_entities g) alike h.declared
      (λ x c. (h.same x).1 c) in
      record {
        declared = ys;
        same = members_too entity_alone (declared_entities f) (declared_entities g) alike entities_once h.declared ys
            h.same es are;
        rising = seen_rise entity_alone (λ (a b : DeclaredEntity). names_in_order a.name b.name)
            (λ (a b : DeclaredEntity). names_in_order a.name b.name) (λ a b. refl) h.declared ys es h.rising;
        each = zip_too entity_alone (IsEntityMeaning f table) (IsEntityMeaning g table) entity_means h.declared ys ms
            es h.each;
      }

  actions_mean : (ms : List ActionMeaning) → ActionsMean f table ms → ActionsMean g table ms
  actions_mean ms h =
      let alike = actions_same f g same in
      let (ys, es, are) = rebuilt action_alone (declared_actions f) (declared_actions g) alike h.declared
      (λ x c. (h.same x).1 c) in
      record {
        declared = ys;
        same = members_too action_alone (declared_actions f) (declared_actions g) alike actions_once h.declared ys
            h.same es are;
        rising = seen_rise action_alone (λ (a b : DeclaredAction). actions_at_in_order a.name b.name)
            (λ (a b : DeclaredAction). actions_at_in_order a.name b.name) (λ a b. refl) h.declared ys es h.rising;
        each = zip_too action_alone (IsActionMeaning f table) (IsActionMeaning g table) action_means h.declared ys ms
            es h.each;
      }

  pub means_too : (m : SchemaMeaning) → FragmentMeaning f table m → FragmentMeaning g table m
  means_too m h = record {
    once = declared_once g table;
    entities = entities_mean m.entities h.entities;
    actions = actions_mean m.actions h.actions;
  }
