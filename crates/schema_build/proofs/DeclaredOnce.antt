-- A fragment in order declares no name of a kind twice.
use Rattle.std.proofs.Common.{◌≡◌, List, [], ◌∷◌, ◌++◌, map, Option, refl, sym, ap, ◌∙◌, subst, Contains}
use Rattle.std.specs.Cmp.{on_total}
use Rattle.std.specs.List.Sorted.{IsStrictlySortedBy}
use Rattle.std.specs.Map.{keys_of}
use Rattle.std.specs.declared.cmp.Ordering.TheVariants.{Equal}
use Rattle.std.proofs.lemmas.Cmp.{tied_itself}
use Rattle.std.proofs.lemmas.List.Elements.{All-contains}
use Rattle.std.proofs.lemmas.List.{same_from_push}
use Rattle.cedar_data.specs.Text.{text_cmp}
use Rattle.cedar_data.proofs.Orders.{text_total}
use Rattle.cedar_data.proofs.Lists.{contains_flat, contains_unmap}
use Rattle.cedar_identifiers.specs.Names.{components_of}
use Rattle.cedar_identifiers.specs.declared.internal_name.InternalName.{InternalName}
use Rattle.cedar_identifiers.specs.declared.name.Name.{Name}
use Rattle.cedar_identifiers.specs.declared.name_text.NameText as named
use Rattle.cedar_identifiers.specs.declared.raw_name.RawName.{RawName}
use Rattle.cedar_names.specs.Orders.{names_in_order, places_total}
use Rattle.schema_json.specs.declared.action_type.ActionType.{ActionType}
use Rattle.schema_json.specs.declared.common_type.CommonTypeId.{CommonTypeId}
use Rattle.schema_json.specs.declared.fragment.Fragment.{Fragment}
use Rattle.schema_json.specs.declared.fragment.NamespaceDefinition.{NamespaceDefinition}
use Rattle.schema_build_checks.specs.DeclaredAt.{ActionAt, actions_at_in_order}
use Rattle.schema_build_checks.proofs.Names.{names_exact}
use Rattle.schema_build_scope.specs.Commons.{TypeAt, full_common_entry, declared_commons}
use Rattle.schema_build_hierarchy.specs.Declarations.{Declared, DeclaredEntity, declared_entities, declared_actions}
use Rattle.schema_build_hierarchy.proofs.Gathered.{path, full_path, place_tied, keyed_once}
use Rattle.schema_build_hierarchy.proofs.Gathered.{entities_once, actions_once}
use Rattle.schema_build.specs.FaultsTold.{IsInOrder}

module _ {G : named.Ghosts RawName} (f : Fragment RawName G) (order : IsInOrder f) where
  pub entities_are : (a b : DeclaredEntity) → Contains (declared_entities f) a → Contains (declared_entities f) b
      → names_in_order a.name b.name ≡ Equal → a ≡ b
  entities_are = entities_once f.0 places_total order.namespaces order.entities

  pub actions_are : (a b : Declared ActionAt (ActionType RawName G)) → Contains (declared_actions f) a
      → Contains (declared_actions f) b → actions_at_in_order a.name b.name ≡ Equal → a ≡ b
  actions_are = actions_once f.0 places_total order.namespaces order.actions

  abbrev commons_of : Option Name × NamespaceDefinition RawName G → List (InternalName × TypeAt)
  commons_of e = map (full_common_entry e.0) e.1.common_types

  entry_of : (a : InternalName) → Contains (keys_of (declared_commons f)) a
      → (x : InternalName × TypeAt) × Contains (declared_commons f) x × (x.0 ≡ a)
  entry_of a c = contains_unmap (λ (x : InternalName × TypeAt). x.0) (declared_commons f) a c

  commons_once : (a b : InternalName × TypeAt) → Contains (declared_commons f) a → Contains (declared_commons f) b
      → names_in_order a.0 b.0 ≡ Equal → a ≡ b
  commons_once a b ca cb h =
      let (e, ce, da) = contains_flat commons_of f.0 a ca in
      let (k, ck, db) = contains_flat commons_of f.0 b cb in
      let (p, cp, pa) = contains_unmap (full_common_entry e.0) e.1.common_types a da in
      let (q, cq, qb) = contains_unmap (full_common_entry k.0) k.1.common_types b db in
      let same : components_of a.0 ≡ components_of b.0 = names_exact a.0 b.0 h in
      let left : components_of a.0 ≡ path e.0
      ++ p.0.id.id.text ∷ [] = ap (λ (x : InternalName × TypeAt). components_of x.0) (sym pa)
      ∙ full_path e.0 (record { first = p.0.id.id; others = []; loc = p.1.loc }) refl in
      let right : components_of b.0 ≡ path k.0
      ++ q.0.id.id.text ∷ [] = ap (λ (x : InternalName × TypeAt). components_of x.0) (sym qb)
      ∙ full_path k.0 (record { first = q.0.id.id; others = []; loc = q.1.loc }) refl in
      let both = same_from_push (path e.0) (path k.0) p.0.id.id.text q.0.id.id.text (sym left ∙ same ∙ right) in
      let ek : e ≡ k = keyed_once places_total f.0 order.namespaces e k ce ck (place_tied e.0 k.0 both.0) in
      let cp' : Contains k.1.common_types p = subst (λ z. Contains z.1.common_types p) ek cp in
      let tied : text_cmp p.0.id.id.text q.0.id.id.text ≡ Equal = ap (text_cmp p.0.id.id.text) (sym both.1)
      ∙ tied_itself text_total p.0.id.id.text in
      let pq : p ≡ q =
      keyed_once (on_total (λ (u : CommonTypeId). u.id.id.text) text_total) k.1.common_types
      (All-contains (λ e. IsStrictlySortedBy (λ x y. text_cmp x.id.id.text y.id.id.text) (keys_of e.1.common_types))
      f.0 k order.commons ck) p q cp' cq tied in
      sym pa ∙ (λ i. full_common_entry (ek i).0 (pq i)) ∙ qb

  pub commons_are : (a b : InternalName) → Contains (keys_of (declared_commons f)) a
      → Contains (keys_of (declared_commons f)) b
      → names_in_order a b ≡ Equal → a ≡ b
  commons_are a b ca cb h =
      let (x, cx, xa) = entry_of a ca in
      let (y, cy, yb) = entry_of b cb in
      let tied : names_in_order x.0 y.0 ≡ Equal = (λ i. names_in_order (xa i) (yb i)) ∙ h in
      sym xa ∙ ap (λ (z : InternalName × TypeAt). z.0) (commons_once x y cx cy tied) ∙ yb
