-- A fragment has one meaning.
use Rattle.std.proofs.Common.{◌≡◌, List, Option, Some, None, Ordering, sym, ap, ◌∙◌, subst}
use Rattle.std.specs.Cmp.{IsTotalOrder}
use Rattle.std.specs.List.{AllZip}
use Rattle.cedar_identifiers.specs.declared.internal_name.InternalName.{InternalName}
use Rattle.cedar_identifiers.specs.declared.name.Name.{Name}
use Rattle.cedar_identifiers.specs.declared.name_text.NameText as named
use Rattle.cedar_identifiers.specs.declared.raw_name.RawName.{RawName}
use Rattle.cedar_names.specs.Meaning.{PlainType, Attributes, Rec, EntityMeaning, ActionMeaning, SchemaMeaning}
use Rattle.cedar_names.specs.declared.extension_table.ExtensionTable.{ExtensionTable}
use Rattle.cedar_names.specs.Orders.{names_in_order}
use Rattle.schema_json.specs.declared.action_type.ActionType.{ActionType}
use Rattle.schema_json.specs.declared.action_type.ApplySpec.{ApplySpec}
use Rattle.schema_json.specs.declared.entity_type.EntityTypeKind.{EntityTypeKind}
use Rattle.schema_json.specs.declared.entity_type.EntityTypeKind.TheVariants.{Standard, Enum}
use Rattle.schema_json.specs.declared.fragment.Fragment.{Fragment}
use Rattle.schema_json.specs.declared.types.Type.{«Type»}
use Rattle.schema_resolve_definitions.specs.Declarations.{name_of}
use Rattle.schema_resolve_definitions.specs.Tests.{Tests}
use Rattle.schema_build_types.specs.Content.{actions_cmp}
use Rattle.schema_build_expand.specs.Expands.{Expands, ExpandsOnce}
use Rattle.schema_build_expand.specs.Scope.{Scope}
use Rattle.schema_build_checks.specs.DeclaredAt.{ActionAt, actions_at_in_order}
use Rattle.schema_build_scope.specs.FragmentScope.{fragment_scope}
use Rattle.schema_build_hierarchy.specs.Declarations.{Declared, DeclaredEntity, declared_entities, declared_actions}
use Rattle.schema_build_hierarchy.specs.Entries.{SameMembers}
use Rattle.schema_build_hierarchy.proofs.KnownByMembers.{known_by_members}
use Rattle.schema_build_items.specs.ActionKinds.{AreJust, ApplyMeaning, IsApplyMeaning, components_cmp, tests_alone}
use Rattle.schema_build_items.specs.Kinds.{KindMeaning, IsKindMeaning, TagsExpand}
use Rattle.schema_build.specs.Meaning.{IsEntityMeaning, IsActionMeaning, EntitiesMean, ActionsMean, FragmentMeaning}
use Rattle.schema_build.specs.Meaning.{kind_meaning, apply_meaning, key_of}
use Rattle.schema_build.proofs.Orders.{components_total, actions_total, declared_entities_total}
use Rattle.schema_build.proofs.Orders.{declared_actions_total}
use Rattle.schema_build.proofs.Zipped.{one_beside}

-- the members of two lists are the same where both are just what is wanted
just_one : {A : Type 0} (R : A → A → Ordering) → IsTotalOrder R → (Wanted : A → Type 0) (xs ys : List A)
    → AreJust R Wanted xs → AreJust R Wanted ys → xs ≡ ys
just_one R o Wanted xs ys p q = known_by_members R o xs ys p.rising q.rising
    (λ z. ((λ c. (q.just z).1 ((p.just z).0 c)), (λ c. (p.just z).1 ((q.just z).0 c))))

same_members : {A : Type 0} (ds xs ys : List A) → SameMembers ds xs → SameMembers ds ys → SameMembers xs ys
same_members ds xs ys p q z = ((λ c. (q z).0 ((p z).1 c)), (λ c. (p z).0 ((q z).1 c)))

module _ (s : Scope RawName) (once : ExpandsOnce s) where
  record_once : (ns : Option InternalName) (ty : «Type» RawName) (xs ys : Attributes) → Expands RawName s ns ty (Rec xs)
      → Expands RawName s ns ty (Rec ys) → xs ≡ ys
  record_once ns ty xs ys p q = let same : Rec xs ≡ Rec ys = once ns ty (Rec xs) (Rec ys) p q in cc

  tags_once : (ns : Option InternalName) (tags : Option («Type» RawName)) (p q : Option PlainType)
      → TagsExpand s ns tags p
      → TagsExpand s ns tags q → p ≡ q
  tags_once ns None p q a b = a ∙ sym b
  tags_once ns (Some ty) p q a b = a.1 ∙ ap Some (once ns ty a.0 b.0 a.2 b.2) ∙ sym b.1

  kind_once : (ns : Option InternalName) (kind : EntityTypeKind RawName) (m n : KindMeaning) → IsKindMeaning s ns kind m
      → IsKindMeaning s ns kind n → m ≡ n
  kind_once ns (Standard d) m n p q = λ i. record {
    attributes = record_once ns d.shape.0 m.attributes n.attributes p.0 q.0 i;
    tags = tags_once ns d.tags m.tags n.tags p.1 q.1 i;
    choices = (p.2 ∙ sym q.2) i;
  }
  kind_once ns (Enum choices) m n p q = λ i. record {
    attributes = (p.0 ∙ sym q.0) i;
    tags = (p.1 ∙ sym q.1) i;
    choices = (p.2 ∙ sym q.2) i;
  }

  apply_once : (t : Tests) (ns : Option Name) (applies : Option (ApplySpec RawName)) (m n : ApplyMeaning)
      → IsApplyMeaning t s ns applies m → IsApplyMeaning t s ns applies n → m ≡ n
  apply_once t ns None m n p q = λ i. record {
    principals = (p.0 ∙ sym q.0) i;
    resources = (p.1 ∙ sym q.1) i;
    context = (p.2 ∙ sym q.2) i;
  }
  apply_once t ns (Some d) m n p q = λ i. record {
    principals = just_one components_cmp components_total _ m.principals n.principals p.0 q.0 i;
    resources = just_one components_cmp components_total _ m.resources n.resources p.1 q.1 i;
    context = record_once (name_of ns) d.context.0 m.context n.context p.2 q.2 i;
  }

module _ {G : named.Ghosts RawName} (f : Fragment RawName G) (table : ExtensionTable)
    (once : ExpandsOnce (fragment_scope f table)) where
  entity_once : (d : DeclaredEntity) (x y : EntityMeaning) → IsEntityMeaning f table d x
      → IsEntityMeaning f table d y → x ≡ y
  entity_once d x y p q =
      let kind = kind_once (fragment_scope f table) once (name_of d.ns) d.ty.kind (kind_meaning x) (kind_meaning y)
      p.kind q.kind in
      λ i. record {
        name = (p.name ∙ sym q.name) i;
        is_external = (p.is_external ∙ sym q.is_external) i;
        ancestors = just_one components_cmp components_total _ x.ancestors y.ancestors p.ancestors q.ancestors i;
        attributes = (kind i).attributes;
        tags = (kind i).tags;
        choices = (kind i).choices;
      }

  action_once : (d : Declared ActionAt (ActionType RawName G)) (x y : ActionMeaning) → IsActionMeaning f table d x
      → IsActionMeaning f table d y → x ≡ y
  action_once d x y p q =
      let key : key_of x ≡ key_of y = p.key ∙ sym q.key in
      let applies = apply_once (fragment_scope f table) once (tests_alone f table) d.ns d.ty.applies_to
      (apply_meaning x) (apply_meaning y) p.applies q.applies in
      λ i. record {
        ty = (key i).0;
        id = (key i).1;
        is_external = (p.is_external ∙ sym q.is_external) i;
        ancestors = just_one actions_cmp actions_total _ x.ancestors y.ancestors p.ancestors q.ancestors i;
        principals = (applies i).principals;
        resources = (applies i).resources;
        context = (applies i).context;
      }

  entities_once : (xs ys : List EntityMeaning) → EntitiesMean f table xs → EntitiesMean f table ys → xs ≡ ys
  entities_once xs ys p q =
      let declared : p.declared ≡ q.declared = known_by_members
      (λ (a b : DeclaredEntity). names_in_order a.name b.name) declared_entities_total
      p.declared q.declared p.rising q.rising
      (same_members (declared_entities f) p.declared q.declared p.same q.same) in
      one_beside (IsEntityMeaning f table) entity_once q.declared xs ys
      (subst (λ ds. AllZip (IsEntityMeaning f table) ds xs) declared p.each) q.each

  actions_once : (xs ys : List ActionMeaning) → ActionsMean f table xs → ActionsMean f table ys → xs ≡ ys
  actions_once xs ys p q =
      let declared : p.declared ≡ q.declared = known_by_members
      (λ (a b : Declared ActionAt (ActionType RawName G)). actions_at_in_order a.name b.name) (declared_actions_total G)
      p.declared q.declared p.rising q.rising (same_members (declared_actions f) p.declared q.declared p.same q.same) in
      one_beside (IsActionMeaning f table) action_once q.declared xs ys
      (subst (λ ds. AllZip (IsActionMeaning f table) ds xs) declared p.each) q.each

  pub one_meaning : (m n : SchemaMeaning) → FragmentMeaning f table m → FragmentMeaning f table n → m ≡ n
  one_meaning m n p q = λ i. record {
    entities = entities_once m.entities n.entities p.entities q.entities i;
    actions = actions_once m.actions n.actions p.actions q.actions i;
  }
