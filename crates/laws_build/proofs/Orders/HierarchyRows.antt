-- The rows on hierarchies hold together of fragments that declare the same.
use Rattle.std.proofs.Common.{◌≡◌, Bool, refl, sym, ap, ◌∙◌, subst}
use Rattle.std.specs.Ordering.{is_lt}
use Rattle.cedar_identifiers.specs.declared.internal_name.InternalName.{InternalName}
use Rattle.cedar_identifiers.specs.declared.raw_name.RawName.{RawName}
use Rattle.cedar_names.specs.Orders.{names_in_order}
use Rattle.cedar_names.specs.declared.extension_table.ExtensionTable.{ExtensionTable}
use Rattle.schema_json.specs.declared.entity_type.EntityTypeKind.{EntityTypeKind}
use Rattle.schema_json.specs.declared.entity_type.EntityTypeKind.TheVariants.{Standard, Enum}
use Rattle.schema_resolve_definitions.specs.Defined.{defined}
use Rattle.schema_resolve_definitions.specs.Tests.{Tests, tests_of}
use Rattle.schema_build_errors.specs.declared.schema_error.SchemaError.TheVariants as error
use Rattle.laws_translate.specs.Bare.{bare_internal}
use Rattle.laws_translate.specs.BareFragments.{bare_kind}
use Rattle.schema_build_checks.specs.DeclaredAt.{at_of, actions_at_in_order}
use Rattle.schema_build_hierarchy.specs.Declarations.{DeclaredEntity, entity_name, action_key, declared_entities}
use Rattle.schema_build_hierarchy.specs.Declarations.{declared_actions}
use Rattle.schema_build_hierarchy.specs.Parents.{IsAncestor, IsActionAncestor}
use Rattle.schema_build_hierarchy.specs.Rows.{is_enum, IsEnumAbove, IsExternalUnderEnum, HasActionCycle}
use Rattle.schema_build_hierarchy.specs.Rows.{HasExternalUnderEnum}
use Rattle.laws_build.specs.Orders.Alike.{DeclareTheSame}
use Rattle.laws_build.proofs.Orders.Declaring.{Frag, DeclaredAction, entity_alone, at_alone, action_alone}
use Rattle.laws_build.proofs.Orders.Declaring.{entities_same, actions_same}
use Rattle.laws_build.proofs.Orders.DeclarationRows.{uid_too}
use Rattle.laws_build.proofs.Orders.Meaning.{Path, Key, ancestor_too, action_ancestor_too}
use Rattle.laws_build.proofs.Orders.Rows.{Follows, least_too}
use Rattle.laws_build.proofs.Orders.Seen.{matched}
use Rattle.laws_build.proofs.Orders.TypeRows.{name_too}

module _ (table : ExtensionTable) where
  abbrev tests : Frag → Tests
  tests f = tests_of (defined f table)

  abbrev IsRound : Frag → DeclaredAction → Type 0
  IsRound f c = IsActionAncestor (tests f) (declared_actions f) (action_key c) (action_key c)

  round_too : (f g : Frag) → DeclareTheSame f g → (a b : DeclaredAction) → action_alone a ≡ action_alone b
      → IsRound f a → IsRound g b
  round_too f g same a b seen h =
      subst (λ (k : Key). IsActionAncestor (tests g) (declared_actions g) k k)
      (ap (λ (d : DeclaredAction). action_key d) seen)
      (action_ancestor_too f g table same (action_key a) (action_key a) h)

  pub action_cycle_follows : (f g : Frag) → DeclareTheSame f g
      → Follows (HasActionCycle (tests f) (declared_actions f)) (HasActionCycle (tests g) (declared_actions g))
  action_cycle_follows f g same e (d, (given, is, at), least) =
      let (x, lowest, seen) = least_too action_alone (λ a b. is_lt (actions_at_in_order a b)) (λ c. c.name)
      (λ a b c k p q. λ i. is_lt (actions_at_in_order (p i).name (q i).name))
      (IsRound f) (IsRound g) (round_too f g same) (λ a b p. round_too g f (sym same) b a (sym p))
      (declared_actions f) (declared_actions g) (actions_same f g same) d least in
      let moved : at_alone (at_of given.uid) ≡ at_alone x.name =
      ap at_alone at ∙ ap (λ (z : DeclaredAction). z.name) seen in (
        error.CycleInActionHierarchy (record { uid = uid_too given.uid x.name moved }),
        (x, (_, refl, refl), lowest),
      )

  kind_seen : (k l : EntityTypeKind RawName) → bare_kind k ≡ bare_kind l → is_enum k ≡ is_enum l
  kind_seen k l e = sym (enum_bare k) ∙ (ap is_enum e ∙ enum_bare l)
    where
      enum_bare : (k : EntityTypeKind RawName) → is_enum (bare_kind k) ≡ is_enum k
      enum_bare (Standard s) = refl
      enum_bare (Enum cs) = refl

  above_too : (f g : Frag) → DeclareTheSame f g → (d e p q : DeclaredEntity) → entity_alone d ≡ entity_alone e
      → entity_alone p ≡ entity_alone q → IsEnumAbove (tests f) (declared_entities f) d p
      → IsEnumAbove (tests g) (declared_entities g) e q
  above_too f g same d e p q under over (enum, up) = (
    sym (kind_seen p.ty.kind q.ty.kind (ap (λ (z : DeclaredEntity). z.ty.kind) over)) ∙ enum,
    subst (λ (n : Path). IsAncestor (tests g) (declared_entities g) n (entity_name q))
        (ap (λ (z : DeclaredEntity). entity_name z) under)
        (subst (λ (n : Path). IsAncestor (tests g) (declared_entities g) (entity_name d) n)
        (ap (λ (z : DeclaredEntity). entity_name z) over)
        (ancestor_too f g table same (entity_name d) (entity_name p) up)),
  )

  under_too : (f g : Frag) → DeclareTheSame f g → (d e : DeclaredEntity) → entity_alone d ≡ entity_alone e
      → IsExternalUnderEnum (tests f) (declared_entities f) d → IsExternalUnderEnum (tests g) (declared_entities g) e
  under_too f g same d e seen (external, (p, cp, above)) =
      let (q, cq, over) = matched entity_alone (declared_entities f) (declared_entities g) (entities_same f g same) p
      cp in (
        ap (λ (z : DeclaredEntity). z.ty.external) (sym seen) ∙ external,
        (q, cq, above_too f g same d e p q seen over above),
      )

  pub enum_follows : (f g : Frag) → DeclareTheSame f g
      → Follows (HasExternalUnderEnum (tests f) (declared_entities f))
      (HasExternalUnderEnum (tests g) (declared_entities g))
  enum_follows f g same e (d, p, (given, is, named, above, bare), least, lowest) =
      let order : InternalName → InternalName → Bool = λ a b. is_lt (names_in_order a b) in
      let (x, first, seen) = least_too entity_alone order (λ c. c.name)
      (λ a b c k m n. λ i. is_lt (names_in_order (m i).name (n i).name))
      (IsExternalUnderEnum (tests f) (declared_entities f)) (IsExternalUnderEnum (tests g) (declared_entities g))
      (under_too f g same) (λ a b m. under_too g f (sym same) b a (sym m))
      (declared_entities f) (declared_entities g) (entities_same f g same) d least in
      let (y, second, over) = least_too entity_alone order (λ c. c.name)
      (λ a b c k m n. λ i. is_lt (names_in_order (m i).name (n i).name))
      (IsEnumAbove (tests f) (declared_entities f) d) (IsEnumAbove (tests g) (declared_entities g) x)
      (λ a b m. above_too f g same d x a b seen m) (λ a b m. above_too g f (sym same) x d b a (sym seen) (sym m))
      (declared_entities f) (declared_entities g) (entities_same f g same) p lowest in
      let moved : bare_internal given.external_type.name ≡ bare_internal x.name =
      ap bare_internal named ∙ ap (λ (z : DeclaredEntity). z.name) seen in (
        error.ExternalWithEnumAncestor
            (record { external_type = name_too given.external_type x.name moved; enum_type = given.enum_type }),
        (x, y, (_, refl, refl, above ∙ ap (λ (z : DeclaredEntity). entity_name z) over, bare), first, second),
      )
