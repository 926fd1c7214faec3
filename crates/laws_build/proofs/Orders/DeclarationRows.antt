-- The rows on what is declared twice hold together of fragments that declare the same.
use Rattle.std.proofs.Common.{◌≡◌, Bool, true, false, cond, [], ◌∷◌, ◌++◌, map, codes, Option, Some, None, refl, sym}
use Rattle.std.proofs.Common.{ap, ◌∙◌, subst}
use Rattle.std.specs.List.{flat_map}
use Rattle.std.specs.Str.{bytes_eq}
use Rattle.std.proofs.lemmas.List.{map-append}
use Rattle.cedar_identifiers.specs.Names.{components_of, has_cedar}
use Rattle.cedar_identifiers.specs.declared.id.Id.{Id}
use Rattle.cedar_identifiers.specs.declared.internal_name.InternalName.{InternalName}
use Rattle.cedar_identifiers.specs.declared.name.Name.{Name}
use Rattle.cedar_identifiers.specs.declared.raw_name.RawName.{RawName}
use Rattle.cedar_data.specs.declared.loc.Loc.{Loc}
use Rattle.cedar_names.specs.Orders.{ids_of, names_in_order}
use Rattle.cedar_names.specs.declared.entity_uid.EntityUID.{EntityUID}
use Rattle.cedar_names.specs.declared.extension_table.ExtensionTable.{ExtensionTable}
use Rattle.schema_json.specs.Actions.{action_name}
use Rattle.schema_json_walk.specs.Parts.{Part, type_reference, context_reference, parent, principal, resource}
use Rattle.schema_json_walk.specs.Parts.{action_parent, extension_type, open_record, action_attributes}
use Rattle.schema_json_walk.specs.Parts.{external_not_bare}
use Rattle.schema_resolve_definitions.specs.Declarations.{action_type, declared}
use Rattle.schema_resolve_definitions.specs.Defined.{is_hidden}
use Rattle.schema_resolve_definitions.specs.Tests.{Tests, tests_of}
use Rattle.schema_build_errors.specs.declared.schema_error.SchemaError.TheVariants as error
use Rattle.laws_translate.specs.Bare.{bare_internal}
use Rattle.schema_build_checks.specs.DeclaredAt.{ActionAt, at_of, actions_at_in_order, declared_at, called_action}
use Rattle.schema_build_checks.specs.DeclaredAt.{called_actions, hiding_common, hiding_entity, hiding_types_in}
use Rattle.schema_build_checks.specs.DeclaredAt.{hiding_types, hiding_action, hiding_actions_in, hiding_actions}
use Rattle.schema_build_checks.specs.DeclaredTwice.{IsBasenameOf, IsPlainAction, ActionTypeDeclared, TypeHides}
use Rattle.schema_build_checks.specs.DeclaredTwice.{ActionHides}
use Rattle.schema_build_checks.specs.Refusing.{IsAboutFirst}
use Rattle.schema_build_checks.specs.WalkFaults.{unknown_extension, unsupported, NamesExtension, NamesFeature}
use Rattle.schema_build_checks.specs.WalkFaults.{HasUnknownExtension, HasUnsupported}
use Rattle.laws_build.specs.Orders.Alike.{bare_space, declared_alone, DeclareTheSame}
use Rattle.laws_build.proofs.Orders.Declaring.{Frag, Block, bare_block, at_alone, action_type_seen, own_same}
use Rattle.laws_build.proofs.Orders.Entries.{common_bare, entity_bare, action_bare}
use Rattle.laws_build.proofs.Orders.Rows.{Follows, first_least_too}
use Rattle.laws_build.proofs.Orders.Seen.{flat_seen}
use Rattle.laws_build.proofs.Orders.Walked.{bare_part, walked_same}

declared_seen : (ns : Option Name) (id : Id) (loc : Option Loc)
    → declared_at (bare_space ns) id None ≡ bare_internal (declared_at ns id loc)
declared_seen None id loc = refl
declared_seen (Some n) id loc = refl

where_seen : {A B : Type 0} (k : A → B) (b : Bool) (x : A) (y : B) → y ≡ k x
    → cond b (y ∷ []) [] ≡ map k (cond b (x ∷ []) [])
where_seen k true x y e = ap (λ z. z ∷ []) e
where_seen k false x y e = refl

called_alone : (f : Frag) → called_actions (declared_alone f) ≡ map bare_internal (called_actions f)
called_alone f = flat_seen bare_block bare_internal
    (λ (e : Block). flat_map (called_action e.0) e.1.entity_types)
    (λ (e : Block). flat_map (called_action e.0) e.1.entity_types)
    (λ e. flat_seen entity_bare bare_internal (called_action (bare_space e.0)) (called_action e.0)
    (λ x. where_seen bare_internal (bytes_eq x.0.id.text (codes "Action")) (declared_at e.0 x.0.id x.1.loc)
    (declared_at (bare_space e.0) x.0.id None) (declared_seen e.0 x.0.id x.1.loc)) e.1.entity_types) f.0

pub action_type_follows : (f g : Frag) → DeclareTheSame f g → Follows (ActionTypeDeclared f) (ActionTypeDeclared g)
action_type_follows f g same (error.ActionEntityTypeDeclared e) (name, first, loc) =
    let seen = sym (called_alone f) ∙ (ap called_actions same ∙ called_alone g) in
    let (y, least, also) = first_least_too bare_internal names_in_order names_in_order (λ a b. refl)
    (called_actions f) (called_actions g) seen name first in
    (error.ActionEntityTypeDeclared (record { loc = y.loc }), (y, least, refl))
action_type_follows f g same _ h = absurd h

hiding_alone : (t : Tests) (e : Block) → hiding_types_in t (bare_block e) ≡ map bare_internal (hiding_types_in t e)
hiding_alone t (None, n) = refl
hiding_alone t (Some s, n) =
    (λ i. commons i ++ entities i)
    ∙ sym (map-append bare_internal (flat_map (hiding_common t (Some s)) n.common_types)
    (flat_map (hiding_entity t (Some s)) n.entity_types))
  where
    commons : flat_map (hiding_common t (bare_space (Some s))) (bare_block (Some s, n)).1.common_types
        ≡ map bare_internal (flat_map (hiding_common t (Some s)) n.common_types)
    commons = flat_seen common_bare bare_internal (hiding_common t (bare_space (Some s))) (hiding_common t (Some s))
        (λ x. where_seen bare_internal (is_hidden t x.0.id.id.text) (declared_at (Some s) x.0.id.id x.1.loc)
        (declared_at (bare_space (Some s)) x.0.id.id None) (declared_seen (Some s) x.0.id.id x.1.loc)) n.common_types

    entities : flat_map (hiding_entity t (bare_space (Some s))) (bare_block (Some s, n)).1.entity_types
        ≡ map bare_internal (flat_map (hiding_entity t (Some s)) n.entity_types)
    entities = flat_seen entity_bare bare_internal (hiding_entity t (bare_space (Some s))) (hiding_entity t (Some s))
        (λ x. where_seen bare_internal (is_hidden t x.0.id.text) (declared_at (Some s) x.0.id x.1.loc)
        (declared_at (bare_space (Some s)) x.0.id None) (declared_seen (Some s) x.0.id x.1.loc)) n.entity_types

types_alone : (t : Tests) (f : Frag) → hiding_types t (declared_alone f) ≡ map bare_internal (hiding_types t f)
types_alone t f = flat_seen bare_block bare_internal (hiding_types_in t) (hiding_types_in t) (hiding_alone t) f.0

basename_too : (x y word : InternalName) → bare_internal x ≡ bare_internal y → IsBasenameOf x word → IsBasenameOf y word
basename_too x y word e h = record {
  namespace = h.namespace;
  last = ap ids_of (sym e) ∙ h.last;
  alone = h.alone;
  placeless = h.placeless;
}

pub type_hides_follows : (f g : Frag) → DeclareTheSame f g → Follows (TypeHides f) (TypeHides g)
type_hides_follows f g same (error.TypeShadowing e) (first, base) =
    let tf = tests_of (declared f) in
    let tg = tests_of (declared g) in
    let seen : map bare_internal (hiding_types tf f) ≡ map bare_internal (hiding_types tg g) =
    sym (types_alone tf f) ∙ ((λ i. hiding_types (own_same f g same i) (same i)) ∙ types_alone tg g) in
    let (y, least, also) = first_least_too bare_internal names_in_order names_in_order (λ a b. refl)
    (hiding_types tf f) (hiding_types tg g) seen e.shadowing_def first in (
      error.TypeShadowing (record { shadowed_def = e.shadowed_def; shadowing_def = y }),
      (least, basename_too e.shadowing_def y e.shadowed_def also base),
    )
type_hides_follows f g same _ h = absurd h

hidden_alone : (t : Tests) (e : Block) → hiding_actions_in t (bare_block e) ≡ map at_alone (hiding_actions_in t e)
hidden_alone t (None, n) = refl
hidden_alone t (Some s, n) = flat_seen action_bare at_alone (hiding_action t (bare_space (Some s)))
    (hiding_action t (Some s))
    (λ x. where_seen at_alone (t.is_action (components_of action_name, x.0))
    (record { ty = action_type (Some s); id = x.0; loc = x.1.loc })
    (record { ty = action_type (bare_space (Some s)); id = x.0; loc = None })
    (λ i. record { ty = action_type_seen (Some s) i; id = x.0; loc = None })) n.actions

actions_hidden_alone : (t : Tests) (f : Frag) → hiding_actions t (declared_alone f) ≡ map at_alone (hiding_actions t f)
actions_hidden_alone t f = flat_seen bare_block at_alone (hiding_actions_in t) (hiding_actions_in t) (hidden_alone t)
    f.0

-- the action at another place, as an entity
abbrev pub uid_too : (uid : EntityUID) (a : ActionAt) → at_alone (at_of uid) ≡ at_alone a → EntityUID
uid_too uid a e = record {
  ty = record {
    name = a.ty;
    unreserved = ap (λ (x : ActionAt). has_cedar (components_of x.ty)) (sym e)
        ∙ uid.ty.unreserved;
  };
  eid = record { 0 = a.id };
  loc = a.loc;
}

pub action_hides_follows : (f g : Frag) → DeclareTheSame f g → Follows (ActionHides f) (ActionHides g)
action_hides_follows f g same (error.ActionShadowing e) (first, plain) =
    let tf = tests_of (declared f) in
    let tg = tests_of (declared g) in
    let seen : map at_alone (hiding_actions tf f) ≡ map at_alone (hiding_actions tg g) =
    sym (actions_hidden_alone tf f)
    ∙ ((λ i. hiding_actions (own_same f g same i) (same i)) ∙ actions_hidden_alone tg g) in
    let (y, least, also) = first_least_too at_alone actions_at_in_order actions_at_in_order (λ a b. refl)
    (hiding_actions tf f) (hiding_actions tg g) seen (at_of e.shadowing_def) first in (
      error.ActionShadowing (record { shadowed_def = e.shadowed_def; shadowing_def = uid_too e.shadowing_def y also }),
      (least, subst (λ id. IsPlainAction id e.shadowed_def) (ap (λ (x : ActionAt). x.id) also) plain),
    )
action_hides_follows f g same _ h = absurd h

-- what no schema has is without places
extension_seen : (table : ExtensionTable) (p : Part RawName)
    → unknown_extension table (bare_part p) ≡ unknown_extension table p
extension_seen table (type_reference kind name) = refl
extension_seen table (context_reference name) = refl
extension_seen table (parent name) = refl
extension_seen table (principal name) = refl
extension_seen table (resource name) = refl
extension_seen table (action_parent id ty) = refl
extension_seen table (extension_type id) = refl
extension_seen table open_record = refl
extension_seen table (action_attributes names) = refl
extension_seen table external_not_bare = refl

unsupported_seen : (p : Part RawName) → unsupported (bare_part p) ≡ unsupported p
unsupported_seen (type_reference kind name) = refl
unsupported_seen (context_reference name) = refl
unsupported_seen (parent name) = refl
unsupported_seen (principal name) = refl
unsupported_seen (resource name) = refl
unsupported_seen (action_parent id ty) = refl
unsupported_seen (extension_type id) = refl
unsupported_seen open_record = refl
unsupported_seen (action_attributes names) = refl
unsupported_seen external_not_bare = refl

pub extension_follows : (f g : Frag) (table : ExtensionTable) → DeclareTheSame f g
    → Follows (HasUnknownExtension table f) (HasUnknownExtension table g)
extension_follows f g table same e h = (
  e,
  subst (λ l. IsAboutFirst NamesExtension l e)
      (walked_same (λ ns part. unknown_extension table part) (λ ns p. extension_seen table p) f g same) h,
)

pub unsupported_follows : (f g : Frag) → DeclareTheSame f g → Follows (HasUnsupported f) (HasUnsupported g)
unsupported_follows f g same e h = (
  e,
  subst (λ l. IsAboutFirst NamesFeature l e)
      (walked_same (λ ns part. unsupported part) (λ ns p. unsupported_seen p) f g same) h,
)
