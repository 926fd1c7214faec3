-- A printable fragment is written as groups of declarations.
use Rattle.std.proofs.Common.{◌≡◌, ℕ, Bool, true, false, List, [], ◌∷◌, ◌++◌, map, Option, Some, None, option_map}
use Rattle.std.proofs.Common.{refl, sym, subst}
use Rattle.std.specs.List.{AllZip, AllByRecursion}
use Rattle.std.proofs.lemmas.Bool.{not-false}
use Rattle.cedar_data.proofs.Every.{All-weaker}
use Rattle.cedar_identifiers.specs.declared.raw_name.RawName.{RawName}
use Rattle.cedar_identifiers.specs.declared.unreserved_id.UnreservedId.{UnreservedId}
use Rattle.cedar_names.specs.declared.extension_table.ExtensionTable.{ExtensionTable}
use Rattle.schema_syntax_tree.specs.declared.pr.PR.TheVariants.{Principal, Resource}
use Rattle.schema_json.specs.declared.action_type.ActionType.{ActionType}
use Rattle.schema_json.specs.declared.action_type.ApplySpec.{ApplySpec}
use Rattle.schema_json.specs.declared.common_type.CommonType.{CommonType}
use Rattle.schema_json.specs.declared.common_type.CommonTypeId.{CommonTypeId}
use Rattle.schema_json.specs.declared.entity_type.EntityType.{EntityType}
use Rattle.schema_json.specs.declared.entity_type.EntityTypeKind.{EntityTypeKind}
use Rattle.schema_json.specs.declared.entity_type.EntityTypeKind.TheVariants.{Standard, Enum}
use Rattle.schema_json.specs.declared.fragment.Fragment.{Fragment}
use Rattle.schema_json.specs.declared.types.Type.{«Type», Type-F, out-Type}
use Rattle.schema_json.specs.AsWritten.{as_written}
use Rattle.laws_written.specs.Written.{WrittenType, WrittenRef, WrittenMember, types, context_path}
use Rattle.laws_written.specs.Written.{context_record, WrittenDecl, entity, enum, external_entity, action}
use Rattle.laws_written.specs.Written.{external_action, common, WrittenDeclared}
use Rattle.laws_written.specs.PrintedDecls.{Group}
use Rattle.schema_print_text.specs.PrintedTypes.{printed_name}
use Rattle.schema_print.specs.Collisions.{is_record_type, kind_is_shapeless, is_shapeless}
use Rattle.schema_print.specs.FragmentGroups.{written_name, ContextAs, TargetsAs, KindAs, EntityAs, CommonAs, SpecAs}
use Rattle.schema_print.specs.FragmentGroups.{AppliedAs, ActionAs, AreItemsOf, IsGroupOf, AreGroupsOf}
use Rattle.schema_print.specs.Printable.{has_printable_context, IsPrintable}
use Rattle.schema_print.specs.PrintedFragments.{paths_of_names, printed_parents}
use Rattle.laws_print.specs.Printed.CedarForm.{Block}
use Rattle.laws_print.specs.Printed.Textual.{components_written}
use Rattle.laws_print.proofs.Printable.Blocks.{IsPrintableBlock, printable_blocks}
use Rattle.laws_print.proofs.Printable.TextualItems.{record_or_common}
use Rattle.laws_print.proofs.Printable.RecordTypes.{Outer, written, written_as_record, written_as_name}

abbrev N : Type 0
N = RawName

-- a partner for each item
zipped : {A B : Type 0} (R : A → B → Type 0) (xs : List A) → AllByRecursion (λ x. (y : B) × R x y) xs
    → (ys : List B) × AllZip R xs ys
zipped R [] h = ([], tt)
zipped R (x ∷ xs) (h, hs) =
    let more = zipped R xs hs in
    (h.0 ∷ more.0, (h.1, more.1))

kind_written : (x : Bool) (k : EntityTypeKind N) (name : List ℕ) → kind_is_shapeless x k ≡ false
    → (d : WrittenDecl) × KindAs components_written x k name d
kind_written true (Standard e) name h =
    (external_entity (name ∷ []) (paths_of_names components_written e.member_of_types), refl)
kind_written true (Enum choices) name h = (external_entity (name ∷ []) [], refl)
kind_written false (Enum choices) name h = (enum (name ∷ []) (map (λ c. c.0) choices), refl)
kind_written false (Standard e) name h =
    let shape = written_as_record e.shape.0 (not-false (is_record_type e.shape.0) h) in (
      entity (name ∷ []) (paths_of_names components_written e.member_of_types) shape.0 (option_map written e.tags),
      (shape.0, shape.1, refl),
    )

entity_written : (e : UnreservedId × EntityType N) → is_shapeless e.1 ≡ false
    → (d : WrittenDeclared) × EntityAs components_written e d
entity_written e h =
    let kind = kind_written e.1.external e.1.kind e.0.id.text h in
    (record { notes = e.1.annotations.0; decl = kind.0 }, (refl, kind.1))

common_written : (e : CommonTypeId × CommonType N) → (d : WrittenDeclared) × CommonAs components_written e d
common_written e =
    (record { notes = e.1.annotations.0; decl = common e.0.id.id.text (written e.1.ty) }, (refl, refl))

context_written : (s : «Type» N) (o : Outer) → out-Type N s ≡ o → record_or_common s o ≡ true
    → (m : WrittenMember) × ContextAs (written s) m
context_written s (Type-F.Variant v loc) e test =
    let inside = written_as_record s test in
    (context_record inside.0, subst (λ t. ContextAs t (context_record inside.0)) (sym inside.1) refl)
context_written s (Type-F.CommonTypeRef name loc) e test =
    let names = printed_name (components_written name) in
    (context_path names, subst (λ t. ContextAs t (context_path names)) (sym (written_as_name s name loc e)) refl)

targets_written : (ps rs : List (List (List ℕ))) (t : WrittenType) (m : WrittenMember) → ContextAs t m
    → (ms : Option (List WrittenMember)) × TargetsAs ps rs t ms
targets_written [] rs t m h = (None, refl)
targets_written (p ∷ ps) [] t m h = (None, refl)
targets_written (p ∷ ps) (r ∷ rs) t m h =
    (Some (types Principal (p ∷ ps) ∷ types Resource (r ∷ rs) ∷ m ∷ []), (m, h, refl))

spec_written : (spec : Option (ApplySpec N)) → has_printable_context spec ≡ true
    → (ms : Option (List WrittenMember)) × SpecAs components_written spec ms
spec_written None h = (None, refl)
spec_written (Some spec) h =
    let context = spec.context.0 in
    let member = context_written context (out-Type N context) refl h in
    targets_written (paths_of_names components_written spec.principal_types)
    (paths_of_names components_written spec.resource_types) (written context) member.0 member.1

applied_written : (x : Bool) (spec : Option (ApplySpec N)) (parents : List WrittenRef) (id : List ℕ)
    → has_printable_context spec ≡ true → (d : WrittenDecl) × AppliedAs components_written x spec parents id d
applied_written true spec parents id h = (external_action (id ∷ []) parents, refl)
applied_written false spec parents id h =
    let members = spec_written spec h in
    (action (id ∷ []) parents members.0, (members.0, members.1, refl))

action_written : (e : List ℕ × ActionType N as_written) → has_printable_context e.1.applies_to ≡ true
    → (d : WrittenDeclared) × ActionAs components_written e d
action_written e h =
    let applied = applied_written e.1.external e.1.applies_to
    (printed_parents components_written e.1.member_of) e.0 h in
    (record { notes = e.1.annotations.0; decl = applied.0 }, (refl, applied.1))

each_common : (es : List (CommonTypeId × CommonType N))
    → AllByRecursion (λ e. (d : WrittenDeclared) × CommonAs components_written e d) es
each_common [] = tt
each_common (e ∷ es) = (common_written e, each_common es)

items_written : (e : Block) → IsPrintableBlock e → (ds : List WrittenDeclared) × AreItemsOf components_written e.1 ds
items_written e p =
    let commons = zipped (CommonAs components_written) e.1.common_types (each_common e.1.common_types) in
    let entities = zipped (EntityAs components_written) e.1.entity_types
    (All-weaker (λ d. is_shapeless d.1 ≡ false) (λ d. (w : WrittenDeclared) × EntityAs components_written d w)
    entity_written e.1.entity_types p.shaped) in
    let actions = zipped (ActionAs components_written) e.1.actions
    (All-weaker (λ a. has_printable_context a.1.applies_to ≡ true)
    (λ a. (w : WrittenDeclared) × ActionAs components_written a w) action_written e.1.actions p.contexts) in (
      commons.0 ++ (entities.0 ++ actions.0),
      record {
        commons = commons.0;
        entities = entities.0;
        actions = actions.0;
        of_commons = commons.1;
        of_entities = entities.1;
        of_actions = actions.1;
        all = refl;
      },
    )

group_written : (e : Block) → IsPrintableBlock e → (g : Group) × IsGroupOf components_written e g
group_written e p =
    let items = items_written e p in (
      record { notes = e.1.annotations.0; name = written_name e.0; decls = items.0 },
      record { notes = refl; name = refl; items = items.1 },
    )

pub groups_written : (f : Fragment N as_written) (table : ExtensionTable) → IsPrintable f table
    → (groups : List Group) × AreGroupsOf components_written f groups
groups_written f table p =
    zipped (IsGroupOf components_written) f.0
    (All-weaker IsPrintableBlock (λ e. (g : Group) × IsGroupOf components_written e g) group_written f.0
    (printable_blocks f table p))
