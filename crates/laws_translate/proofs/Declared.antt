-- A declaration of a tree that says what is written becomes an entity type, an action or a common type that says it.
use Rattle.std.proofs.Common.{◌≡◌, ℕ, true, false, List, [], ◌∷◌, map, Option, Some, None, option_map, unwrap_or}
use Rattle.std.proofs.Common.{filter_map, refl, sym, ap, ◌∙◌, subst, if◌then◌else◌}
use Rattle.std.specs.List.{AllZip, AllByRecursion, cons_option}
use Rattle.std.specs.Option.{option_or}
use Rattle.cedar_data.specs.Maps.{last_at}
use Rattle.cedar_data.specs.Span.{Span}
use Rattle.cedar_data.specs.declared.node.Node.{Node}
use Rattle.cedar_identifiers.specs.Names.{components_of}
use Rattle.cedar_identifiers.specs.declared.annotations.Annotations.{Annotations}
use Rattle.cedar_identifiers.specs.declared.raw_name.RawName.{RawName}
use Rattle.schema_syntax_tree.specs.declared.annotated.Annotated.{Annotated}
use Rattle.schema_syntax_tree.specs.declared.path.Path.{Path}
use Rattle.schema_syntax_tree.specs.declared.pr.PR.{PR}
use Rattle.schema_syntax_tree.specs.declared.pr.PR.TheVariants.{Principal, Resource}
use Rattle.schema_syntax_tree.specs.declared.qual_name.QualName.{QualName}
use Rattle.schema_syntax_tree.specs.declared.app_decl.AppDecl.{AppDecl}
use Rattle.schema_syntax_tree.specs.declared.app_decl.AppDecl.TheVariants as app
use Rattle.schema_syntax_tree.specs.declared.either.Either.TheVariants.{Left, Right}
use Rattle.schema_syntax_tree.specs.declared.declaration.Declaration.TheVariants as declaration
use Rattle.schema_syntax_tree.specs.declared.entity_decl.EntityDecl.{EntityDecl}
use Rattle.schema_syntax_tree.specs.declared.entity_decl.EntityDecl.TheVariants as tree
use Rattle.schema_syntax_tree.specs.declared.action_decl.ActionDecl.{ActionDecl}
use Rattle.schema_syntax_tree.specs.declared.action_decl.ActionDecl.TheVariants as tree_action
use Rattle.schema_syntax_tree.specs.declared.type_decl.TypeDecl.{TypeDecl}
use Rattle.schema_syntax_tree.specs.declared.types.Type.{«Type»}
use Rattle.schema_syntax_tree.specs.declared.types.AttrDecl.{AttrDecl}
use Rattle.schema_json.specs.declared.types.Type.{«Type» as Shape}
use Rattle.schema_json.specs.declared.types.Type.TheVariants as shape
use Rattle.schema_json.specs.declared.action_type.ApplySpec.{ApplySpec}
use Rattle.schema_json.specs.declared.common_type.CommonType.{CommonType}
use Rattle.schema_convert_types.specs.Names.{internal_name_of, raw_name_of}
use Rattle.schema_convert_types.specs.Types.{type_of, attribute_of, record_of_attributes}
use Rattle.schema_convert_fragments.specs.Declarations.{raw_names, nothing, choices_of, tags_of, entity_kind_of}
use Rattle.schema_convert_fragments.specs.Declarations.{is_external, entity_type_of, with_types, with_member}
use Rattle.schema_convert_fragments.specs.Declarations.{with_members}
use Rattle.schema_convert_fragments.specs.Declarations.{applied_to_nothing, apply_spec_of, reference_of, references_of}
use Rattle.schema_convert_fragments.specs.Declarations.{action_type_of, member_types}
use Rattle.schema_convert_faults.specs.Members.{is_same_role}
use Rattle.laws_written.specs.Written.{WrittenType, WrittenAttributes, no_more, rec, WrittenRef, WrittenMember}
use Rattle.laws_written.specs.Written.{types, context_path, context_record, WrittenDecl, entity, enum}
use Rattle.laws_written.specs.Written.{external_entity, action, external_action, common, WrittenDeclared}
use Rattle.laws_written.specs.PrintedDecls.{IsSome}
use Rattle.laws_written.specs.Shows.{SaysPath, SaysOptionalPath, SaysRef, SaysOptional, SaysTags, SaysShape}
use Rattle.laws_written.specs.Shows.{SaysChoice, SaysMember, SaysApplies, SaysDecl}
use Rattle.laws_translate.specs.Named.{AreNamedAttributes, AreNamedTags, IsNamedRole, IsNamedRef, IsNamedMember}
use Rattle.laws_translate.specs.Named.{AreNamedMembers, IsNamedDecl}
use Rattle.laws_translate.specs.TypesSay.{TypeSays}
use Rattle.laws_translate.specs.DeclarationsSay.{written_paths, TagsSay, KindSays, EntitySays, CommonIs, CommonSays}
use Rattle.laws_translate.specs.DeclarationsSay.{role_and_types, ContextOr, SpecSays, members_said, written_ref}
use Rattle.laws_translate.specs.DeclarationsSay.{ParentsSay, AppliesSay, ActionSays}
use Rattle.laws_translate.proofs.Types.{named, record_says, type_says, attributes_say}

path_says : (p : Path) (names : List (List ℕ)) → SaysPath p names → IsSome names
    → components_of (internal_name_of p) ≡ names
path_says p names e h = named p.ids p.loc (subst IsSome (sym e) h) ∙ e

paths_say : (paths : List Path) (ps : List (List (List ℕ))) → AllZip SaysPath paths ps → AllByRecursion IsSome ps
    → written_paths (raw_names paths) ≡ ps
paths_say [] [] e h = refl
paths_say [] (p ∷ ps) e h = absurd e
paths_say (x ∷ xs) [] e h = absurd e
paths_say (x ∷ xs) (p ∷ ps) e h =
    let first = path_says x p e.0 h.0 in
    let others = paths_say xs ps e.1 h.1 in
    λ i. first i ∷ others i

shape_says : (n : Node (List (Node (Annotated AttrDecl)))) (xs : WrittenAttributes) → SaysShape n xs
    → AreNamedAttributes xs → TypeSays (record_of_attributes n) (rec xs)
shape_says n xs k h = record_says (map attribute_of n.node) xs n.loc (attributes_say k h)

nothing_says : TypeSays nothing.0 (rec no_more)
nothing_says = record_says [] no_more None (λ name. refl)

tags_say : (tags : Option (Node «Type»)) (t : Option WrittenType) → SaysTags tags t → AreNamedTags t
    → TagsSay (tags_of tags) t
tags_say None None k h = tt
tags_say None (Some t) k h = k
tags_say (Some n) None k h = k
tags_say (Some n) (Some t) k h = type_says k h n.loc

choices_say : (choices : List (Node (List ℕ))) (cs : List (List ℕ)) → AllZip SaysChoice choices cs
    → map (λ c. c.0) (choices_of choices) ≡ cs
choices_say [] [] e = refl
choices_say [] (c ∷ cs) e = absurd e
choices_say (x ∷ xs) [] e = absurd e
choices_say (x ∷ xs) (c ∷ cs) e = let others = choices_say xs cs e.1 in λ i. e.0 i ∷ others i

kind_says : (d : EntityDecl) (w : WrittenDecl) → SaysDecl (declaration.Entity d) w → IsNamedDecl w
    → KindSays (is_external d) (entity_kind_of d) w
kind_says (tree.Standard d) (entity names ps xs tags) k h =
    (refl, paths_say d.member_of_types ps k.1 h.0, shape_says d.attrs xs k.2 h.1, tags_say d.tags tags k.3 h.2)
kind_says (tree.External d) (external_entity names ps) k h =
    (refl, paths_say d.member_of_types ps k.1 h, nothing_says, refl)
kind_says (tree.Enum d) (enum names cs) k h = (refl, choices_say d.choices cs k.1)
kind_says (tree.Standard d) (enum names cs) k h = k
kind_says (tree.Standard d) (external_entity names ps) k h = absurd k
kind_says (tree.Standard d) (action names rs ms) k h = k
kind_says (tree.Standard d) (external_action names rs) k h = k
kind_says (tree.Standard d) (common n t) k h = k
kind_says (tree.External d) (entity names ps xs tags) k h = absurd k
kind_says (tree.External d) (enum names cs) k h = k
kind_says (tree.External d) (action names rs ms) k h = k
kind_says (tree.External d) (external_action names rs) k h = k
kind_says (tree.External d) (common n t) k h = k
kind_says (tree.Enum d) (entity names ps xs tags) k h = k
kind_says (tree.Enum d) (external_entity names ps) k h = k
kind_says (tree.Enum d) (action names rs ms) k h = k
kind_says (tree.Enum d) (external_action names rs) k h = k
kind_says (tree.Enum d) (common n t) k h = k

pub entity_says : (d : EntityDecl) (notes : Annotations) (loc : Option Span) (w : WrittenDeclared)
    → SaysDecl (declaration.Entity d) w.decl → notes.0 ≡ w.notes
    → IsNamedDecl w.decl → EntitySays (entity_type_of d notes loc) w
entity_says d notes loc w k e h = (e, kind_says d w.decl k h)

common_is : (d : TypeDecl) (w : WrittenDecl) → SaysDecl (declaration.Common d) w → IsNamedDecl w
    → CommonIs (type_of d.def) w
common_is d (common n t) k h = type_says k.1 h d.def.loc
common_is d (entity names ps xs tags) k h = k
common_is d (enum names cs) k h = k
common_is d (external_entity names ps) k h = k
common_is d (action names rs ms) k h = k
common_is d (external_action names rs) k h = k

pub common_says : (d : TypeDecl) (notes : Annotations) (loc : Option Span) (w : WrittenDeclared)
    → SaysDecl (declaration.Common d) w.decl → notes.0 ≡ w.notes
    → IsNamedDecl w.decl
    → (let c : CommonType RawName = record { ty = type_of d.def; annotations = notes; loc = loc } in CommonSays c w)
common_says d notes loc w k e h = (e, common_is d w.decl k h)

role_says : (p : Option Path) (t : Option (List (List ℕ))) → SaysOptionalPath p t → IsNamedRole t
    → option_map (λ (n : RawName). components_of n.name) (option_map raw_name_of p) ≡ t
role_says None None k h = refl
role_says None (Some t) k h = absurd k
role_says (Some p) None k h = absurd k
role_says (Some p) (Some t) k h = ap Some (path_says p t k h)

ref_says : (n : Node QualName) (r : WrittenRef) → SaysRef n r → IsNamedRef r → written_ref (reference_of n) ≡ r
ref_says n r k h = let ty = role_says n.node.path r.ty k.0 h in λ i. record { ty = ty i; id = k.1 i }

refs_say : (ns : List (Node QualName)) (rs : List WrittenRef) → AllZip SaysRef ns rs → AllByRecursion IsNamedRef rs
    → map written_ref (map reference_of ns) ≡ rs
refs_say [] [] k h = refl
refs_say [] (r ∷ rs) k h = absurd k
refs_say (n ∷ ns) [] k h = absurd k
refs_say (n ∷ ns) (r ∷ rs) k h =
    let first = ref_says n r k.0 h.0 in
    let others = refs_say ns rs k.1 h.1 in
    λ i. first i ∷ others i

parents_say : (ns : Option (List (Node QualName))) (rs : List WrittenRef) → SaysOptional SaysRef ns rs
    → AllByRecursion IsNamedRef rs → ParentsSay (references_of ns) rs
parents_say None [] k h = tt
parents_say None (r ∷ rs) k h = k
parents_say (Some []) [] k h = k
parents_say (Some []) (r ∷ rs) k h = absurd k
parents_say (Some (n ∷ ns)) [] k h = k
parents_say (Some (n ∷ ns)) (r ∷ rs) k h = refs_say (n ∷ ns) (r ∷ rs) k h

-- the types of a role, of what an action applies to
abbrev types_of_role : PR → ApplySpec RawName → List RawName
types_of_role Principal spec = spec.principal_types
types_of_role Resource spec = spec.resource_types

abbrev said_of : PR → Option (PR × List (List (List ℕ))) → Option (List (List (List ℕ)))
said_of role None = None
said_of role (Some p) = if is_same_role role p.0 then Some p.1 else None

found_say : (found : Option (List Path)) (ps : List (List (List ℕ))) → SaysOptional SaysPath found ps
    → AllByRecursion IsSome ps → written_paths (member_types found) ≡ ps
found_say None [] k h = refl
found_say None (p ∷ ps) k h = absurd k
found_say (Some []) ps k h = absurd (none ps k)
  where
    none : (ps : List (List (List ℕ))) → SaysOptional SaysPath (Some []) ps → ⊥
    none [] k = k
    none (p ∷ ps) k = k
found_say (Some (x ∷ xs)) [] k h = absurd k
found_say (Some (x ∷ xs)) (p ∷ ps) k h = paths_say (x ∷ xs) (p ∷ ps) k h

types_taken : (role kind : PR) (found : Option (List Path)) (ps : List (List (List ℕ))) (spec : ApplySpec RawName)
    → written_paths (member_types found) ≡ ps
    → written_paths (types_of_role role (with_types kind (member_types found) spec)) ≡ unwrap_or
    (said_of role (Some (kind, ps))) (written_paths (types_of_role role spec))
types_taken Principal Principal found ps spec e = e
types_taken Principal Resource found ps spec e = refl
types_taken Resource Principal found ps spec e = refl
types_taken Resource Resource found ps spec e = e

abbrev TypesAfter : PR → AppDecl → WrittenMember → ApplySpec RawName → Type 0
TypesAfter role m w spec = written_paths (types_of_role role (with_member m spec)) ≡ unwrap_or
    (said_of role (role_and_types w)) (written_paths (types_of_role role spec))

types_kept : (role : PR) (c : _) (spec : ApplySpec RawName)
    → written_paths (types_of_role role (with_member (app.Context c) spec)) ≡ written_paths (types_of_role role spec)
types_kept Principal c spec = refl
types_kept Resource c spec = refl

member_types_say : (role : PR) (n : Node AppDecl) (w : WrittenMember) (spec : ApplySpec RawName) → SaysMember n w
    → IsNamedMember w → TypesAfter role n.node w spec
member_types_say role n (types r ps) spec (kind, found, e, same, k) h =
    subst (λ m. TypesAfter role m (types r ps) spec) (sym e)
    (types_taken role kind.node found ps spec (found_say found ps k h)
    ∙ ap (λ q. unwrap_or (said_of role (Some (q, ps))) (written_paths (types_of_role role spec))) same)
member_types_say role n (context_path p) spec (q, e, k) h =
    subst (λ m. TypesAfter role m (context_path p) spec) (sym e) (types_kept role (Left q) spec)
member_types_say role n (context_record xs) spec (r, e, k) h =
    subst (λ m. TypesAfter role m (context_record xs) spec) (sym e) (types_kept role (Right r) spec)

last_or : {X : Type 0} (a b : Option X) (d : X) → unwrap_or (option_or a b) d ≡ unwrap_or a (unwrap_or b d)
last_or None b d = refl
last_or (Some x) b d = refl

last_said : (role : PR) (o : Option (PR × List (List (List ℕ)))) (later : List (PR × List (List (List ℕ))))
    (d : List (List (List ℕ)))
    → unwrap_or (last_at (is_same_role role) (cons_option o later)) d ≡ unwrap_or (last_at (is_same_role role) later)
    (unwrap_or (said_of role o) d)
last_said role None later d = refl
last_said role (Some p) later d = last_or (last_at (is_same_role role) later)
    (if is_same_role role p.0 then Some p.1 else None) d

all_types_say : (role : PR) (ns : List (Node AppDecl)) (ws : List WrittenMember) (spec : ApplySpec RawName)
    → AllZip SaysMember ns ws → AllByRecursion IsNamedMember ws
    → written_paths (types_of_role role (with_members ns spec)) ≡ unwrap_or
    (last_at (is_same_role role) (filter_map role_and_types ws)) (written_paths (types_of_role role spec))
all_types_say role [] [] spec k h = refl
all_types_say role [] (w ∷ ws) spec k h = absurd k
all_types_say role (n ∷ ns) [] spec k h = absurd k
all_types_say role (n ∷ ns) (w ∷ ws) spec k h =
    all_types_say role ns ws (with_member n.node spec) k.1 h.1
    ∙ (ap (unwrap_or (last_at (is_same_role role) (filter_map role_and_types ws)))
    (member_types_say role n w spec k.0 h.0)
    ∙ sym (last_said role (role_and_types w) (filter_map role_and_types ws) (written_paths (types_of_role role spec))))

context_kept : (kind : PR) (ts : List RawName) (spec : ApplySpec RawName)
    → (with_types kind ts spec).context ≡ spec.context
context_kept Principal ts spec = refl
context_kept Resource ts spec = refl

abbrev IsReference : List (List ℕ) → Shape RawName → Type 0
IsReference p s = (name : RawName) × (loc : Option Span) × (s ≡ shape.CommonTypeRef name loc)
    × (components_of name.name ≡ p)

context_says : (Says : Shape RawName → Type 0) (ns : List (Node AppDecl)) (ws : List WrittenMember)
    (spec : ApplySpec RawName) → AllZip SaysMember ns ws → AllByRecursion IsNamedMember ws
    → Says spec.context.0 → ContextOr (Says (with_members ns spec).context.0) (with_members ns spec).context.0 ws
context_says Says [] [] spec k h s = s
context_says Says [] (w ∷ ws) spec k h s = absurd k
context_says Says (n ∷ ns) [] spec k h s = absurd k
context_says Says (n ∷ ns) (types r ps ∷ ws) spec ((kind, found, e, same, k), others) h s =
    context_says Says ns ws (with_member n.node spec) others h.1
    (subst (λ m. Says (with_member m spec).context.0) (sym e)
    (subst (λ c. Says c.0) (sym (context_kept kind.node (member_types found) spec)) s))
context_says Says (n ∷ ns) (context_path p ∷ ws) spec ((q, e, k), others) h s =
    context_says (IsReference p) ns ws (with_member n.node spec) others h.1
    (subst (λ m. IsReference p (with_member m spec).context.0) (sym e)
    (raw_name_of q, q.loc, refl, path_says q p k h.0))
context_says Says (n ∷ ns) (context_record xs ∷ ws) spec ((r, e, k), others) h s =
    context_says (λ t. TypeSays t (rec xs)) ns ws (with_member n.node spec) others h.1
    (subst (λ m. TypeSays (with_member m spec).context.0 (rec xs)) (sym e) (shape_says r xs k h.0))

spec_says : (block : Option (Node (List (Node AppDecl)))) (ms : Option (List WrittenMember)) → SaysApplies block ms
    → AreNamedMembers ms → SpecSays (apply_spec_of block) (members_said ms)
spec_says None None k h = (refl, refl, nothing_says)
spec_says None (Some ms) k h = absurd k
spec_says (Some block) None k h = absurd k
spec_says (Some block) (Some ms) k h = (
  all_types_say Principal block.node ms applied_to_nothing k h,
  all_types_say Resource block.node ms applied_to_nothing k h,
  context_says (λ t. TypeSays t (rec no_more)) block.node ms applied_to_nothing k h nothing_says,
)

pub action_says : (d : ActionDecl) (notes : Annotations) (loc : Option Span) (w : WrittenDeclared)
    → SaysDecl (declaration.Action d) w.decl → notes.0 ≡ w.notes
    → IsNamedDecl w.decl → ActionSays (action_type_of d notes loc) w
action_says (tree_action.Defined d) notes loc w k e h = (e, refl, applied w.decl k h)
  where
    applied : (w : WrittenDecl) → SaysDecl (declaration.Action (tree_action.Defined d)) w → IsNamedDecl w
        → AppliesSay false (Some (apply_spec_of d.app_decls)) (references_of d.parents) w
    applied (action names rs ms) k h = (refl, parents_say d.parents rs k.1 h.1, spec_says d.app_decls ms k.2 h.2)
    applied (entity names ps xs tags) k h = k
    applied (enum names cs) k h = k
    applied (external_entity names ps) k h = k
    applied (external_action names rs) k h = k
    applied (common n t) k h = k
action_says (tree_action.External d) notes loc w k e h = (e, refl, applied w.decl k h)
  where
    applied : (w : WrittenDecl) → SaysDecl (declaration.Action (tree_action.External d)) w → IsNamedDecl w
        → AppliesSay true None (references_of d.parents) w
    applied (external_action names rs) k h = (refl, parents_say d.parents rs k.1 h)
    applied (entity names ps xs tags) k h = k
    applied (enum names cs) k h = k
    applied (external_entity names ps) k h = k
    applied (action names rs ms) k h = k
    applied (common n t) k h = k
