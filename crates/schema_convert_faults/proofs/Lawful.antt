-- Where no fault is found.
use Rattle.std.proofs.Common.{◌≡◌, ◌↔◌, ℕ, Bool, true, false, List, [], ◌∷◌, ◌++◌, Option, Some, None, is_none, is_some}
use Rattle.std.proofs.Common.{find, if◌then◌else◌, refl, sym, ap, ◌∙◌, append_assoc, append-nil, true≢false, filter_map}
use Rattle.std.proofs.Common.{flat_map, option_to_list}
use Rattle.std.specs.List.{AllByRecursion, list_any, cons_option}
use Rattle.std.specs.Option.{option_or}
use mathlib.Core.Logic.Iff.{trans as both_ways}
use Rattle.cedar_data.specs.Span.{Span}
use Rattle.cedar_data.specs.declared.node.Node.{Node}
use Rattle.cedar_identifiers.specs.Words.{is_cedar}
use Rattle.cedar_identifiers.specs.declared.id.Id.{Id}
use Rattle.schema_syntax_tree.specs.declared.action_decl.ActionDecl.TheVariants.{Defined, External}
use Rattle.schema_syntax_tree.specs.declared.annotated.Annotated.{Annotated}
use Rattle.schema_syntax_tree.specs.declared.app_decl.AppDecl.{AppDecl}
use Rattle.schema_syntax_tree.specs.declared.app_decl.AppDecl.TheVariants.{PR, Context}
use Rattle.schema_syntax_tree.specs.declared.declaration.Declaration.{Declaration}
use Rattle.schema_syntax_tree.specs.declared.declaration.Declaration.TheVariants.{Entity, Action, Common}
use Rattle.schema_syntax_tree.specs.declared.namespace.Namespace.{Namespace}
use Rattle.schema_syntax_tree.specs.declared.path.Path.{Path}
use Rattle.schema_syntax_tree.specs.declared.pr.PR.TheVariants.{Principal, Resource}
use Rattle.schema_json.specs.Keywords.{is_keyword_name}
use Rattle.schema_convert_errors.specs.declared.errors.ToJsonSchemaError.{ToJsonSchemaError}
use Rattle.schema_convert_faults.specs.Faults.{is_reserved_path, reserved_namespace, twice, id_twice, action_twice}
use Rattle.schema_convert_faults.specs.Faults.{declared_twice, name_fault, reserved_id, keyword, common_fault}
use Rattle.schema_convert_faults.specs.Faults.{applies_fault, action_fault, first_some, or_else, entity_faults}
use Rattle.schema_convert_faults.specs.Faults.{action_faults, common_faults, declaration_faults, all_declaration_faults}
use Rattle.schema_convert_faults.specs.Faults.{translation_faults}
use Rattle.schema_convert_openings.specs.Joined.{joined}
use Rattle.schema_convert_faults.specs.Members.{says_role, says_same, said_empty, member_fault, fault_after, missing}
use Rattle.schema_convert_faults.specs.Members.{fault_behind, block_fault}
use Rattle.schema_convert_faults.specs.NamesIn.{entity_names_in, action_names_in, common_names_in, id_cmp, action_cmp}
use Rattle.schema_convert_openings.specs.Repeats.{first_repeat}
use Rattle.schema_convert_openings.specs.Repeats.{NoneRepeats}
use Rattle.schema_convert_faults.specs.Translatable.{IsFreeName, IsFilled, IsLawfulBlock, HasLawfulBlock}
use Rattle.schema_convert_faults.specs.Translatable.{AppliesLawfully, IsFreeCommon, IsLawfulNamespace, IsTranslatable}
use Rattle.schema_convert_openings.proofs.FirstRepeat.{none_found, AreNew, new_from, new_everywhere}

some_none : {X T : Type 0} (x : X) → Some x ≡ None → T
some_none x h = absurd (true≢false (ap is_some h))

cons_nil : {X T : Type 0} (x : X) (xs : List X) → x ∷ xs ≡ [] → T
cons_nil x xs h = cc

-- of two, neither is there
or_none : {X : Type 0} (a b : Option X) → option_or a b ≡ None ↔ (a ≡ None) × (b ≡ None)
or_none None b = (λ h. (refl, h), λ h. h.1)
or_none (Some x) b = (λ h. some_none x h, λ h. some_none x h.0)

or_else_nil : (faults others : List ToJsonSchemaError) → or_else faults others ≡ [] ↔ (faults ≡ []) × (others ≡ [])
or_else_nil [] others = (λ h. (refl, h), λ h. h.1)
or_else_nil (f ∷ faults) others = (λ h. cons_nil f faults h, λ h. cons_nil f faults h.0)

append_nil : {X : Type 0} (xs ys : List X) → xs ++ ys ≡ [] ↔ (xs ≡ []) × (ys ≡ [])
append_nil [] ys = (λ h. (refl, h), λ h. h.1)
append_nil (x ∷ xs) ys = (λ h. cons_nil x (xs ++ ys) h, λ h. cons_nil x xs h.0)

cons_option_nil : {X : Type 0} (o : Option X) (xs : List X) → cons_option o xs ≡ [] ↔ (o ≡ None) × (xs ≡ [])
cons_option_nil None xs = (λ h. (refl, h), λ h. h.1)
cons_option_nil (Some x) xs = (λ h. cons_nil x xs h, λ h. some_none x h.0)

to_list_nil : {X : Type 0} (o : Option X) → option_to_list o ≡ [] ↔ o ≡ None
to_list_nil None = (λ h. refl, λ h. refl)
to_list_nil (Some x) = (λ h. cons_nil x [] h, λ h. some_none x h)

-- what holds of each item where a list that is made of them is empty
module _ {A B : Type 0} (P : A → Type 0) where
  filtered_nil : (f : A → Option B) → ((x : A) → f x ≡ None ↔ P x) → (xs : List A)
      → filter_map f xs ≡ [] ↔ AllByRecursion P xs
  filtered_nil f each [] = (λ h. tt, λ h. refl)
  filtered_nil f each (x ∷ xs) = (
    λ h. let both = (cons_option_nil (f x) (filter_map f xs)).0 h in
        ((each x).0 both.0, (filtered_nil f each xs).0 both.1),
    λ h. (cons_option_nil (f x) (filter_map f xs)).1 ((each x).1 h.0, (filtered_nil f each xs).1 h.1),
  )

  flat_nil : (f : A → List B) → ((x : A) → f x ≡ [] ↔ P x) → (xs : List A) → flat_map f xs ≡ [] ↔ AllByRecursion P xs
  flat_nil f each [] = (λ h. tt, λ h. refl)
  flat_nil f each (x ∷ xs) = (
    λ h. let both = (append_nil (f x) (flat_map f xs)).0 h in ((each x).0 both.0, (flat_nil f each xs).0 both.1),
    λ h. (append_nil (f x) (flat_map f xs)).1 ((each x).1 h.0, (flat_nil f each xs).1 h.1),
  )

  first_none : (f : A → Option B) → ((x : A) → f x ≡ None ↔ P x) → (xs : List A)
      → first_some f xs ≡ None ↔ AllByRecursion P xs
  first_none f each [] = (λ h. tt, λ h. refl)
  first_none f each (x ∷ xs) = (
    λ h. let both = (or_none (f x) (first_some f xs)).0 h in ((each x).0 both.0, (first_none f each xs).0 both.1),
    λ h. (or_none (f x) (first_some f xs)).1 ((each x).1 h.0, (first_none f each xs).1 h.1),
  )

-- a fault that a test gives
by_test : {X : Type 0} (b : Bool) (x : X) → (if b then Some x else None) ≡ None ↔ b ≡ false
by_test true x = (λ h. some_none x h, λ h. absurd (true≢false h))
by_test false x = (λ h. refl, λ h. refl)

no_list : {X Y : Type 0} (o : Option X) (y : Y) → (if is_none o then Some y else None) ≡ None ↔ ((o ≡ None) → ⊥)
no_list None y = (λ h. some_none y h, λ h. absurd (h refl))
no_list (Some x) y = (λ h e. some_none x e, λ h. refl)

name_free : (name : Option Path) → reserved_namespace name ≡ None ↔ IsFreeName name
name_free None = (λ h. tt, λ h. refl)
name_free (Some path) = by_test (is_reserved_path path) _

twice_none : {K : Type 0} (text : K → List ℕ) (o : Option (Node K × Node K)) → twice text o ≡ None ↔ o ≡ None
twice_none text None = (λ h. refl, λ h. refl)
twice_none text (Some p) = (λ h. some_none _ h, λ h. some_none p h)

ids_once : (names : List (Node Id)) → id_twice names ≡ None ↔ NoneRepeats id_cmp names
ids_once names = both_ways (twice_none (λ id. id.text) (first_repeat id_cmp names)) (none_found id_cmp names)

actions_once : (names : List (Node (List ℕ))) → action_twice names ≡ None ↔ NoneRepeats action_cmp names
actions_once names = both_ways (twice_none (λ text. text) (first_repeat action_cmp names)) (none_found action_cmp names)

id_free : (id : Node Id) → reserved_id id ≡ None ↔ is_cedar id.node.text ≡ false
id_free id = by_test (is_cedar id.node.text) _

common_free : (id : Node Id) → common_fault id ≡ None ↔ IsFreeCommon id
common_free id = (
  λ h. let both = (or_none (reserved_id id) (keyword id)).0 h in
      ((id_free id).0 both.0, (by_test (is_keyword_name id.node.text) _).0 both.1),
  λ h. (or_none (reserved_id id) (keyword id)).1 ((id_free id).1 h.0, (by_test (is_keyword_name id.node.text) _).1 h.1),
)

filled : (m : AppDecl) (name : Node (List ℕ)) (loc : Option Span) → said_empty name m loc ≡ None ↔ IsFilled m
filled (PR d) name loc = no_list d.entity_tys _
filled (Context c) name loc = (λ h. tt, λ h. refl)

member_fine_by : (name : Node (List ℕ)) (o : Option (Node AppDecl)) (m : Node AppDecl)
    → fault_after name o m ≡ None ↔ (o ≡ None) × IsFilled m.node
member_fine_by name None m = (λ h. (refl, (filled m.node name m.loc).0 h), λ h. (filled m.node name m.loc).1 h.1)
member_fine_by name (Some first) m = (λ h. some_none _ h, λ h. some_none first h.0)

none_missing_by : {X : Type 0} (r p : Bool) (x y : X)
    → (if r then (if p then None else Some x) else Some y) ≡ None ↔ (p ≡ true) × (r ≡ true)
none_missing_by true true x y = (λ h. (refl, refl), λ h. refl)
none_missing_by true false x y = (λ h. some_none x h, λ h. absurd (true≢false (sym h.0)))
none_missing_by false p x y = (λ h. some_none y h, λ h. absurd (true≢false (sym h.1)))

abbrev pub same_node : Node AppDecl → Node AppDecl → Bool
same_node a b = says_same a.node b.node

module _ (name : Node (List ℕ)) where
  behind_fine : (before ms : List (Node AppDecl))
      → fault_behind name before ms ≡ None ↔ AreNew same_node before ms × AllByRecursion (λ m. IsFilled m.node) ms
      × (missing name (before ++ ms) ≡ None)
  behind_fine before [] =
      (λ h. (tt, tt, ap (missing name) (append-nil before) ∙ h), λ h. ap (missing name) (sym (append-nil before)) ∙ h.2)
  behind_fine before (m ∷ ms) =
      let one = member_fine_by name (find (same_node m) before) m in
      let rest = behind_fine (before ++ m ∷ []) ms in
      let split = or_none (member_fault name before m) (fault_behind name (before ++ m ∷ []) ms) in
      let all : (before ++ m ∷ []) ++ ms ≡ before ++ m ∷ ms = append_assoc before (m ∷ []) ms in (
        λ h.
            let both = split.0 h in
            let fine = one.0 both.0 in
            let later = rest.0 both.1 in
            ((fine.0, later.0), (fine.1, later.1), ap (missing name) (sym all) ∙ later.2),
        λ h. split.1 (one.1 (h.0.0, h.1.0), rest.1 (h.0.1, h.1.1, ap (missing name) all ∙ h.2)),
      )

  block_lawful : (members : List (Node AppDecl)) → block_fault name members ≡ None ↔ IsLawfulBlock members
  block_lawful members =
      let roles = none_missing_by (list_any (λ m. says_role Resource m.node) members)
      (list_any (λ m. says_role Principal m.node) members) _ _ in (
        λ h.
            let fine = (behind_fine [] members).0 h in
            let both = roles.0 fine.2 in
            record {
              said_once = new_everywhere same_node members fine.0;
              filled = fine.1;
              principals = both.0;
              resources = both.1;
            },
        λ b. (behind_fine [] members).1
            (new_from same_node [] members b.said_once, b.filled, roles.1 (b.principals, b.resources)),
      )

applied : (block : Option (Node (List (Node AppDecl)))) (names : List (Node (List ℕ)))
    → applies_fault block names ≡ None ↔ HasLawfulBlock block names
applied None names = (λ h. tt, λ h. refl)
applied (Some block) [] = (λ h. tt, λ h. refl)
applied (Some block) (name ∷ names) = block_lawful name block.node

pub action_lawful : (d : Declaration) → action_fault d ≡ None ↔ AppliesLawfully d
action_lawful (Entity d) = (λ h. tt, λ h. refl)
action_lawful (Action (Defined d)) = applied d.app_decls d.names
action_lawful (Action (External d)) = (λ h. tt, λ h. refl)
action_lawful (Common d) = (λ h. tt, λ h. refl)

-- the two steps of refusal, in one namespace
abbrev pub HasNoFault : Annotated Namespace → Type 0
HasNoFault n = (name_fault n ≡ None) × (declaration_faults n.item.decls ≡ [])

declared_once : (decls : List (Annotated (Node Declaration)))
    → declared_twice decls ≡ None
    ↔ NoneRepeats id_cmp (entity_names_in decls) × NoneRepeats action_cmp (action_names_in decls)
    × NoneRepeats id_cmp (common_names_in decls)
declared_once decls =
    let entities = id_twice (entity_names_in decls) in
    let actions = action_twice (action_names_in decls) in
    let commons = id_twice (common_names_in decls) in (
      λ h.
          let first = (or_none entities (option_or actions commons)).0 h in
          let second = (or_none actions commons).0 first.1 in (
            (ids_once (entity_names_in decls)).0 first.0,
            (actions_once (action_names_in decls)).0 second.0,
            (ids_once (common_names_in decls)).0 second.1,
          ),
      λ h. (or_none entities (option_or actions commons)).1 (
        (ids_once (entity_names_in decls)).1 h.0,
        (or_none actions commons).1
            ((actions_once (action_names_in decls)).1 h.1, (ids_once (common_names_in decls)).1 h.2),
      ),
    )

declarations_fine : (decls : List (Annotated (Node Declaration)))
    → declaration_faults decls ≡ []
    ↔ AllByRecursion (λ id. is_cedar id.node.text ≡ false) (entity_names_in decls)
    × AllByRecursion (λ d. AppliesLawfully d.item.node) decls × AllByRecursion IsFreeCommon (common_names_in decls)
declarations_fine decls =
    let entities = filtered_nil (λ id. is_cedar id.node.text ≡ false) reserved_id id_free (entity_names_in decls) in
    let actions = filtered_nil (λ (d : Annotated (Node Declaration)). AppliesLawfully d.item.node)
    (λ d. action_fault d.item.node) (λ d. action_lawful d.item.node) decls in
    let commons = both_ways (to_list_nil (first_some common_fault (common_names_in decls)))
    (first_none IsFreeCommon common_fault common_free (common_names_in decls)) in (
      λ h.
          let first = (or_else_nil (entity_faults decls) (or_else (action_faults decls) (common_faults decls))).0 h in
          let second = (or_else_nil (action_faults decls) (common_faults decls)).0 first.1 in
          (entities.0 first.0, actions.0 second.0, commons.0 second.1),
      λ h. (or_else_nil (entity_faults decls) (or_else (action_faults decls) (common_faults decls))).1
          (entities.1 h.0, (or_else_nil (action_faults decls) (common_faults decls)).1 (actions.1 h.1, commons.1 h.2)),
    )

namespace_lawful : (n : Annotated Namespace) → HasNoFault n ↔ IsLawfulNamespace n
namespace_lawful n =
    let names = or_none (reserved_namespace n.item.name) (declared_twice n.item.decls) in
    let free = name_free n.item.name in
    let once = declared_once n.item.decls in
    let fine = declarations_fine n.item.decls in (
      λ h.
          let named = names.0 h.0 in
          let twice = once.0 named.1 in
          let within = fine.0 h.1 in
          record {
            name = free.0 named.0;
            entities_once = twice.0;
            actions_once = twice.1;
            commons_once = twice.2;
            entities_free = within.0;
            blocks = within.1;
            commons_free = within.2;
          },
      λ l. (
        names.1 (free.1 l.name, once.1 (l.entities_once, l.actions_once, l.commons_once)),
        fine.1
            (l.entities_free, l.blocks, l.commons_free),
      ),
    )

all_lawful : (ns : List (Annotated Namespace))
    → AllByRecursion (λ n. name_fault n ≡ None) ns
    × AllByRecursion (λ n. declaration_faults n.item.decls ≡ []) ns ↔ AllByRecursion IsLawfulNamespace ns
all_lawful [] = (λ h. tt, λ h. (tt, tt))
all_lawful (n ∷ ns) = (
  λ h. ((namespace_lawful n).0 (h.0.0, h.1.0), (all_lawful ns).0 (h.0.1, h.1.1)),
  λ h. let one = (namespace_lawful n).1 h.0 in let rest = (all_lawful ns).1 h.1 in ((one.0, rest.0), (one.1, rest.1)),
)

pub lawful : (tree : List (Annotated Namespace)) → translation_faults tree ≡ [] ↔ IsTranslatable tree
lawful tree =
    let ns = joined tree in
    let split = or_else_nil (filter_map name_fault ns) (all_declaration_faults ns) in
    let names = filtered_nil (λ (n : Annotated Namespace). name_fault n ≡ None) name_fault (λ n. (λ h. h, λ h. h)) ns in
    let within = flat_nil (λ (n : Annotated Namespace). declaration_faults n.item.decls ≡ [])
    (λ n. declaration_faults n.item.decls) (λ n. (λ h. h, λ h. h)) ns in (
      λ h. let both = split.0 h in (all_lawful ns).0 (names.0 both.0, within.0 both.1),
      λ h. let both = (all_lawful ns).1 h in split.1 (names.1 both.0, within.1 both.1),
    )
