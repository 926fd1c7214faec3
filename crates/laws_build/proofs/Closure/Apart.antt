-- No entity type is called `Action`, and nothing hides what the empty namespace declares.
use Rattle.std.proofs.Common.{◌≡◌, ◌≢◌, ℕ, Bool, true, false, cond, List, [], ◌∷◌, ◌++◌, Contains, Option, Some}
use Rattle.std.proofs.Common.{None, codes, refl, sym, ap, ◌∙◌, subst, inl, inr, true≢false}
use Rattle.std.specs.List.{flat_map}
use Rattle.std.specs.Str.{bytes_eq}
use Rattle.std.proofs.lemmas.List.Elements.{Contains-append_right}
use Rattle.std.proofs.lemmas.Slice.Eq.{bytes_eq-Decides}
use Rattle.std.proofs.lemmas.Bool.{or_right}
use Rattle.cedar_data.proofs.Lists.{contains_flat, contains_unmap, contains_first, empty_behind, empty_in}
use Rattle.cedar_identifiers.specs.Names.{components_of, has_cedar}
use Rattle.cedar_identifiers.specs.declared.id.Id.{Id}
use Rattle.cedar_identifiers.specs.declared.internal_name.InternalName.{InternalName}
use Rattle.cedar_identifiers.specs.declared.name.Name.{Name}
use Rattle.cedar_identifiers.specs.declared.name_text.NameText as named
use Rattle.cedar_identifiers.specs.declared.raw_name.RawName.{RawName}
use Rattle.cedar_identifiers.specs.declared.unreserved_id.UnreservedId.{UnreservedId}
use Rattle.cedar_names.specs.CanonicalText.{basename}
use Rattle.cedar_names.specs.Meaning.{EntityMeaning, SchemaMeaning}
use Rattle.cedar_names.specs.Orders.{names_total}
use Rattle.cedar_names.specs.declared.entity_uid.EntityUID.{EntityUID}
use Rattle.cedar_names.specs.declared.extension_table.ExtensionTable.{ExtensionTable}
use Rattle.schema_json.specs.Actions.{action_name}
use Rattle.schema_json.specs.declared.action_type.ActionType.{ActionType}
use Rattle.schema_json.specs.declared.entity_type.EntityType.{EntityType}
use Rattle.schema_json.specs.declared.fragment.Fragment.{Fragment}
use Rattle.schema_json.specs.declared.fragment.NamespaceDefinition.{NamespaceDefinition}
use Rattle.schema_resolve_definitions.specs.Declarations.{declared, action_type}
use Rattle.schema_resolve_definitions.specs.Defined.{is_hidden}
use Rattle.schema_resolve_definitions.specs.Tests.{Tests, tests_of}
use Rattle.schema_build_errors.specs.declared.schema_error.SchemaError.TheVariants as error
use Rattle.schema_build_text.specs.Captured.{plain_action}
use Rattle.schema_build_checks.specs.DeclaredAt.{ActionAt, actions_at_in_order, called_action, called_actions}
use Rattle.schema_build_checks.specs.DeclaredAt.{hiding_common, hiding_entity, hiding_types_in, hiding_types}
use Rattle.schema_build_checks.specs.DeclaredAt.{hiding_action, hiding_actions_in, hiding_actions}
use Rattle.schema_build_checks.specs.DeclaredTwice.{IsBasenameOf, ActionTypeDeclared, TypeHides, ActionHides}
use Rattle.schema_build_checks.specs.Least.{IsFirstLeast}
use Rattle.schema_build_checks.specs.Rows.{Never}
use Rattle.schema_build_hierarchy.specs.Declarations.{DeclaredEntity, action_key}
use Rattle.schema_build_hierarchy.proofs.Exact.{actions_total}
use Rattle.schema_build_hierarchy.proofs.Once.{contains_cases}
use Rattle.schema_build_hierarchy.proofs.ActionTypes.{last_behind}
use Rattle.schema_build.specs.Meaning.{key_of, FragmentMeaning}
use Rattle.laws_build.specs.Closure.Closed.{HasNamesApart}
use Rattle.laws_build.specs.Closure.Known.{meant_entities, meant_actions}
use Rattle.laws_build.proofs.Closure.Declared.{EntityStands, entity_declared, entity_stands, entity_full}
use Rattle.laws_build.proofs.Closure.Declared.{action_declared, action_stands, action_full, name_there, action_there}
use Rattle.laws_build.proofs.Closure.Least.{none_least}
use Rattle.laws_build.proofs.Closure.Lists.{has_none, all_have, empty_where}
use Rattle.laws_build.proofs.Closure.Words.{front, action_type_full, free_behind, among_there}
use Rattle.laws_build.proofs.Closure.Words.{actions_there}

-- the last of some words
split_last : (i : Id) (is : List Id) → (front : List Id) × (w : Id) × (i ∷ is ≡ front ++ w ∷ [])
split_last i [] = ([], i, refl)
split_last i (j ∷ js) = let (front, w, e) = split_last j js in (i ∷ front, w, ap (λ l. i ∷ l) e)

-- the last word of a name, alone
last_word : (name : InternalName) → (word : InternalName) × IsBasenameOf name word
last_word name =
    let (front, w, e) = split_last name.first name.others in
    let word : InternalName = record { first = w; others = []; loc = None } in
    (word, record { namespace = front; last = e; alone = refl; placeless = refl })

-- what is the first least stands there
least_there : {A : Type 0} {R : A → A → _} (xs : List A) (x : A) → IsFirstLeast R xs x → Contains xs x
least_there xs x is = subst (λ l. Contains l x) (sym is.among)
    (Contains-append_right is.before (x ∷ is.behind) x (contains_first x is.behind))

module _ {G : named.Ghosts RawName} (f : Fragment RawName G) where
  none_called : Never (ActionTypeDeclared f) → called_actions f ≡ []
  none_called never = none_least names_total (called_actions f)
      (λ l is. never (error.ActionEntityTypeDeclared (record { loc = l.loc })) (l, is, refl))

  not_called : Never (ActionTypeDeclared f) → (d : DeclaredEntity) (s : EntityStands f d)
      → bytes_eq s.item.0.id.text (codes "Action") ≡ false
  not_called never d s =
      let entry = empty_in (λ e. flat_map (called_action e.0) e.1.entity_types) f.0 s.entry s.inside
      (none_called never) in
      let item = empty_in (called_action s.entry.0) s.entry.1.entity_types s.item s.among entry in
      empty_where (bytes_eq s.item.0.id.text (codes "Action")) _ item

  none_hides : Never (TypeHides f) → hiding_types (tests_of (declared f)) f ≡ []
  none_hides never = none_least names_total (hiding_types (tests_of (declared f)) f)
      (λ l is.
      let (word, last) = last_word l in
      never (error.TypeShadowing (record { shadowed_def = word; shadowing_def = l })) (is, last))

  -- an entity type with the last word of one of the empty namespace stands there
  unhidden : Never (TypeHides f) → (ns : Option Name) (n : NamespaceDefinition RawName G)
      (x : UnreservedId × EntityType RawName) → Contains f.0 (ns, n) → Contains n.entity_types x
      → (tests_of (declared f)).is_entity (x.0.id.text ∷ []) ≡ true → front ns ≡ []
  unhidden never None n x c d h = refl
  unhidden never (Some ns) n x c d h =
      let t = tests_of (declared f) in
      let entry = empty_in (hiding_types_in t) f.0 (Some ns, n) c (none_hides never) in
      let entities = empty_behind (flat_map (hiding_common t (Some ns)) n.common_types) _ entry in
      let item = empty_in (hiding_entity t (Some ns)) n.entity_types x d entities in
      let off : is_hidden t x.0.id.text ≡ false = empty_where (is_hidden t x.0.id.text) _ item in
      let on : is_hidden t x.0.id.text ≡ true = or_right (t.is_common (x.0.id.text ∷ [])) _ h in
      absurd (true≢false (sym on ∙ off))

  -- the type of an action that hides another
  hiding_typed : (t : Tests) (e : Option Name × NamespaceDefinition RawName G) (l : ActionAt)
      → Contains (hiding_actions_in t e) l → (ns : Option Name) × (l.ty ≡ action_type ns)
  hiding_typed t (None, n) l c = has_none l c
  hiding_typed t (Some ns, n) l c =
      let (x, cx, d) = contains_flat (hiding_action t (Some ns)) n.actions l c in
      let one : ActionAt = record { ty = action_type (Some ns); id = x.0; loc = x.1.loc } in
      (Some ns, by_test (t.is_action (components_of action_name, x.0)) one d)
    where
      by_test : (b : Bool) (one : ActionAt) → Contains (cond b (one ∷ []) []) l → l.ty ≡ one.ty
      by_test true one d = elim (contains_cases one [] l d) [
        | inl same ↦ ap (λ a. a.ty) (sym same)
        | inr none ↦ has_none l none
      ]
      by_test false one d = has_none l d

  none_hides_actions : Never (ActionHides f) → hiding_actions (tests_of (declared f)) f ≡ []
  none_hides_actions never = none_least actions_total (hiding_actions (tests_of (declared f)) f) told
    where
      told : (l : ActionAt) → IsFirstLeast actions_at_in_order (hiding_actions (tests_of (declared f)) f) l → ⊥
      told l is =
          let (e, ce, c) = contains_flat (hiding_actions_in (tests_of (declared f))) f.0 l (least_there _ l is) in
          let (ns, same) = hiding_typed (tests_of (declared f)) e l c in
          let free : has_cedar (components_of l.ty) ≡ false =
          ap (λ n. has_cedar (components_of n)) same ∙ ap has_cedar (action_type_full ns)
          ∙ free_behind ns (codes "Action") refl in
          let hiding : EntityUID =
          record { ty = record { name = l.ty; unreserved = free }; eid = record { 0 = l.id }; loc = l.loc } in
          let hidden : EntityUID =
          record { ty = record { name = action_name; unreserved = refl }; eid = record { 0 = l.id }; loc = None } in
          never (error.ActionShadowing (record { shadowed_def = hidden; shadowing_def = hiding })) (is, refl)

  -- an action with the id of one of the empty namespace stands there
  unhidden_action : Never (ActionHides f) → (ns : Option Name) (n : NamespaceDefinition RawName G)
      (x : List ℕ × ActionType RawName G) → Contains f.0 (ns, n) → Contains n.actions x
      → (tests_of (declared f)).is_action (components_of action_name, x.0) ≡ true → front ns ≡ []
  unhidden_action never None n x c d h = refl
  unhidden_action never (Some ns) n x c d h =
      let t = tests_of (declared f) in
      let entry = empty_in (hiding_actions_in t) f.0 (Some ns, n) c (none_hides_actions never) in
      let item = empty_in (hiding_action t (Some ns)) n.actions x d entry in
      let off = empty_where (t.is_action (components_of action_name, x.0)) _ item in
      absurd (true≢false (sym h ∙ off))

  module _ (table : ExtensionTable) (m : SchemaMeaning) (mean : FragmentMeaning f table m) where
    not_action : Never (ActionTypeDeclared f) → (e : EntityMeaning) → Contains m.entities e
        → basename e.name ≢ codes "Action"
    not_action never e c same =
        let (d, cd, is) = entity_declared f table m mean e c in
        let s = entity_stands f d cd in
        let word : s.item.0.id.text ≡ codes "Action" =
        sym (ap basename (is.name ∙ entity_full f d s) ∙ last_behind (front s.entry.0) s.item.0.id.text) ∙ same in
        let hit = (bytes_eq-Decides s.item.0.id.text (codes "Action")).1 word in
        absurd (true≢false (sym hit ∙ not_called never d s))

    entities_apart : Never (TypeHides f) → (name : List (List ℕ)) → Contains (meant_entities m) name
        → Contains (meant_entities m) (basename name ∷ []) → name ≡ basename name ∷ []
    entities_apart never name c k =
        let (e, ce, same) = contains_unmap (λ (e : EntityMeaning). e.name) m.entities name c in
        let (d, cd, is) = entity_declared f table m mean e ce in
        let s = entity_stands f d cd in
        let w = s.item.0.id.text in
        let full : name ≡ front s.entry.0 ++ w ∷ [] = sym same ∙ is.name ∙ entity_full f d s in
        let last : basename name ≡ w = ap basename full ∙ last_behind (front s.entry.0) w in
        let alone : Contains (meant_entities m) (w ∷ []) = subst (λ v. Contains (meant_entities m) (v ∷ [])) last k in
        let there = among_there (declared f).entities (w ∷ []) (name_there f table m mean (w ∷ []) alone) in
        let empty : front s.entry.0 ≡ [] = unhidden never s.entry.0 s.entry.1 s.item s.inside s.among there in
        full ∙ ap (λ l. l ++ w ∷ []) empty ∙ ap (λ v. v ∷ []) (sym last)

    actions_apart : Never (ActionHides f) → (ty : List (List ℕ)) (id : List ℕ) → Contains (meant_actions m) (ty, id)
        → Contains (meant_actions m) (plain_action, id) → ty ≡ plain_action
    actions_apart never ty id c k =
        let (a, ca, same) = contains_unmap key_of m.actions (ty, id) c in
        let (d, cd, is) = action_declared f table m mean a ca in
        let s = action_stands f d cd in
        let key : action_key d ≡ (ty, id) = sym is.key ∙ same in
        let full : ty ≡ front s.entry.0 ++ codes "Action" ∷ [] = sym (ap (λ z. z.0) key) ∙ action_full f d s in
        let ids : id ≡ s.item.0 = sym (ap (λ z. z.1) key) ∙ ap (λ z. (action_key z).1) (sym s.is) in
        let there = actions_there (declared f).actions (plain_action, s.item.0)
        (action_there f table m mean (plain_action, s.item.0)
        (subst (λ i. Contains (meant_actions m) (plain_action, i)) ids k)) in
        let empty : front s.entry.0 ≡ [] = unhidden_action never s.entry.0 s.entry.1 s.item s.inside s.among there in
        full ∙ ap (λ l. l ++ codes "Action" ∷ []) empty

    pub names_apart : Never (ActionTypeDeclared f) → Never (TypeHides f) → Never (ActionHides f) → HasNamesApart m
    names_apart called types actions = record {
      no_action = all_have (λ e. basename e.name ≢ codes "Action") m.entities (not_action called);
      entities = entities_apart types;
      actions = actions_apart actions;
    }
