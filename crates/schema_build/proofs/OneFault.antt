-- What is told of the fault of a fragment is one.
use Rattle.std.proofs.Common.{◌≡◌, ℕ, Bool, true, false, List, [], ◌∷◌, ◌++◌, map, Option, Some, None, Ordering, refl}
use Rattle.std.proofs.Common.{sym, ap, ◌∙◌, subst, inl, inr, All, Contains}
use Rattle.std.specs.Prelude.{codes}
use Rattle.std.specs.Str.{chars}
use Rattle.std.specs.declared.cmp.Ordering.TheVariants.{Less, Equal, Greater}
use Rattle.std.specs.Cmp.{IsTotalOrder}
use Rattle.std.specs.List.{AllByRecursion, filter, flat_map}
use Rattle.std.specs.Map.{keys_of}
use Rattle.std.specs.Ordering.{is_lt, is_eq, ordering_reverse}
use Rattle.std.specs.Option.{option_map}
use Rattle.std.proofs.lemmas.List.Elements.{All-contains, All-head, All-filter, All-contains_itself}
use Rattle.std.proofs.lemmas.List.{same_from_push}
use Rattle.cedar_data.specs.Rows.{and_list, by_number}
use Rattle.cedar_data.proofs.Every.{at_middle}
use Rattle.schema_syntax_tokens.specs.Quotes.{quoted}
use Rattle.cedar_identifiers.specs.Names.{components_of, name_text}
use Rattle.cedar_identifiers.specs.declared.conditional_name.ConditionalName.{ConditionalName}
use Rattle.cedar_identifiers.specs.declared.id.Id.{Id}
use Rattle.cedar_identifiers.specs.declared.internal_name.InternalName.{InternalName}
use Rattle.cedar_identifiers.specs.declared.name.Name.{Name}
use Rattle.cedar_identifiers.specs.declared.name_text.NameText as named
use Rattle.cedar_identifiers.specs.declared.raw_name.RawName.{RawName}
use Rattle.cedar_names.specs.Orders.{names_in_order, names_total, ids_of}
use Rattle.cedar_names.specs.declared.extension_table.ExtensionTable.{ExtensionTable}
use Rattle.schema_json.specs.Actions.{action_name, action_uid_text}
use Rattle.schema_json.specs.declared.action_type.ActionEntityUID.{ActionEntityUID}
use Rattle.schema_json.specs.declared.action_type.ActionType.{ActionType}
use Rattle.schema_json.specs.declared.fragment.Fragment.{Fragment}
use Rattle.schema_json_walk.specs.Walk.{of_fragment}
use Rattle.schema_resolve_definitions.specs.Defined.{defined}
use Rattle.schema_resolve_definitions.specs.Tests.{Tests, tests_of}
use Rattle.schema_resolve_errors.specs.ErrorTexts.{label_at, name_labels, type_texts, type_labels, action_texts}
use Rattle.schema_resolve_errors.specs.ErrorTexts.{action_labels, unresolved_text, undeclared_text, written_components}
use Rattle.schema_resolve_errors.specs.Gathered.{if_there}
use Rattle.schema_resolve_targets.specs.Gathered.{uids}
use Rattle.schema_resolve_targets.specs.Undefined.{Undefined}
use Rattle.schema_build_errors.specs.DeclaredTexts.{hidden_text}
use Rattle.schema_build_errors.specs.HierarchyTexts.{ancestor_message}
use Rattle.schema_build_errors.specs.UseTexts.{declared_texts, undeclared_labels}
use Rattle.schema_build_errors.specs.declared.schema_error.SchemaError.{SchemaError}
use Rattle.schema_build_errors.specs.declared.schema_error.SchemaError.TheVariants as error
use Rattle.schema_build_errors.specs.declared.shape_errors.ContextOrShape.{ContextOrShape}
use Rattle.schema_build_errors.specs.declared.shape_errors.ContextOrShape.TheVariants.{ActionContext, EntityTypeShape}
use Rattle.schema_build_checks.specs.DeclaredAt.{ActionAt, at_of, actions_at_in_order}
use Rattle.schema_build_checks.specs.DeclaredTwice.{IsBasenameOf, ActionTypeDeclared, TypeHides, ActionHides}
use Rattle.schema_build_checks.specs.Least.{IsFirstLeast}
use Rattle.schema_build_checks.specs.Refusing.{IsAboutFirst}
use Rattle.schema_build_checks.specs.WalkFaults.{unknown_extension, unsupported, NamesExtension, NamesFeature}
use Rattle.schema_build_scope.specs.Commons.{declared_commons}
use Rattle.schema_build_scope.specs.CycleRow.{HasCommonCycle}
use Rattle.schema_build_scope.specs.FragmentScope.{fragment_scope}
use Rattle.schema_build_scope.specs.Rows.{OrElse}
use Rattle.schema_build_scope.specs.UndefinedRows.{undefined_alone, NamesTypes, NamesActions}
use Rattle.schema_build_hierarchy.specs.Declarations.{Declared, DeclaredEntity, entity_name, declared_entities}
use Rattle.schema_build_hierarchy.specs.Declarations.{declared_actions}
use Rattle.schema_build_hierarchy.specs.FirstUses.{IsFirstUse, AreFirstUses}
use Rattle.schema_build_hierarchy.specs.Rows.{IsLeastAmong, HasUndeclaredEntityTypes, HasActionCycle}
use Rattle.schema_build_hierarchy.specs.Rows.{HasExternalUnderEnum, IsEnumAbove}
use Rattle.schema_build_hierarchy.proofs.Exact.{actions_total}
use Rattle.schema_build_hierarchy.proofs.KnownByMembers.{same_rising}
use Rattle.schema_build_items.specs.NoRecord.{IsLeastShape, IsLeastContext, HasNoRecordShape, HasNoRecordContext}
use Rattle.schema_build_parts.specs.BuildFaults.{BuildFault}
use Rattle.schema_build.specs.FaultsTold.{AreToldAlike}

-- the row tells one thing
abbrev OneOf : (SchemaError → Type 0) → Type 0
OneOf row = (e other : SchemaError) → row e → row other → AreToldAlike e other

or_else_once : (row behind : SchemaError → Type 0) → OneOf row → OneOf behind → OneOf (OrElse row behind)
or_else_once row behind one more e other (inl h) (inl k) = one e other h k
or_else_once row behind one more e other (inl h) (inr k) = absurd (k.0 e h)
or_else_once row behind one more e other (inr h) (inl k) = absurd (h.0 other k)
or_else_once row behind one more e other (inr h) (inr k) = more e other h.1 k.1

-- errors that are these
alike : (e other x y : SchemaError) → e ≡ x → other ≡ y → AreToldAlike x y → AreToldAlike e other
alike e other x y h k a = subst (λ z. AreToldAlike z other) (sym h) (subst (AreToldAlike x) (sym k) a)

-- the first of the least is one
least_place : {A : Type 0} (order : A → A → Ordering) (x y : A) (a b c d : List A) → a ++ x ∷ b ≡ c ++ y ∷ d
    → AllByRecursion (λ z. is_lt (order x z) ≡ true) a → AllByRecursion (λ z. is_lt (order z x) ≡ false) b
    → AllByRecursion (λ z. is_lt (order y z) ≡ true) c → AllByRecursion (λ z. is_lt (order z y) ≡ false) d → x ≡ y
least_place order x y [] b [] d e g n h m = cc
least_place order x y [] b (z ∷ c) d e g n h m =
    let head : x ≡ z = cc in
    let tail : b ≡ c ++ y ∷ d = cc in
    let less : is_lt (order y x) ≡ true = ap (λ w. is_lt (order y w)) head ∙ h.0 in
    let not_less : is_lt (order y x)
    ≡ false = at_middle (λ w. is_lt (order w x) ≡ false) c y d
    (subst (AllByRecursion (λ w. is_lt (order w x) ≡ false)) tail n) in
    absurd (let no : true ≡ false = sym less ∙ not_less in cc)
least_place order x y (z ∷ a) b [] d e g n h m =
    let head : z ≡ y = cc in
    let tail : a ++ x ∷ b ≡ d = cc in
    let less : is_lt (order x y) ≡ true = ap (λ w. is_lt (order x w)) (sym head) ∙ g.0 in
    let not_less : is_lt (order x y)
    ≡ false = at_middle (λ w. is_lt (order w y) ≡ false) a x b
    (subst (AllByRecursion (λ w. is_lt (order w y) ≡ false)) (sym tail) m) in
    absurd (let no : true ≡ false = sym less ∙ not_less in cc)
least_place order x y (z ∷ a) b (w ∷ c) d e g n h m =
    let tail : a ++ x ∷ b ≡ c ++ y ∷ d = cc in
    least_place order x y a b c d tail g.1 n h.1 m

first_least_once : {A : Type 0} (order : A → A → Ordering) (xs : List A) (x y : A) → IsFirstLeast order xs x
    → IsFirstLeast order xs y → x ≡ y
first_least_once order xs x y h k =
    least_place order x y h.before h.behind k.before k.behind (sym h.among ∙ k.among) h.greater h.not_less
    k.greater k.not_less

-- neither is below the other
neither : {A : Type 0} (R : A → A → Ordering) → IsTotalOrder R → (x y : A) → is_lt (R x y) ≡ false
    → is_lt (R y x) ≡ false
    → R x y ≡ Equal
neither R o x y h k = by_answer (R x y) (R y x) (o.antisymm x y) h k
  where
    by_answer : (a b : Ordering) → a ≡ ordering_reverse b → is_lt a ≡ false → is_lt b ≡ false → a ≡ Equal
    by_answer Less b e h k = cc
    by_answer Equal b e h k = refl
    by_answer Greater Less e h k = cc
    by_answer Greater Equal e h k = cc
    by_answer Greater Greater e h k = cc

-- the action that an error names, as it is told
abbrev at_text : ActionAt → List ℕ
at_text a = name_text (components_of a.ty) ++ (codes "::" ++ chars (quoted a.id))

-- the last word of a name is one
basename_once : (n v w : InternalName) → IsBasenameOf n v → IsBasenameOf n w → components_of v ≡ components_of w
basename_once n v w h k =
    let left : ids_of n ≡ h.namespace ++ v.first ∷ [] = h.last ∙ ap (λ o. h.namespace ++ v.first ∷ o) h.alone in
    let right : ids_of n ≡ k.namespace ++ w.first ∷ [] = k.last ∙ ap (λ o. k.namespace ++ w.first ∷ o) k.alone in
    let first : v.first ≡ w.first = (same_from_push h.namespace k.namespace v.first w.first (sym left ∙ right)).1 in
    ap (λ (o : List Id). map (λ i. i.text) (v.first ∷ o)) h.alone ∙ ap (λ (f : Id). f.text ∷ []) first
    ∙ sym (ap (λ (o : List Id). map (λ i. i.text) (w.first ∷ o)) k.alone)

about_once : {U : Type 0} (names : U → SchemaError → Type 0) → ((x : U) → OneOf (names x)) → (xs : List U)
    → OneOf (IsAboutFirst names xs)
about_once names one [] e other h k = absurd h
about_once names one (x ∷ xs) e other h k = one x e other h k

names_extension_once : (id : _) → OneOf (NamesExtension id)
names_extension_once id (error.UnknownExtensionType e) (error.UnknownExtensionType o) h k =
    record {
      text = ap (λ n. codes "unknown extension type `" ++ (name_text (components_of n) ++ codes "`"))
          (h ∙ sym k);
      help = refl;
      labels = refl;
    }
names_extension_once id (error.UnknownExtensionType e) _ h k = absurd k
names_extension_once id _ o h k = absurd h

names_feature_once : (feature : _) → OneOf (NamesFeature feature)
names_feature_once feature e other (x, is, same) (y, too, alone) =
    alike e other (error.UnsupportedFeature x) (error.UnsupportedFeature y) is too
    (record { text = refl; help = refl; labels = refl })

names_types_once : (found : List Undefined) → OneOf (NamesTypes found)
names_types_once found (error.TypeNotDefined e) (error.TypeNotDefined o) h k =
    let same : e.undefined_types ≡ o.undefined_types = h.0 ∙ sym k.0 in
    record { text = ap (λ l. unresolved_text (type_texts l)) same; help = refl; labels = ap type_labels same }
names_types_once found (error.TypeNotDefined e) _ h k = absurd k
names_types_once found _ o h k = absurd h

-- what is told of references to actions, by their ids and types
uid_texts : {G : named.Ghosts ConditionalName} (xs : List (ActionEntityUID ConditionalName G))
    → action_texts xs ≡ map (λ (u : List ℕ × Option ConditionalName). action_uid_text
    (option_map written_components u.1) u.0) (uids xs)
uid_texts [] = refl
uid_texts (x ∷ xs) = ap (λ l. action_uid_text (option_map written_components x.ty) x.id ∷ l) (uid_texts xs)

uid_labels : {G : named.Ghosts ConditionalName} (xs : List (ActionEntityUID ConditionalName G))
    → action_labels xs ≡ flat_map (λ (u : List ℕ × Option ConditionalName). if_there
    (λ (c : ConditionalName). name_labels c.raw.name) u.1) (uids xs)
uid_labels [] = refl
uid_labels (x ∷ xs) = ap (λ l. if_there (λ (c : ConditionalName). name_labels c.raw.name) x.ty ++ l) (uid_labels xs)

names_actions_once : (found : List Undefined) → OneOf (NamesActions found)
names_actions_once found (error.ActionNotDefined e) (error.ActionNotDefined o) h k =
    let same : uids e.0 ≡ uids o.0 = h.0 ∙ sym k.0 in
    record {
      text = ap undeclared_text (uid_texts e.0 ∙ ap (map _) same ∙ sym (uid_texts o.0));
      help = refl;
      labels = uid_labels e.0 ∙ ap (flat_map _) same ∙ sym (uid_labels o.0);
    }
names_actions_once found (error.ActionNotDefined e) _ h k = absurd k
names_actions_once found _ o h k = absurd h

action_type_once : {G : named.Ghosts RawName} (f : Fragment RawName G) → OneOf (ActionTypeDeclared f)
action_type_once f (error.ActionEntityTypeDeclared e) (error.ActionEntityTypeDeclared o) (n, h, l) (m, k, r) =
    let same : n ≡ m = first_least_once _ _ n m h k in
    record {
      text = refl;
      help = refl;
      labels = ap (if_there label_at) (l ∙ ap (λ (x : InternalName). x.loc) same ∙ sym r);
    }
action_type_once f (error.ActionEntityTypeDeclared e) _ h k = absurd k
action_type_once f _ o h k = absurd h

type_hides_once : {G : named.Ghosts RawName} (f : Fragment RawName G) → OneOf (TypeHides f)
type_hides_once f (error.TypeShadowing e) (error.TypeShadowing o) (h, b) (k, c) =
    let same : e.shadowing_def ≡ o.shadowing_def = first_least_once _ _ e.shadowing_def o.shadowing_def h k in
    let hidden : components_of e.shadowed_def ≡ components_of o.shadowed_def =
    basename_once o.shadowing_def e.shadowed_def o.shadowed_def (subst (λ n. IsBasenameOf n e.shadowed_def) same b) c in
    record {
      text = λ i. hidden_text (name_text (components_of (same i))) (name_text (hidden i));
      help = ap (λ n. Some (codes "try renaming one of the definitions, or moving `"
          ++ (name_text n ++ codes "` to a different namespace"))) hidden;
      labels = ap (λ (n : InternalName). if_there label_at n.loc) same;
    }
type_hides_once f (error.TypeShadowing e) _ h k = absurd k
type_hides_once f _ o h k = absurd h

action_hides_once : {G : named.Ghosts RawName} (f : Fragment RawName G) → OneOf (ActionHides f)
action_hides_once f (error.ActionShadowing e) (error.ActionShadowing o) (h, b) (k, c) =
    let same : at_of e.shadowing_def
    ≡ at_of o.shadowing_def = first_least_once _ _ (at_of e.shadowing_def) (at_of o.shadowing_def) h k in
    let hidden : at_of e.shadowed_def ≡ at_of o.shadowed_def =
    b ∙ (λ i. record { ty = action_name; id = (same i).id; loc = None }) ∙ sym c in
    record {
      text = λ i. hidden_text (at_text (same i)) (at_text (hidden i));
      help = ap (λ a. Some (codes "try renaming one of the actions, or moving `"
          ++ (at_text a ++ codes "` to a different namespace"))) hidden;
      labels = ap (λ (a : ActionAt). if_there label_at a.loc) same;
    }
action_hides_once f (error.ActionShadowing e) _ h k = absurd k
action_hides_once f _ o h k = absurd h

-- the first uses are one list
filtered : {A : Type 0} (p : A → Bool) (xs : List A) (x : A) (others : List A) → filter p xs ≡ x ∷ others
    → Contains xs x
filtered p xs x others e =
    All-head (Contains xs) x others
    (subst (All (Contains xs)) e (All-filter p (Contains xs) xs (All-contains_itself xs)))

firsts_once : {A : Type 0} {R : A → A → Ordering} (o : IsTotalOrder R) (uses firsts others : List A)
    → AreFirstUses R uses firsts → AreFirstUses R uses others → firsts ≡ others
firsts_once {A} {R} o uses firsts others h k =
    same_rising o firsts others h.rising k.rising (λ z c. moved firsts others h k z c)
    (λ z c. moved others firsts k h z c)
  where
    moved : (xs ys : List A) → AreFirstUses R uses xs → AreFirstUses R uses ys → (z : A) → Contains xs z → Contains ys z
    moved xs ys h k z c =
        let mine = All-contains (IsFirstUse R uses) xs z h.first c in
        let there = k.whole z (filtered (λ y. is_eq (R z y)) uses z mine.0 mine.1) in
        let (x, d, e) = there in
        let its = All-contains (IsFirstUse R uses) ys x k.first d in
        let lists : x ∷ its.0 ≡ z ∷ mine.0 = sym its.1 ∙ (λ i. filter (λ y. is_eq (o.congr x z y e i)) uses) ∙ mine.1 in
        let same : x ≡ z = cc in
        subst (Contains ys) same d

-- what is told of names
names_told : (xs : List Name) → declared_texts xs ≡ map (λ n. name_text (components_of n)) (map (λ n. n.name) xs)
names_told [] = refl
names_told (x ∷ xs) = ap (λ l. name_text (components_of x.name) ∷ l) (names_told xs)

names_placed : (xs : List Name) → undeclared_labels xs ≡ flat_map name_labels (map (λ n. n.name) xs)
names_placed [] = refl
names_placed (x ∷ xs) = ap (λ l. name_labels x.name ++ l) (names_placed xs)

undeclared_once : {G : named.Ghosts RawName} (t : Tests) (f : Fragment RawName G) → OneOf (HasUndeclaredEntityTypes t f)
undeclared_once t f e other (x, is, h, some) (y, too, k, any) =
    let same : map (λ (n : Name). n.name) x.types
    ≡ map (λ (n : Name). n.name) y.types = firsts_once names_total _ _ _ h k in
    let texts : declared_texts x.types ≡ declared_texts y.types =
    names_told x.types ∙ ap (map (λ n. name_text (components_of n))) same ∙ sym (names_told y.types) in
    alike e other (error.UndeclaredEntityTypes x) (error.UndeclaredEntityTypes y) is too (record {
      text = ap (λ l. by_number (codes "undeclared entity type: ") (codes "undeclared entity types: ") l
          ++ and_list l) texts;
      help = refl;
      labels = names_placed x.types ∙ ap (flat_map name_labels) same ∙ sym (names_placed y.types);
    })

module _ {D A : Type 0} (R : A → A → Ordering) (total : IsTotalOrder R) (name : D → A) (ds : List D)
    (once : (a b : D) → Contains ds a → Contains ds b → R (name a) (name b) ≡ Equal → a ≡ b) where
  -- the least that passes is one
  least_once : (passes : D → Type 0) (x y : D) → IsLeastAmong (λ a b. is_lt (R a b)) name passes ds x
      → IsLeastAmong (λ a b. is_lt (R a b)) name passes ds y → x ≡ y
  least_once passes x y h k =
      once x y h.among k.among
      (neither R total (name x) (name y) (k.none_less x h.among h.passes_too) (h.none_less y k.among k.passes_too))

module _ {G : named.Ghosts RawName} (f : Fragment RawName G) (table : ExtensionTable)
    (commons_are : (a b : InternalName) → Contains (keys_of (declared_commons f)) a
    → Contains (keys_of (declared_commons f)) b
    → names_in_order a b ≡ Equal → a ≡ b)
    (entities_are : (a b : DeclaredEntity) → Contains (declared_entities f) a → Contains (declared_entities f) b
    → names_in_order a.name b.name ≡ Equal → a ≡ b)
    (actions_are : (a b : Declared ActionAt (ActionType RawName G)) → Contains (declared_actions f) a
    → Contains (declared_actions f) b → actions_at_in_order a.name b.name ≡ Equal → a ≡ b) where
  common_cycle_once : OneOf (HasCommonCycle f table)
  common_cycle_once (error.CycleInCommonTypeReferences e) (error.CycleInCommonTypeReferences o) h k =
      let same : e.ty ≡ o.ty =
      commons_are e.ty o.ty h.declared k.declared
      (neither names_in_order names_total e.ty o.ty (k.least e.ty h.round) (h.least o.ty k.round)) in
      record {
        text = ap (λ n. codes "cycle in common type references containing `"
            ++ (name_text (components_of n) ++ codes "`")) same;
        help = refl;
        labels = ap (λ (n : InternalName). if_there label_at n.loc) same;
      }
  common_cycle_once (error.CycleInCommonTypeReferences e) _ h k = absurd k
  common_cycle_once _ o h k = absurd h

  abbrev no_record : ContextOrShape → SchemaError
  no_record subject = error.ContextOrShapeNotRecord (record { ctx_or_shape = subject })

  shape_once : (a b : ContextOrShape) → IsLeastShape (fragment_scope f table) f a
      → IsLeastShape (fragment_scope f table) f b
      → AreToldAlike (no_record a) (no_record b)
  shape_once (EntityTypeShape n) (EntityTypeShape m) (d, is, h) (c, too, k) =
      let same : d ≡ c = least_once names_in_order names_total (λ x. x.name) (declared_entities f)
      entities_are _ d c h k in
      let names : n.name ≡ m.name = is ∙ ap (λ (x : DeclaredEntity). x.name) same ∙ sym too in
      record {
        text = ap (λ x. (codes "Shape for entity type " ++ name_text (components_of x))
            ++ codes " is declared with a type other than `Record`") names;
        help = refl;
        labels = ap (λ (x : InternalName). if_there label_at x.loc) names;
      }
  shape_once (EntityTypeShape n) (ActionContext u) h k = absurd k
  shape_once (ActionContext u) b h k = absurd h

  context_once : (a b : ContextOrShape) → IsLeastContext (fragment_scope f table) f a
      → IsLeastContext (fragment_scope f table) f b → AreToldAlike (no_record a) (no_record b)
  context_once (ActionContext n) (ActionContext m) (d, is, h) (c, too, k) =
      let same : d ≡ c = least_once actions_at_in_order actions_total (λ x. x.name) (declared_actions f)
      actions_are _ d c h k in
      let names : at_of n ≡ at_of m = is
      ∙ ap (λ (x : Declared ActionAt (ActionType RawName G)). x.name) same ∙ sym too in
      record {
        text = ap (λ x. (codes "Context for action " ++ at_text x)
            ++ codes " is declared with a type other than `Record`") names;
        help = refl;
        labels = ap (λ (x : ActionAt). if_there label_at x.loc) names;
      }
  context_once (ActionContext n) (EntityTypeShape u) h k = absurd k
  context_once (EntityTypeShape u) b h k = absurd h

  no_shape_once : OneOf (HasNoRecordShape f table)
  no_shape_once (error.ContextOrShapeNotRecord e) (error.ContextOrShapeNotRecord o) h k =
      shape_once e.ctx_or_shape o.ctx_or_shape h k
  no_shape_once (error.ContextOrShapeNotRecord e) _ h k = absurd k
  no_shape_once _ o h k = absurd h

  no_context_once : OneOf (HasNoRecordContext f table)
  no_context_once (error.ContextOrShapeNotRecord e) (error.ContextOrShapeNotRecord o) h k =
      context_once e.ctx_or_shape o.ctx_or_shape h k
  no_context_once (error.ContextOrShapeNotRecord e) _ h k = absurd k
  no_context_once _ o h k = absurd h

  action_cycle_once : (t : Tests) → OneOf (HasActionCycle t (declared_actions f))
  action_cycle_once t e other (d, (x, is, at), h) (c, (y, too, there), k) =
      let same : d ≡ c = least_once actions_at_in_order actions_total (λ z. z.name) (declared_actions f)
      actions_are _ d c h k in
      let names : at_of x.uid ≡ at_of y.uid = at ∙ ap (λ (z : Declared ActionAt (ActionType RawName G)). z.name) same
      ∙ sym there in
      alike e other (error.CycleInActionHierarchy x) (error.CycleInActionHierarchy y) is too (record {
        text = ap (λ z. codes "cycle in action hierarchy containing `" ++ (at_text z ++ codes "`")) names;
        help = refl;
        labels = ap (λ (z : ActionAt). if_there label_at z.loc) names;
      })

  enum_above_once : (t : Tests) → OneOf (HasExternalUnderEnum t (declared_entities f))
  enum_above_once t e other (d, p, (x, is, low, high, none), h, u) (c, q, (y, too, lower, higher, nothing), k, v) =
      let ds = declared_entities f in
      let same : d ≡ c = least_once names_in_order names_total (λ z. z.name) ds entities_are _ d c h k in
      let above : p ≡ q =
      least_once names_in_order names_total (λ z. z.name) ds entities_are (IsEnumAbove t ds c) p q
      (subst (λ z. IsLeastAmong (λ a b. is_lt (names_in_order a b)) (λ w. w.name) (IsEnumAbove t ds z) ds p) same u)
      v in
      let external : x.external_type.name ≡ y.external_type.name = low ∙ ap (λ (z : DeclaredEntity). z.name) same
      ∙ sym lower in
      let enums : components_of x.enum_type.name ≡ components_of y.enum_type.name = high ∙ ap entity_name above
      ∙ sym higher in
      alike e other (error.ExternalWithEnumAncestor x) (error.ExternalWithEnumAncestor y) is too (record {
        text = λ i. ancestor_message (name_text (components_of (external i))) (name_text (enums i));
        help = refl;
        labels = ap (λ (z : InternalName). if_there label_at z.loc) external;
      })

  -- what is told of the fault of the fragment is one
  pub fault_once : OneOf (BuildFault f table)
  fault_once =
      let t = tests_of (defined f table) in
      or_else_once _ _
      (or_else_once _ _ (action_type_once f)
      (or_else_once _ _ (type_hides_once f) (or_else_once _ _ (action_hides_once f)
      (or_else_once _ _
      (about_once NamesExtension names_extension_once (of_fragment (λ ns part. unknown_extension table part) f))
      (about_once NamesFeature names_feature_once (of_fragment (λ ns part. unsupported part) f))))))
      (or_else_once _ _ (or_else_once _ _ (names_types_once (undefined_alone f table))
      (names_actions_once (undefined_alone f table)))
      (or_else_once _ _ (undeclared_once t f)
      (or_else_once _ _ (or_else_once _ _ common_cycle_once (or_else_once _ _ no_shape_once no_context_once))
      (or_else_once _ _ (action_cycle_once t) (enum_above_once t)))))
