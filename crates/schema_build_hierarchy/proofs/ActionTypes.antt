-- Entity types that are defined and not declared are the types of actions, which are named `Action`.
use Rattle.std.proofs.Common.{◌≡◌, ℕ, Bool, true, false, cond, not, List, [], ◌∷◌, ◌++◌, map, codes, Option, Some}
use Rattle.std.proofs.Common.{None}
use Rattle.std.proofs.Common.{refl, sym, ap, ◌∙◌, inl, inr, All, Contains, arith}
use Rattle.std.specs.Prelude.{◌⊎◌, filter, find}
use Rattle.std.specs.Option.{option_to_list}
use Rattle.std.specs.Str.{bytes_eq}
use Rattle.std.proofs.lemmas.Bool.{cases_Bool}
use Rattle.std.proofs.lemmas.List.{map-append}
use Rattle.std.proofs.lemmas.List.Elements.{All-nil, All-cons, All-map, All-contains}
use Rattle.std.proofs.lemmas.List.Folds.{list_any-append, Any-from_list_any}
use Rattle.std.specs.List.{list_any}
use Rattle.cedar_data.proofs.Lists.{contains_later, found_passes}
use Rattle.cedar_identifiers.specs.Candidates.{candidates, behind}
use Rattle.cedar_identifiers.specs.Names.{components_of, texts_of}
use Rattle.cedar_identifiers.specs.declared.id.Id.{Id}
use Rattle.cedar_identifiers.specs.declared.internal_name.InternalName.{InternalName}
use Rattle.cedar_identifiers.specs.declared.name.Name.{Name}
use Rattle.cedar_identifiers.specs.declared.name_text.NameText as named
use Rattle.cedar_identifiers.specs.declared.raw_name.RawName.{RawName}
use Rattle.cedar_identifiers.specs.declared.reference_type.ReferenceType.TheVariants.{Entity}
use Rattle.cedar_names.specs.CanonicalText.{basename}
use Rattle.cedar_names.specs.Definitions.{among, same_name}
use Rattle.cedar_names.specs.declared.extension_table.ExtensionTable.{ExtensionTable}
use Rattle.cedar_names.proofs.Defined.{equal_names}
use Rattle.schema_json.specs.Actions.{action_name}
use Rattle.schema_json.specs.declared.fragment.Fragment.{Fragment}
use Rattle.schema_resolve_definitions.specs.Declarations.{name_of, declared, action_type, actions_in}
use Rattle.schema_resolve_definitions.specs.Defined.{defined}
use Rattle.schema_resolve_definitions.specs.Tests.{Tests, tests_of}
use Rattle.schema_resolve_targets.specs.Qualified.{in_namespace}
use Rattle.schema_resolve_targets.specs.Targets.{target}
use Rattle.schema_build_hierarchy.specs.Rows.{AreOwnButActions, undeclared_target}
use Rattle.schema_build_hierarchy.proofs.UsesFree.{all_flat, or_second}

pub last_behind : (xs : List (List ℕ)) (l : List ℕ) → basename (xs ++ l ∷ []) ≡ l
last_behind [] l = refl
last_behind (x ∷ []) l = refl
last_behind (x ∷ y ∷ xs) l = last_behind (y ∷ xs) l

-- the last word of a name is that of its words
pub last_of : (name : InternalName) (front : List Id) (last : Id) → name.others ≡ front ++ last ∷ []
    → last.text ≡ basename (components_of name)
last_of name front last e =
    sym (ap (λ l. basename (name.first.text ∷ texts_of l)) e
    ∙ ap (λ l. basename (name.first.text ∷ l)) (map-append (λ (i : Id). i.text) front (last ∷ []))
    ∙ last_behind (name.first.text ∷ texts_of front) last.text)

action_last : (ns : Option Name) → basename (components_of (action_type ns)) ≡ codes "Action"
action_last None = refl
action_last (Some ns) =
    ap (λ l. basename (ns.name.first.text ∷ l))
    (map-append (λ (i : Id). i.text) ns.name.others (action_name.first ∷ []))
    ∙ last_behind (ns.name.first.text ∷ texts_of ns.name.others) (codes "Action")

module _ {G : named.Ghosts RawName} (f : Fragment RawName G) (table : ExtensionTable) where
  types_named : All (λ n. basename n ≡ codes "Action") (map (λ a. a.0) (declared f).actions)
  types_named = All-map (λ n. basename n ≡ codes "Action") (λ a. a.0) (declared f).actions
      (all_flat (λ e. actions_in e.0 e.1) (λ a. basename a.0 ≡ codes "Action")
      (λ e. All-map (λ a. basename a.0 ≡ codes "Action") (λ d. (components_of (action_type e.0), d.0)) e.1.actions
      (λ k d h. action_last e.0)) f.0)

  pub own_but_actions : (t own : Tests) → t ≡ tests_of (defined f table) → own ≡ tests_of (declared f)
      → AreOwnButActions t own
  own_but_actions t own is own_is n there miss =
      let split = list_any-append (same_name n) (declared f).entities (map (λ a. a.0) (declared f).actions) in
      let mine : among (declared f).entities n ≡ false = ap (λ s. s.is_entity n) (sym own_is) ∙ miss in
      let late : list_any (same_name n) (map (λ a. a.0) (declared f).actions)
      ≡ true = or_second (among (declared f).entities n) (among (map (λ a. a.0) (declared f).actions) n)
      (sym split ∙ (ap (λ s. s.is_entity n) (sym is) ∙ there)) mine in
      let found = Any-from_list_any (same_name n) (map (λ a. a.0) (declared f).actions) late in
      ap basename (equal_names n found.1 found.4)
      ∙ All-contains (λ n. basename n ≡ codes "Action") (map (λ a. a.0) (declared f).actions) found.1
      types_named (found.0, found.2, found.3)

-- the candidates of a name end in its last word
abbrev EndsLike : InternalName → InternalName → Type 0
EndsLike name n = basename (components_of n) ≡ basename (components_of name)

candidates_end : (ns : Option InternalName) (name : InternalName) → All (EndsLike name) (candidates ns name)
candidates_end None name = All-cons (EndsLike name) name [] refl (All-nil (EndsLike name))
candidates_end (Some ns) name = by name.first name.others name.loc
  where
    by : (w : Id) (others : List Id) (l : _)
        → let n : InternalName = record { first = w; others = others; loc = l } in
        All (EndsLike n) (candidates (Some ns) n)
    by w [] l =
        let n : InternalName = record { first = w; others = []; loc = l } in
        All-cons (EndsLike n) (behind ns n) (n ∷ [])
        (ap (λ l. basename (ns.first.text ∷ l)) (map-append (λ (i : Id). i.text) ns.others (w ∷ []))
        ∙ last_behind (ns.first.text ∷ texts_of ns.others) w.text)
        (All-cons (EndsLike n) n [] refl (All-nil (EndsLike n)))
    by w (i ∷ is) l =
        let n : InternalName = record { first = w; others = i ∷ is; loc = l } in
        All-cons (EndsLike n) n [] refl (All-nil (EndsLike n))

found_held : {A : Type 0} (p : A → Bool) (xs : List A) (x : A) → find p xs ≡ Some x → Contains xs x
found_held p [] x h = absurd (cc)
found_held {A} p (k ∷ xs) x h = go (cases_Bool (p k)) (found_held p xs x)
  where
    go : (p k ≡ true) ⊎ (p k ≡ false) → (find p xs ≡ Some x → Contains xs x) → Contains (k ∷ xs) x
    go (inl hit) on =
        let here : Some k ≡ Some x = sym (ap (λ b. cond b (Some k) (find p xs)) hit) ∙ h in
        let same : k ≡ x = cc in (0, omega arith, same)
    go (inr miss) on = contains_later k xs x (on (sym (ap (λ b. cond b (Some k) (find p xs)) miss) ∙ h))

-- a name that does not end in `Action` means nothing that is not declared
pub ends_otherwise : (t own : Tests) → AreOwnButActions t own → (ns : Option Name) (name : RawName)
    → bytes_eq (basename (components_of name.name)) (codes "Action") ≡ false → undeclared_target t own ns name ≡ []
ends_otherwise t own whole ns name other = go (target t (in_namespace (name_of ns) Entity name)) refl
  where
    by : (n : InternalName) → target t (in_namespace (name_of ns) Entity name) ≡ Some n
        → (own.is_entity (components_of n) ≡ true) ⊎ (own.is_entity (components_of n) ≡ false)
        → filter (λ n. not (own.is_entity (components_of n))) (n ∷ []) ≡ []
    by n e (inl hit) = ap (λ b. cond (not b) (n ∷ []) []) hit
    by n e (inr miss) =
        let there = found_passes (λ p. t.is_entity (components_of p)) (candidates (name_of ns) name.name) n e in
        let held = found_held (λ p. t.is_entity (components_of p)) (candidates (name_of ns) name.name) n e in
        let last = All-contains (EndsLike name.name) (candidates (name_of ns) name.name) n
        (candidates_end (name_of ns) name.name) held in
        let is : true ≡ false = sym (ap (λ l. bytes_eq l (codes "Action"))
        (sym last ∙ whole (components_of n) there miss)) ∙ other in
        absurd (cc)

    go : (o : Option InternalName) → target t (in_namespace (name_of ns) Entity name) ≡ o
        → filter (λ n. not (own.is_entity (components_of n))) (option_to_list o) ≡ []
    go None e = refl
    go (Some n) e = by n e (cases_Bool (own.is_entity (components_of n)))
