-- A name is declared where the namespace that stands in it declares its last word.
use Rattle.std.proofs.Common.{◌≡◌, ℕ, Bool, true, false, ◌&&◌, ◌||◌, List, [], ◌∷◌, ◌++◌, map, codes, Option, Some}
use Rattle.std.proofs.Common.{None, refl, sym, ap, ◌∙◌}
use Rattle.std.specs.List.{flat_map, list_any}
use Rattle.std.specs.Str.{bytes_eq, encode_utf8_all}
use Rattle.std.proofs.Math.Bool.{and-false, and-true, and_assoc}
use Rattle.std.proofs.lemmas.List.{map-append}
use Rattle.std.proofs.lemmas.List.Folds.{list_any-append}
use Rattle.cedar_data.proofs.Lists.{list_any-map}
use Rattle.cedar_identifiers.specs.Names.{components_of}
use Rattle.cedar_identifiers.specs.declared.id.Id.{Id}
use Rattle.cedar_identifiers.specs.declared.name.Name.{Name}
use Rattle.cedar_identifiers.specs.declared.name_text.NameText as named
use Rattle.cedar_identifiers.specs.declared.raw_name.RawName.{RawName}
use Rattle.cedar_names.specs.Definitions.{among, among_actions, same_name, same_action}
use Rattle.schema_json.specs.Actions.{action_name}
use Rattle.schema_json.specs.declared.fragment.Fragment.{Fragment}
use Rattle.schema_json.specs.declared.fragment.NamespaceDefinition.{NamespaceDefinition}
use Rattle.schema_resolve_definitions.specs.Declarations.{declared, declared_name, action_type, commons_in, entities_in}
use Rattle.schema_resolve_definitions.specs.Declarations.{actions_in}
use Rattle.schema_resolve_lookup.specs.Sought.{namespace_words, is_some_list, passes_in}

-- what one test or another tells
pub or_passed : (first x y all : Bool) → first ≡ true → first ≡ x → all ≡ (x || y) → first ≡ all
or_passed first x y all h e whole = h ∙ sym (whole ∙ ap (λ b. b || y) (sym e ∙ h))

pub or_next : (first second x y all : Bool) → first ≡ false → first ≡ x → second ≡ y → all ≡ (x || y) → second ≡ all
or_next first second x y all h e k whole = k ∙ sym (whole ∙ ap (λ b. b || y) (sym e ∙ h))

and_first : (a b c : Bool) → ((a && b) && c) ≡ (b && (a && c))
and_first true b c = refl
and_first false true c = refl
and_first false false c = refl

-- of two names the words before the last, and the last ones
no_words : (xs : List (List ℕ)) (l : List ℕ) → same_name (xs ++ l ∷ []) [] ≡ false
no_words [] l = refl
no_words (x ∷ xs) l = refl

some_words : (ys : List (List ℕ)) (m : List ℕ) → same_name [] (ys ++ m ∷ []) ≡ false
some_words [] m = refl
some_words (y ∷ ys) m = refl

pub same_behind : (xs ys : List (List ℕ)) (l m : List ℕ)
    → same_name (xs ++ l ∷ []) (ys ++ m ∷ []) ≡ (same_name xs ys && bytes_eq l m)
same_behind [] [] l m = and-true (bytes_eq l m)
same_behind [] (y ∷ ys) l m = ap (λ b. bytes_eq l y && b) (some_words ys m) ∙ and-false (bytes_eq l y)
same_behind (x ∷ xs) [] l m = ap (λ b. bytes_eq x m && b) (no_words xs l) ∙ and-false (bytes_eq x m)
same_behind (x ∷ xs) (y ∷ ys) l m =
    ap (λ b. bytes_eq x y && b) (same_behind xs ys l m)
    ∙ sym (and_assoc (bytes_eq x y) (same_name xs ys) (bytes_eq l m))

-- whether a word is `Action`, told of a copy of it
pub is_action_word : (l lent : List ℕ) (answer : Bool) → lent ≡ l → answer ≡ bytes_eq lent (codes "Action")
    → bytes_eq l (codes "Action") ≡ answer
is_action_word l lent answer same told = ap (λ t. bytes_eq t (codes "Action")) (sym same) ∙ sym told

-- a test of some item
pub any_given : {A B : Type 0} (test : B → Bool) (give : A → List B) (xs : List A)
    → list_any test (flat_map give xs) ≡ list_any (λ x. list_any test (give x)) xs
any_given test give [] = refl
any_given test give (x ∷ xs) =
    list_any-append test (give x) (flat_map give xs) ∙ ap (λ b. list_any test (give x) || b) (any_given test give xs)

pub any_where : {A : Type 0} (b : Bool) (test : A → Bool) (xs : List A)
    → list_any (λ x. b && test x) xs ≡ (b && list_any test xs)
any_where true test xs = refl
any_where false test [] = refl
any_where false test (x ∷ xs) = any_where false test xs

any_of_all : {A : Type 0} (b : Bool) (xs : List A) → list_any (λ x. b) xs ≡ (b && is_some_list xs)
any_of_all true [] = refl
any_of_all true (x ∷ xs) = refl
any_of_all false [] = refl
any_of_all false (x ∷ xs) = any_of_all false xs

-- a declared name is its word behind the words of its namespace
declared_words : (ns : Option Name) (id : Id) → components_of (declared_name ns id) ≡ namespace_words ns ++ id.text ∷ []
declared_words None id = refl
declared_words (Some ns) id = ap (λ l. ns.name.first.text ∷ l)
    (map-append (λ (i : Id). i.text) ns.name.others (id ∷ []))

action_words : (ns : Option Name) → components_of (action_type ns) ≡ namespace_words ns ++ codes "Action" ∷ []
action_words None = refl
action_words (Some ns) =
    ap (λ l. ns.name.first.text ∷ l) (map-append (λ (i : Id). i.text) ns.name.others (action_name.first ∷ []))

-- it is the one of these words
declared_there : (ns : Option Name) (id : Id) (xs : List (List ℕ)) (l : List ℕ)
    → same_name (xs ++ l ∷ []) (components_of (declared_name ns id))
    ≡ (same_name xs (namespace_words ns) && bytes_eq l id.text)
declared_there ns id xs l = ap (same_name (xs ++ l ∷ [])) (declared_words ns id)
    ∙ same_behind xs (namespace_words ns) l id.text

module _ {G : named.Ghosts RawName} (ns : Option Name) (n : NamespaceDefinition RawName G) (xs : List (List ℕ))
    (l : List ℕ) where
  pub common_there : among (commons_in ns n) (xs ++ l ∷ [])
      ≡ (same_name xs (namespace_words ns) && list_any (λ e. bytes_eq l e.0.id.id.text) n.common_types)
  common_there =
      list_any-map (same_name (xs ++ l ∷ [])) (λ e. components_of (declared_name ns e.0.id.id)) n.common_types
      ∙ (λ i. list_any (λ e. declared_there ns e.0.id.id xs l i) n.common_types)
      ∙ any_where (same_name xs (namespace_words ns)) (λ e. bytes_eq l e.0.id.id.text) n.common_types

  pub entity_there : among (entities_in ns n) (xs ++ l ∷ [])
      ≡ (same_name xs (namespace_words ns) && list_any (λ e. bytes_eq l e.0.id.text) n.entity_types)
  entity_there =
      list_any-map (same_name (xs ++ l ∷ [])) (λ e. components_of (declared_name ns e.0.id)) n.entity_types
      ∙ (λ i. list_any (λ e. declared_there ns e.0.id xs l i) n.entity_types)
      ∙ any_where (same_name xs (namespace_words ns)) (λ e. bytes_eq l e.0.id.text) n.entity_types

  pub action_there : among (map (λ a. a.0) (actions_in ns n)) (xs ++ l ∷ [])
      ≡ ((same_name xs (namespace_words ns) && bytes_eq l (codes "Action")) && is_some_list n.actions)
  action_there =
      list_any-map (same_name (xs ++ l ∷ [])) (λ a. a.0) (actions_in ns n)
      ∙ list_any-map (λ a. same_name (xs ++ l ∷ []) a.0) (λ e. (components_of (action_type ns), e.0)) n.actions
      ∙ any_of_all (same_name (xs ++ l ∷ []) (components_of (action_type ns))) n.actions
      ∙ ap (λ b. b && is_some_list n.actions)
      (ap (same_name (xs ++ l ∷ [])) (action_words ns) ∙ same_behind xs (namespace_words ns) l (codes "Action"))

  pub named_there : (id : List ℕ) → among_actions (actions_in ns n) (xs ++ l ∷ [], id)
      ≡ ((same_name xs (namespace_words ns) && bytes_eq l (codes "Action"))
      && list_any (λ e. bytes_eq (encode_utf8_all id) (encode_utf8_all e.0)) n.actions)
  named_there id =
      let told = list_any (λ e. bytes_eq (encode_utf8_all id) (encode_utf8_all e.0)) n.actions in
      list_any-map (same_action (xs ++ l ∷ [], id)) (λ e. (components_of (action_type ns), e.0)) n.actions
      ∙ any_where (same_name (xs ++ l ∷ []) (components_of (action_type ns)))
      (λ e. bytes_eq (encode_utf8_all id) (encode_utf8_all e.0)) n.actions
      ∙ ap (λ b. b && told)
      (ap (same_name (xs ++ l ∷ [])) (action_words ns) ∙ same_behind xs (namespace_words ns) l (codes "Action"))

module _ {G : named.Ghosts RawName} (f : Fragment RawName G) (xs : List (List ℕ)) (l : List ℕ) where
  -- of the whole fragment it is told by the namespace
  pub commons_given : among (declared f).commons (xs ++ l ∷ [])
      ≡ passes_in f xs (λ n. list_any (λ e. bytes_eq l e.0.id.id.text) n.common_types)
  commons_given =
      any_given (same_name (xs ++ l ∷ [])) (λ e. commons_in e.0 e.1) f.0
      ∙ (λ i. list_any (λ e. common_there e.0 e.1 xs l i) f.0)

  pub entities_given : among (declared f).entities (xs ++ l ∷ [])
      ≡ passes_in f xs (λ n. list_any (λ e. bytes_eq l e.0.id.text) n.entity_types)
  entities_given =
      any_given (same_name (xs ++ l ∷ [])) (λ e. entities_in e.0 e.1) f.0
      ∙ (λ i. list_any (λ e. entity_there e.0 e.1 xs l i) f.0)

  pub types_given : among (map (λ a. a.0) (declared f).actions) (xs ++ l ∷ [])
      ≡ (bytes_eq l (codes "Action") && passes_in f xs (λ n. is_some_list n.actions))
  types_given =
      list_any-map (same_name (xs ++ l ∷ [])) (λ (a : List (List ℕ) × List ℕ). a.0) (declared f).actions
      ∙ any_given (λ (a : List (List ℕ) × List ℕ). same_name (xs ++ l ∷ []) a.0) (λ e. actions_in e.0 e.1) f.0
      ∙ sym (λ i. list_any (λ e. list_any-map (same_name (xs ++ l ∷ [])) (λ (a : List (List ℕ) × List ℕ). a.0)
      (actions_in e.0 e.1) i) f.0)
      ∙ (λ i. list_any (λ e. (action_there e.0 e.1 xs l
      ∙ and_first (same_name xs (namespace_words e.0)) (bytes_eq l (codes "Action")) (is_some_list e.1.actions)) i) f.0)
      ∙ any_where (bytes_eq l (codes "Action"))
      (λ e. same_name xs (namespace_words e.0) && is_some_list e.1.actions) f.0

  pub actions_given : (id : List ℕ) → among_actions (declared f).actions (xs ++ l ∷ [], id)
      ≡ (bytes_eq l (codes "Action")
      && passes_in f xs (λ n. list_any (λ e. bytes_eq (encode_utf8_all id) (encode_utf8_all e.0)) n.actions))
  actions_given id =
      any_given (same_action (xs ++ l ∷ [], id)) (λ e. actions_in e.0 e.1) f.0
      ∙ (λ i. list_any (λ e. (named_there e.0 e.1 xs l id
      ∙ and_first (same_name xs (namespace_words e.0)) (bytes_eq l (codes "Action"))
      (list_any (λ a. bytes_eq (encode_utf8_all id) (encode_utf8_all a.0)) e.1.actions)) i) f.0)
      ∙ any_where (bytes_eq l (codes "Action"))
      (λ e. same_name xs (namespace_words e.0)
      && list_any (λ a. bytes_eq (encode_utf8_all id) (encode_utf8_all a.0)) e.1.actions) f.0
