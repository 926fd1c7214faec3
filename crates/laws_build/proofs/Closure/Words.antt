-- Names that are made of words, and names that are declared.
use Rattle.std.proofs.Common.{◌≡◌, ℕ, true, false, ◌&&◌, List, [], ◌∷◌, ◌++◌, Contains, Option, Some, None}
use Rattle.std.proofs.Common.{codes, refl, ap, ◌∙◌}
use Rattle.std.proofs.lemmas.List.{map-append}
use Rattle.std.specs.Str.{bytes_eq, encode_utf8_all}
use Rattle.std.proofs.lemmas.List.Folds.{list_any-append, list_any_at}
use Rattle.std.proofs.lemmas.Slice.Eq.{bytes_eq-Decides}
use Rattle.std.proofs.lemmas.Bool.{or_from}
use Rattle.cedar_data.specs.declared.loc.Loc.{Loc}
use Rattle.cedar_identifiers.specs.Candidates.{qualified}
use Rattle.cedar_identifiers.specs.Names.{components_of, texts_of, has_cedar}
use Rattle.cedar_identifiers.specs.Words.{is_cedar}
use Rattle.cedar_identifiers.specs.declared.id.Id.{Id}
use Rattle.cedar_identifiers.specs.declared.internal_name.InternalName.{InternalName}
use Rattle.cedar_identifiers.specs.declared.name.Name.{Name}
use Rattle.cedar_names.specs.Definitions.{same_name, among, same_action, among_actions}
use Rattle.cedar_names.proofs.Defined.{name_itself}
use Rattle.schema_json.specs.Actions.{action_name}
use Rattle.laws_written.specs.Printed.{IsProperPath}
use Rattle.laws_written.specs.PrintedDecls.{IsSome}
use Rattle.schema_resolve_definitions.specs.Declarations.{name_of, action_type}

-- names of words
pub proper_texts : (i : Id) (is : List Id) → IsProperPath (texts_of (i ∷ is))
proper_texts i [] = i.word
proper_texts i (j ∷ js) = (i.word, proper_texts j js)

pub proper_name : (n : InternalName) → IsProperPath (components_of n)
proper_name n = proper_texts n.first n.others

-- a word behind a namespace
pub some_behind : {A : Type 0} (xs : List A) (x : A) → IsSome (xs ++ x ∷ [])
some_behind [] x = tt
some_behind (y ∷ xs) x = tt

-- the components of a namespace, of which the empty one has none
abbrev pub front : Option Name → List (List ℕ)
front None = []
front (Some n) = components_of n.name

pub full_name : (ns : Option Name) (id : Id) (loc : Option Loc)
    → components_of (qualified (name_of ns) (record { first = id; others = []; loc = loc })) ≡ front ns ++ id.text ∷ []
full_name None id loc = refl
full_name (Some n) id loc = map-append (λ (i : Id). i.text) (n.name.first ∷ n.name.others) (id ∷ [])

pub action_type_full : (ns : Option Name) → components_of (action_type ns) ≡ front ns ++ codes "Action" ∷ []
action_type_full ns = full_name ns action_name.first None

front_free : (ns : Option Name) → has_cedar (front ns) ≡ false
front_free None = refl
front_free (Some n) = n.unreserved

pub free_behind : (ns : Option Name) (w : List ℕ) → is_cedar w ≡ false → has_cedar (front ns ++ w ∷ []) ≡ false
free_behind ns w free =
    list_any-append is_cedar (front ns) (w ∷ [])
    ∙ or_from (has_cedar (front ns)) (has_cedar (w ∷ [])) (front_free ns) (or_from (is_cedar w) false free refl)

pub among_there : (names : List (List (List ℕ))) (n : List (List ℕ)) → Contains names n → among names n ≡ true
among_there names n (k, lt, e) = list_any_at (same_name n) names k n lt (ap (same_name n) e ∙ name_itself n)

action_itself : (a : List (List ℕ) × List ℕ) → same_action a a ≡ true
action_itself a = ap (λ b. b && bytes_eq (encode_utf8_all a.1) (encode_utf8_all a.1)) (name_itself a.0)
    ∙ (bytes_eq-Decides (encode_utf8_all a.1) (encode_utf8_all a.1)).1 refl

pub actions_there : (actions : List (List (List ℕ) × List ℕ)) (a : List (List ℕ) × List ℕ) → Contains actions a
    → among_actions actions a ≡ true
actions_there actions a (k, lt, e) =
    list_any_at (same_action a) actions k a lt (ap (same_action a) e ∙ action_itself a)
