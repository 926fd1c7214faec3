-- A name is that of a builtin type where its last word is, behind `__cedar` or, not hidden, by itself.
use Rattle.std.proofs.Common.{◌≡◌, ℕ, Bool, true, false, not, ◌&&◌, ◌||◌, List, [], ◌∷◌, ◌++◌, codes, Option, Some}
use Rattle.std.proofs.Common.{None, refl, sym, ap, ◌∙◌, subst}
use Rattle.std.specs.Prelude.{if◌then◌else◌}
use Rattle.std.specs.List.{list_any}
use Rattle.std.specs.Str.{bytes_eq}
use Rattle.std.proofs.Math.Bool.{and-false, or-false, and-true}
use Rattle.std.proofs.lemmas.Slice.Eq.{bytes_eq-Decides}
use Rattle.std.proofs.lemmas.Bool.{or_parts}
use Rattle.cedar_data.proofs.Lists.{list_any-map}
use Rattle.cedar_identifiers.specs.Names.{texts_of}
use Rattle.cedar_names.specs.Definitions.{among, same_name}
use Rattle.cedar_names.specs.Tables.{table_names, table_has}
use Rattle.cedar_names.specs.declared.extension_table.ExtensionTable.{ExtensionTable}
use Rattle.schema_resolve_definitions.specs.Defined.{builtins, is_hidden, names_of_builtin, names_of_builtins}
use Rattle.schema_resolve_definitions.specs.Tests.{Tests}
use Rattle.schema_resolve_lookup.specs.Sought.{words_before}
use Rattle.schema_resolve_lookup.specs.declared.sought.Before.{Before}
use Rattle.schema_resolve_lookup.proofs.Looked.{same_behind, any_given, any_where}

abbrev pub cedar : List (List ℕ)
cedar = codes "__cedar" ∷ []

-- a word is hidden where it is the same as one that is
hidden_alike : (t : Tests) (l w : List ℕ)
    → (bytes_eq l w && not (is_hidden t w)) ≡ (not (is_hidden t l) && bytes_eq l w)
hidden_alike t l w = go (bytes_eq l w) refl
  where
    go : (b : Bool) → bytes_eq l w ≡ b → (b && not (is_hidden t w)) ≡ (not (is_hidden t l) && b)
    go true e = ap (λ x. not (is_hidden t x)) (sym ((bytes_eq-Decides l w).0 e)) ∙ sym (and-true (not (is_hidden t l)))
    go false e = sym (and-false (not (is_hidden t l)))

-- a word by itself
alone_there : (t : Tests) (l w : List ℕ)
    → among (names_of_builtin t w) (l ∷ []) ≡ (not (is_hidden t l) && bytes_eq l w)
alone_there t l w = go (is_hidden t w) refl ∙ hidden_alike t l w
  where
    go : (h : Bool) → is_hidden t w ≡ h
        → ((bytes_eq l (codes "__cedar") && false) || list_any (same_name (l ∷ [])) (if h then [] else (w ∷ []) ∷ []))
        ≡ (bytes_eq l w && not h)
    go true e = ap (λ b. b || false) (and-false (bytes_eq l (codes "__cedar"))) ∙ sym (and-false (bytes_eq l w))
    go false e =
        ap (λ b. b || ((bytes_eq l w && true) || false)) (and-false (bytes_eq l (codes "__cedar")))
        ∙ or-false (bytes_eq l w && true)

pub builtin_alone : (t : Tests) (l : List ℕ) (ws : List (List ℕ))
    → among (names_of_builtins t ws) (l ∷ []) ≡ (not (is_hidden t l) && list_any (bytes_eq l) ws)
builtin_alone t l ws =
    any_given (same_name (l ∷ [])) (names_of_builtin t) ws ∙ (λ i. list_any (λ w. alone_there t l w i) ws)
    ∙ any_where (not (is_hidden t l)) (bytes_eq l) ws

-- a word behind others
behind_there : (t : Tests) (x : List ℕ) (xs : List (List ℕ)) (l w : List ℕ)
    → among (names_of_builtin t w) (x ∷ xs ++ l ∷ []) ≡ (same_name (x ∷ xs) cedar && bytes_eq l w)
behind_there t x xs l w = go (is_hidden t w) ∙ ap (λ b. b || false) (same_behind (x ∷ xs) cedar l w) ∙ or-false _
  where
    none : (ys : List (List ℕ)) → (bytes_eq x w && same_name (ys ++ l ∷ []) []) ≡ false
    none [] = and-false (bytes_eq x w)
    none (y ∷ ys) = and-false (bytes_eq x w)

    go : (h : Bool)
        → (same_name (x ∷ xs ++ l ∷ []) (cedar ++ w ∷ [])
        || list_any (same_name (x ∷ xs ++ l ∷ [])) (if h then [] else (w ∷ []) ∷ []))
        ≡ (same_name (x ∷ xs ++ l ∷ []) (cedar ++ w ∷ []) || false)
    go true = refl
    go false =
        ap (λ b. same_name (x ∷ xs ++ l ∷ []) (cedar ++ w ∷ []) || b)
        (or-false (bytes_eq x w && same_name (xs ++ l ∷ []) []) ∙ none xs)

pub builtin_behind : (t : Tests) (x : List ℕ) (xs : List (List ℕ)) (l : List ℕ) (ws : List (List ℕ))
    → among (names_of_builtins t ws) (x ∷ xs ++ l ∷ []) ≡ (same_name (x ∷ xs) cedar && list_any (bytes_eq l) ws)
builtin_behind t x xs l ws =
    any_given (same_name (x ∷ xs ++ l ∷ [])) (names_of_builtin t) ws
    ∙ (λ i. list_any (λ w. behind_there t x xs l w i) ws)
    ∙ any_where (same_name (x ∷ xs) cedar) (bytes_eq l) ws

-- a test that passes beside another
with_true : (a b : Bool) → b ≡ true → a ≡ (a && b)
with_true true b e = sym e
with_true false b e = refl

-- what is told of a name whose last word is builtin, behind a namespace or by itself, and of another
pub told_behind : (t : Tests) (o : Option Before) (before : Before) (l : List ℕ) (ws : List (List ℕ)) (answer : Bool)
    → o ≡ Some before → list_any (bytes_eq l) ws ≡ true → answer ≡ same_name (words_before (Some before)) cedar
    → answer ≡ among (names_of_builtins t ws) (words_before o ++ l ∷ [])
told_behind t o before l ws answer is builtin h =
    subst (λ o. answer ≡ among (names_of_builtins t ws) (words_before o ++ l ∷ [])) (sym is)
    (h ∙ with_true (same_name (words_before (Some before)) cedar) (list_any (bytes_eq l) ws) builtin
    ∙ sym (builtin_behind t before.first.now.text (texts_of before.others.now) l ws))

pub told_alone : (t : Tests) (o : Option Before) (l : List ℕ) (ws : List (List ℕ)) (hidden : Bool) → o ≡ None
    → list_any (bytes_eq l) ws ≡ true
    → hidden ≡ (t.is_common (words_before o ++ l ∷ []) || t.is_entity (words_before o ++ l ∷ []))
    → not hidden ≡ among (names_of_builtins t ws) (words_before o ++ l ∷ [])
told_alone t None l ws hidden is builtin h =
    ap not h ∙ with_true (not (is_hidden t l)) (list_any (bytes_eq l) ws) builtin ∙ sym (builtin_alone t l ws)
told_alone t (Some before) l ws hidden is builtin h = absurd (cc)

pub shown_alone : (t : Tests) (o : Option Before) (l : List ℕ) (ws : List (List ℕ)) → o ≡ None
    → list_any (bytes_eq l) ws ≡ true → is_hidden t l ≡ false
    → true ≡ among (names_of_builtins t ws) (words_before o ++ l ∷ [])
shown_alone t None l ws is builtin shown = told_alone t None l ws false is builtin (sym shown)
shown_alone t (Some before) l ws is builtin shown = absurd (cc)

pub told_other : (t : Tests) (o : Option Before) (l : List ℕ) (ws : List (List ℕ)) (answer : Bool) → answer ≡ false
    → answer ≡ list_any (bytes_eq l) ws → answer ≡ among (names_of_builtins t ws) (words_before o ++ l ∷ [])
told_other t None l ws answer stopped h =
    stopped ∙ sym (builtin_alone t l ws ∙ ap (λ b. not (is_hidden t l) && b) (sym h ∙ stopped)
    ∙ and-false (not (is_hidden t l)))
told_other t (Some before) l ws answer stopped h =
    let under = same_name (words_before (Some before)) cedar in
    stopped ∙ sym (builtin_behind t before.first.now.text (texts_of before.others.now) l ws
    ∙ ap (λ b. under && b) (sym h ∙ stopped) ∙ and-false under)

-- a builtin word is not hidden where none of them is
pub not_hidden : (t : Tests) (l : List ℕ) (ws : List (List ℕ)) → list_any (bytes_eq l) ws ≡ true
    → list_any (is_hidden t) ws ≡ false → is_hidden t l ≡ false
not_hidden t l [] there none = absurd (cc)
not_hidden t l (w ∷ ws) there none =
    by (bytes_eq l w) refl
    (λ e. not_hidden t l ws (ap (λ b. b || list_any (bytes_eq l) ws) (sym e) ∙ there)
    (or_parts (is_hidden t w) (list_any (is_hidden t) ws) none).1)
  where
    by : (b : Bool) → bytes_eq l w ≡ b → (bytes_eq l w ≡ false → is_hidden t l ≡ false) → is_hidden t l ≡ false
    by true e others = ap (is_hidden t) ((bytes_eq-Decides l w).0 e)
        ∙ (or_parts (is_hidden t w) (list_any (is_hidden t) ws) none).0
    by false e others = others e

-- behind three that are not
pub past_three : (x y z rest : Bool) → (x || (y || (z || false))) ≡ false → rest ≡ (x || (y || (z || rest)))
past_three false false false rest none = refl
past_three true y z rest none = absurd (cc)
past_three false true z rest none = absurd (cc)
past_three false false true rest none = absurd (cc)

-- the builtin words
joined : (a b c d : Bool) → (a || (b || (c || d))) ≡ ((a || (b || (c || false))) || d)
joined true b c d = refl
joined false true c d = refl
joined false false true d = refl
joined false false false d = refl

pub is_builtin_word : (table : ExtensionTable) (w : List ℕ) → list_any (bytes_eq w) (builtins table)
    ≡ (list_any (bytes_eq w) (codes "Bool" ∷ codes "Long" ∷ codes "String" ∷ []) || table_has table w)
is_builtin_word table w =
    joined (bytes_eq w (codes "Bool")) (bytes_eq w (codes "Long")) (bytes_eq w (codes "String"))
    (list_any (bytes_eq w) (table_names table))
    ∙ ap (λ b. list_any (bytes_eq w) (codes "Bool" ∷ codes "Long" ∷ codes "String" ∷ []) || b)
    (list_any-map (bytes_eq w) (λ n. n.id.text) table.names)
