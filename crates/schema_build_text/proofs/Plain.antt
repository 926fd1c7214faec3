-- Names among which the empty namespace's `Action` is.
use Rattle.std.proofs.Common.{◌≡◌, ℕ, Bool, true, false, ◌||◌, ◌==◌, length, List, [], ◌∷◌, codes, map, refl, ap}
use Rattle.std.proofs.Common.{sym, ◌∙◌}
use Rattle.std.specs.declared.cmp.Ordering.{Ordering}
use Rattle.std.specs.declared.cmp.Ordering.TheVariants.{Equal}
use Rattle.std.specs.Ordering.{is_eq}
use Rattle.std.specs.Cmp.Lexicographic.{slice_cmp}
use Rattle.std.specs.List.{list_any}
use Rattle.std.specs.Str.{bytes_eq}
use mathlib.Core.Bool.{and-false}
use Rattle.cedar_data.specs.Text.{text_cmp}
use Rattle.cedar_identifiers.specs.Names.{components_of, texts_of}
use Rattle.cedar_identifiers.specs.declared.id.Id.{Id}
use Rattle.cedar_identifiers.specs.declared.name.Name.{Name}
use Rattle.cedar_names.specs.Definitions.{same_name, among}
use Rattle.cedar_names.proofs.Defined.{equal_names}
use Rattle.schema_build_types.specs.Content.{names_content}
use Rattle.schema_build_types.proofs.Inserted.{any_insert}
use Rattle.schema_build_text.specs.Captured.{plain_action}
use Rattle.schema_build_text.specs.Rows.{sorted_once}
use Rattle.schema_build_text.proofs.Named.{same_lists}
use Rattle.schema_build_text.proofs.Rowed.{names_sorted}

-- a name of several words, and of one
pub several_words : (t : List ℕ) (os : List Id) → (length os == 0) ≡ false
    → false ≡ same_name plain_action (t ∷ texts_of os)
several_words t [] h = absurd (cc)
several_words t (o ∷ os) h = sym (and-false (bytes_eq (codes "Action") t))

abbrev pub is_plain : Name → Bool
is_plain n = same_name plain_action (components_of n.name)

abbrev order : Name → Name → Ordering
order x y = slice_cmp text_cmp (components_of x.name) (components_of y.name)

alike : (x y : Name) → order x y ≡ Equal → is_plain x ≡ is_plain y
alike x y e =
    ap (same_name plain_action)
    (equal_names (components_of x.name) (components_of y.name)
    (same_lists (x.name.first ∷ x.name.others) (y.name.first ∷ y.name.others) ∙ ap is_eq e))

any_sorted : (ns : List Name) → list_any is_plain (sorted_once order ns) ≡ list_any is_plain ns
any_sorted [] = refl
any_sorted (n ∷ ns) = any_insert order is_plain alike n (sorted_once order ns)
    ∙ ap (λ b. is_plain n || b) (any_sorted ns)

any_components : (ns : List Name)
    → among (map (λ n. components_of n.name) ns) plain_action ≡ list_any is_plain ns
any_components [] = refl
any_components (n ∷ ns) = ap (λ b. is_plain n || b) (any_components ns)

any_named : (ns : List Name) → among (names_content ns) plain_action ≡ list_any is_plain ns
any_named ns =
    ap (λ l. among l plain_action) (sym (names_sorted order (λ x y. refl) ns))
    ∙ (any_components (sorted_once order ns) ∙ any_sorted ns)

-- the rounds of a search
pub is_found : (names left rest : List Name) (n : Name) → list_any is_plain names ≡ list_any is_plain left
    → left ≡ n ∷ rest → true ≡ is_plain n → true ≡ among (names_content names) plain_action
is_found names left rest n e f h =
    ap (λ b. b || list_any is_plain rest) h ∙ sym (any_named names ∙ (e ∙ ap (list_any is_plain) f))

pub is_nowhere : (names left : List Name) → list_any is_plain names ≡ list_any is_plain left → left ≡ []
    → false ≡ among (names_content names) plain_action
is_nowhere names left e f = sym (any_named names ∙ (e ∙ ap (list_any is_plain) f))
