-- Rows of texts, one more at a time.
use denote.Param.Weighed.{most}
use Rattle.std.proofs.Common.{◌≡◌, ℕ, zero, suc, ◌≤◌, arith, ◌+◌, ◌<◌, Bool, true, false, List, [], ◌∷◌, ◌++◌}
use Rattle.std.proofs.Common.{codes, map, length, drop, ◌==◌}
use Rattle.std.proofs.Common.{drop-cons, get_or, add-one, refl, ap, sym, ◌∙◌, append_assoc}
use Rattle.cedar_data.specs.Rows.{row_behind, separator_where}
use Rattle.cedar_identifiers.specs.Names.{components_of}
use Rattle.cedar_identifiers.specs.declared.name.Name.{Name}
use Rattle.schema_inclusion_values.specs.Seen.{value_of, entries_value, parents_value}
use Rattle.schema_inclusion_values.specs.Values.{Text, Rec}
use Rattle.schema_inclusion_values.specs.declared.val.Val as held
use Rattle.schema_inclusion_shown.specs.Members.{members_value}
use Rattle.schema_inclusion_shown.specs.ValueTexts.{entity_text, key_text, value_text, members_text, entries_text, record_behind}

-- the item at a place, and those behind it
dropped : {A : Type 0} (xs : List A) (i : ℕ) (d : A) → i < length xs → d ≡ get_or xs i d
    → drop i xs ≡ d ∷ drop (i + 1) xs
dropped xs i d h e = rw (add-one, drop-cons xs i d) (ap (λ x. x ∷ drop (suc i) xs) (sym e))

pub member_step : (b : Bool) (vs : List held.Val) (i : ℕ) (d : held.Val) → i < length vs → d ≡ get_or vs i d
    → members_text b (members_value (drop i vs))
    ≡ (separator_where (codes ", ") b ++ value_text (value_of d)) ++ members_text true (members_value (drop (i + 1) vs))
member_step b vs i d h e =
    ap (λ l. members_text b (members_value l)) (dropped vs i d h e)
    ∙ sym (append_assoc (separator_where (codes ", ") b) (value_text (value_of d))
    (members_text true (members_value (drop (i + 1) vs))))

-- four texts in a row
four : (a b c d e : List ℕ) → (a ++ (b ++ (c ++ d))) ++ e ≡ a ++ (b ++ (c ++ (d ++ e)))
four a b c d e =
    append_assoc a (b ++ (c ++ d)) e ∙ ap (λ t. a ++ t) (append_assoc b (c ++ d) e
    ∙ ap (λ t. b ++ t) (append_assoc c d e))

pub entry_step : (b : Bool) (es : List (Text × held.Val)) (i : ℕ) (d : Text × held.Val) → i < length es
    → d ≡ get_or es i d
    → entries_text b (entries_value (drop i es))
    ≡ (separator_where (codes ", ") b ++ (key_text d.0 ++ (codes ": " ++ value_text (value_of d.1))))
    ++ entries_text true (entries_value (drop (i + 1) es))
entry_step b es i d h e =
    ap (λ l. entries_text b (entries_value l)) (dropped es i d h e)
    ∙ sym (four (separator_where (codes ", ") b) (key_text d.0) (codes ": ") (value_text (value_of d.1))
    (entries_text true (entries_value (drop (i + 1) es))))

pub parent_step : (b : Bool) (ps : List (Name × Text)) (i : ℕ) (d : Name × Text) → i < length ps → d ≡ get_or ps i d
    → row_behind (codes ", ") b (map entity_text (parents_value (drop i ps)))
    ≡ (separator_where (codes ", ") b ++ entity_text (components_of d.0.name, d.1))
    ++ row_behind (codes ", ") true (map entity_text (parents_value (drop (i + 1) ps)))
parent_step b ps i d h e =
    ap (λ l. row_behind (codes ", ") b (map entity_text (parents_value l))) (dropped ps i d h e)
    ∙ sym (append_assoc (separator_where (codes ", ") b) (entity_text (components_of d.0.name, d.1))
    (row_behind (codes ", ") true (map entity_text (parents_value (drop (i + 1) ps)))))

-- a record with attributes stands in braces
pub record_filled : (es : List (Text × held.Val)) → (length es == 0) ≡ false
    → codes "{ " ++ (entries_text false (entries_value es) ++ codes " }") ≡ value_text (Rec (entries_value es))
record_filled [] h = absurd (cc)
record_filled (e ∷ es) h = refl

-- and behind the words before it
pub behind_filled : (words : List ℕ) (es : List (Text × held.Val)) → (length es == 0) ≡ false
    → words ++ value_text (Rec (entries_value es)) ≡ record_behind words (entries_value es)
behind_filled words [] h = absurd (cc)
behind_filled words (e ∷ es) h = refl

-- an item is no deeper than the deepest
pub most_in : {X : Type 0} (f : X → ℕ) (xs : List X) (i : ℕ) (d : X) → i < length xs → f (get_or xs i d) ≤ most f xs
most_in f [] i d h = absurd (omega arith)
most_in f (x ∷ xs) zero d h = omega arith
most_in f (x ∷ xs) (suc i) d h = omega (arith, most_in f xs i d (omega arith))
