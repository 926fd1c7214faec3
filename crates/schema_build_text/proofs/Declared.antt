-- Declarations by what is declared.
use Rattle.std.proofs.Common.{◌≡◌, ℕ, ◌+◌, suc, ◌==◌, Bool, true, false, subst, List, [], ◌∷◌, ◌++◌, codes, map}
use Rattle.std.proofs.Common.{length}
use Rattle.std.proofs.Common.{refl, ap, sym, ◌∙◌, append_assoc, arith}
use Rattle.std.proofs.lemmas.Bool.{eqb-true, ne_eqb}
use Rattle.std.specs.Cmp.Lexicographic.{slice_cmp}
use Rattle.cedar_data.specs.Rows.{joined_by}
use Rattle.cedar_data.specs.Text.{text_cmp}
use Rattle.cedar_identifiers.specs.Names.{components_of, name_text}
use Rattle.cedar_identifiers.specs.declared.name.Name.{Name}
use Rattle.cedar_names.specs.CanonicalText.{applies_text, context_text, shape_text, record_text, lines_text, list_text}
use Rattle.cedar_names.specs.CanonicalText.{spaces}
use Rattle.cedar_names.specs.Meaning.{Attributes}
use Rattle.schema_build_types.specs.Content.{names_content, attributes_content}
use Rattle.schema_build_types.specs.declared.types.Type.{«Type»}
use Rattle.schema_build_text.specs.Readings.{plain_attributes}
use Rattle.schema_build_text.proofs.Rowed.{some_sorted, in_order_is, no_items}

-- attributes, where there are none and where there are some
pub no_shape : (base : ℕ) (entries : List (List ℕ × («Type» × Bool))) → (length entries == 0) ≡ true
    → [] ≡ shape_text true base (plain_attributes (attributes_content entries))
no_shape base [] h = refl
no_shape base (e ∷ es) h = absurd (omega (arith, eqb-true (length (e ∷ es)) 0 h))

pub some_shape : (base : ℕ) (entries : List (List ℕ × («Type» × Bool))) → (length entries == 0) ≡ false
    → codes " = {\n" ++ (lines_text true base (plain_attributes (attributes_content entries))
    ++ (spaces base ++ codes "}")) ≡ shape_text true base (plain_attributes (attributes_content entries))
some_shape base [] h = absurd (cc)
some_shape base (e ∷ es) h = refl

pub no_context : (base : ℕ) (entries : List (List ℕ × («Type» × Bool))) → (length entries == 0) ≡ true
    → codes "{}" ≡ context_text true base (plain_attributes (attributes_content entries))
no_context base [] h = refl
no_context base (e ∷ es) h = absurd (omega (arith, eqb-true (length (e ∷ es)) 0 h))

pub some_context : (base : ℕ) (entries : List (List ℕ × («Type» × Bool))) → (length entries == 0) ≡ false
    → record_text true base (plain_attributes (attributes_content entries))
    ≡ context_text true base (plain_attributes (attributes_content entries))
some_context base [] h = absurd (cc)
some_context base (e ∷ es) h = refl

nonzero : (n : ℕ) → (suc n == 0) ≡ false
nonzero n = ne_eqb (suc n) 0 (λ e. omega arith)

-- names that are some are some in order
some_names : (P : List (List (List ℕ)) → Type 0) → ((y : List (List ℕ)) (ys : List (List (List ℕ))) → P (y ∷ ys))
    → (names : List Name)
    → (length names == 0) ≡ false → P (names_content names)
some_names P p [] h = absurd (cc)
some_names P p (x ∷ xs) h = subst P (sym (in_order_is (components_of x.name ∷ map (λ n. components_of n.name) xs)))
    (some_sorted (slice_cmp text_cmp) P p (components_of x.name ∷ map (λ n. components_of n.name) xs)
    (nonzero (length (map (λ (n : Name). components_of n.name) xs))))

pub no_principals : (base : ℕ) (ps rs : List Name) (context : Attributes) → (length ps == 0) ≡ true
    → [] ≡ applies_text true base (names_content ps) (names_content rs) context
no_principals base ps rs context h =
    sym (ap (λ l. applies_text true base (names_content l) (names_content rs) context) (no_items ps h))

no_resources_by : (base : ℕ) (ps : List (List (List ℕ))) (context : Attributes)
    → applies_text true base ps [] context ≡ []
no_resources_by base [] context = refl
no_resources_by base (p ∷ ps) context = refl

pub no_resources : (base : ℕ) (ps rs : List Name) (context : Attributes) → (length rs == 0) ≡ true
    → [] ≡ applies_text true base (names_content ps) (names_content rs) context
no_resources base ps rs context h =
    sym (ap (λ l. applies_text true base (names_content ps) (names_content l) context) (no_items rs h)
    ∙ no_resources_by base (names_content ps) context)

-- what an action applies to
abbrev pub block_text : ℕ → ℕ → List (List (List ℕ)) → List (List (List ℕ)) → Attributes → List ℕ
block_text base inner ps rs context =
    codes " appliesTo {\n"
    ++ ((spaces inner ++ (codes "principal: " ++ (list_text (map name_text ps) ++ codes ",\n")))
    ++ ((spaces inner ++ (codes "resource: " ++ (list_text (map name_text rs) ++ codes ",\n")))
    ++ (spaces inner ++ (codes "context: "
    ++ (context_text true inner context ++ (codes ",\n" ++ (spaces base ++ codes "}")))))))

-- a line of names
pub names_line : (a h : List ℕ) (names : List (List ℕ))
    → a ++ ((h ++ codes "[") ++ (joined_by (codes ", ") names ++ codes "],\n"))
    ≡ a ++ (h ++ (list_text names ++ codes ",\n"))
names_line a h names =
    let row = joined_by (codes ", ") names in
    ap (λ t. a ++ t) (append_assoc h (codes "[") (row ++ codes "],\n")
    ∙ ap (λ t. h ++ (codes "[" ++ t)) (sym (append_assoc row (codes "]") (codes ",\n"))))

line_assoc : (a h l b : List ℕ) → (a ++ (h ++ (l ++ codes ",\n"))) ++ b ≡ a ++ (h ++ (l ++ (codes ",\n" ++ b)))
line_assoc a h l b =
    append_assoc a (h ++ (l ++ codes ",\n")) b
    ∙ ap (λ t. a ++ t) (append_assoc h (l ++ codes ",\n") b ∙ ap (λ t. h ++ t) (append_assoc l (codes ",\n") b))

both_laid : (base : ℕ) (p : List (List ℕ)) (ps : List (List (List ℕ))) (r : List (List ℕ)) (rs : List (List (List ℕ)))
    (context : Attributes)
    → block_text base (base + 2) (p ∷ ps) (r ∷ rs) context ≡ applies_text true base (p ∷ ps) (r ∷ rs) context
both_laid base p ps r rs context =
    let inner = spaces (base + 2) in
    let first = list_text (map name_text (p ∷ ps)) in
    let second = list_text (map name_text (r ∷ rs)) in
    let end = inner ++ (codes "context: "
    ++ (context_text true (base + 2) context ++ (codes ",\n" ++ (spaces base ++ codes "}")))) in
    ap (λ t. codes " appliesTo {\n" ++ t)
    (line_assoc inner (codes "principal: ") first ((inner ++ (codes "resource: " ++ (second ++ codes ",\n"))) ++ end)
    ∙ ap (λ t. inner ++ (codes "principal: " ++ (first ++ (codes ",\n" ++ t))))
    (line_assoc inner (codes "resource: ") second end))

pub both_targets : (base inner : ℕ) (ps rs : List Name) (context : Attributes) → inner ≡ base + 2
    → (length ps == 0) ≡ false
    → (length rs == 0) ≡ false
    → block_text base inner (names_content ps) (names_content rs) context
    ≡ applies_text true base (names_content ps) (names_content rs) context
both_targets base inner ps rs context e h k =
    ap (λ n. block_text base n (names_content ps) (names_content rs) context) e
    ∙ some_names (λ xs. block_text base (base + 2) xs (names_content rs) context
    ≡ applies_text true base xs (names_content rs) context)
    (λ p more. some_names (λ ys. block_text base (base + 2) (p ∷ more) ys context
    ≡ applies_text true base (p ∷ more) ys context) (λ r others. both_laid base p more r others context) rs k) ps h
