-- A name's text tells its components, since no component has a colon.
use Rattle.std.specs.Prelude.{◌≡◌, ℕ, Bool, true, false, not, ◌&&◌, ◌==◌, List, [], ◌∷◌, ◌++◌, codes, refl}
use Rattle.std.specs.List.{list_all}
use Rattle.std.proofs.Common.{arith, ap, sym}
use Rattle.std.proofs.lemmas.Bool.Decides.{nat_tests}
use Rattle.cedar_data.specs.Rows.{joined_by}
use Rattle.cedar_identifiers.specs.Words.{is_reserved}
use Rattle.cedar_data.specs.Words.{is_word_part, is_word}
use Rattle.cedar_identifiers.specs.Names.{texts_of, components_of}
use Rattle.cedar_identifiers.specs.declared.id.Id.{Id}
use Rattle.cedar_identifiers.specs.declared.internal_name.InternalName.{InternalName}

-- no character is a colon
abbrev no_colon : List ℕ → Bool
no_colon [] = true
no_colon (c ∷ cs) = not (c == 58) && no_colon cs

no_colon_parts : (cs : List ℕ) → list_all is_word_part cs ≡ true → no_colon cs ≡ true
no_colon_parts [] h = refl
no_colon_parts (c ∷ cs) h = let below = no_colon_parts cs (grind (arith, nat_tests)) in grind (arith, nat_tests)

no_colon_word : (w : List ℕ) → is_word w ≡ true → no_colon w ≡ true
no_colon_word [] h = cc
no_colon_word (c ∷ cs) h = let below = no_colon_parts cs (grind (arith, nat_tests)) in grind (arith, nat_tests)

id_is_word : (a b : Bool) → (a && b) ≡ true → a ≡ true
id_is_word true b h = refl
id_is_word false b h = h

no_colon_id : (i : Id) → no_colon i.text ≡ true
no_colon_id i = no_colon_word i.text (id_is_word (is_word i.text) (not (is_reserved i.text)) i.word)

-- a text that ends at a colon has one word before it
cut_both : (w v r s : List ℕ) → no_colon w ≡ true → no_colon v ≡ true → w ++ (58 ∷ r) ≡ v ++ (58 ∷ s)
    → (w ≡ v) × (r ≡ s)
cut_both [] [] r s p q e = (refl, cc)
cut_both [] (d ∷ v) r s p q e = absurd (grind (arith, nat_tests))
cut_both (c ∷ w) [] r s p q e = absurd (grind (arith, nat_tests))
cut_both (c ∷ w) (d ∷ v) r s p q e =
    let rest = cut_both w v r s (grind (arith, nat_tests)) (grind (arith, nat_tests)) cc in
    let first : c ≡ d = cc in
    let same : w ≡ v = rest.0 in
    (cc, rest.1)

-- and a word has no colon
cut_none : (w r v : List ℕ) → no_colon v ≡ true → w ++ (58 ∷ r) ≡ v → ⊥
cut_none [] r [] q e = cc
cut_none [] r (d ∷ v) q e = grind (arith, nat_tests)
cut_none (c ∷ w) r [] q e = cc
cut_none (c ∷ w) r (d ∷ v) q e = cut_none w r v (grind (arith, nat_tests)) cc

told_by : (i j : Id) (xs ys : List Id)
    → joined_by (codes "::") (texts_of (i ∷ xs)) ≡ joined_by (codes "::") (texts_of (j ∷ ys))
    → texts_of (i ∷ xs) ≡ texts_of (j ∷ ys)
told_by i j [] [] e = ap (λ t. t ∷ []) e
told_by i j [] (y ∷ ys) e = absurd (cut_none j.text _ i.text (no_colon_id i) (sym e))
told_by i j (x ∷ xs) [] e = absurd (cut_none i.text _ j.text (no_colon_id j) e)
told_by i j (x ∷ xs) (y ∷ ys) e =
    let both = cut_both i.text j.text _ _ (no_colon_id i) (no_colon_id j) e in
    let rest : joined_by (codes "::") (texts_of (x ∷ xs)) ≡ joined_by (codes "::") (texts_of (y ∷ ys)) = cc in
    let first : i.text ≡ j.text = both.0 in
    let below = told_by x y xs ys rest in
    cc

-- names with one text have the same components
pub told : (a b : InternalName) → joined_by (codes "::") (components_of a) ≡ joined_by (codes "::") (components_of b)
    → components_of a ≡ components_of b
told a b = told_by a.first b.first a.others b.others
