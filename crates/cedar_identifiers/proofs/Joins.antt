-- Texts joined by a separator, one after another.
use Rattle.std.proofs.Common.{◌≡◌, ℕ, ◌+◌, ◌<◌, List, [], ◌∷◌, ◌++◌, length, take, get_or, refl, sym, ap, ◌∙◌}
use Rattle.std.proofs.Common.{append_assoc, codes}
use Rattle.std.specs.Str.{chars}
use Rattle.cedar_data.proofs.Ascii.{chars-from_test}
use Rattle.std.proofs.lemmas.List.{take_more, map-append}
use Rattle.cedar_data.specs.Rows.{joined_by}
use Rattle.cedar_identifiers.specs.Names.{texts_of}
use Rattle.cedar_identifiers.specs.declared.id.Id.{Id}

-- one text more at the end
joined-push : (s w : List ℕ) (ws : List (List ℕ)) (v : List ℕ)
    → joined_by s (w ∷ (ws ++ v ∷ [])) ≡ joined_by s (w ∷ ws) ++ (s ++ v)
joined-push s w [] v = refl
joined-push s w (x ∷ ws) v = ap (λ t. w ++ (s ++ t)) (joined-push s x ws v) ∙ simp append_assoc

-- one component more
pub one_more : (f x : Id) (ids : List Id) (i : ℕ) (t : List ℕ) → i < length ids → x ≡ get_or ids i x
    → t ≡ joined_by (codes "::") (texts_of (f ∷ take i ids))
    → t ++ (codes "::" ++ x.text) ≡ joined_by (codes "::") (texts_of (f ∷ take (i + 1) ids))
one_more f x ids i t h e k =
    let ids' : take (i + 1) ids ≡ take i ids ++ x ∷ [] = take_more ids i x h ∙ ap (λ y. take i ids ++ y ∷ []) (sym e) in
    let texts : texts_of (take (i + 1) ids) ≡ texts_of (take i ids) ++ x.text ∷ [] = ap texts_of ids'
    ∙ map-append (λ j. j.text) (take i ids) (x ∷ []) in
    ap (λ u. u ++ (codes "::" ++ x.text)) k
    ∙ (sym (joined-push (codes "::") f.text (texts_of (take i ids)) x.text)
    ∙ ap (λ us. joined_by (codes "::") (f.text ∷ us)) (sym texts))

-- `::` is its own characters
pub separator_chars : chars (codes "::") ≡ codes "::"
separator_chars = chars-from_test (codes "::") refl
