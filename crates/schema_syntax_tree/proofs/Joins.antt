-- The ids of a path, joined from the first on.
use Rattle.std.proofs.Common.{◌≡◌, ℕ, List, [], ◌∷◌, ◌++◌, sym, ap, ◌∙◌, append-nil, append_assoc}
use Rattle.cedar_data.specs.Rows.{joined_by}
use Rattle.cedar_identifiers.specs.Names.{texts_of}
use Rattle.cedar_identifiers.specs.declared.id.Id.{Id}

-- the texts behind another, each after a separator
abbrev pub behind : List ℕ → List (List ℕ) → List ℕ
behind s [] = []
behind s (w ∷ ws) = s ++ (w ++ behind s ws)

-- the first text, and those behind it
first_and_behind : (s w : List ℕ) (ws : List (List ℕ)) → joined_by s (w ∷ ws) ≡ w ++ behind s ws
first_and_behind s w [] = sym (append-nil w)
first_and_behind s w (v ∷ vs) = ap (λ t. w ++ (s ++ t)) (first_and_behind s v vs)

-- the text of the first id, with those behind it still to come
pub begun : (s t : List ℕ) (x : Id) (rest ids : List Id) → t ≡ x.text → ids ≡ x ∷ rest
    → t ++ behind s (texts_of rest) ≡ joined_by s (texts_of ids)
begun s t x rest ids h e = ap (λ u. u ++ behind s (texts_of rest)) h
    ∙ (sym (first_and_behind s x.text (texts_of rest)) ∙ ap (λ l. joined_by s (texts_of l)) (sym e))

-- one id more
pub one_more : (s t u whole : List ℕ) (x : Id) (rest ids : List Id) → u ≡ (t ++ s) ++ x.text → ids ≡ x ∷ rest
    → t ++ behind s (texts_of ids) ≡ whole → u ++ behind s (texts_of rest) ≡ whole
one_more s t u whole x rest ids h e k =
    ap (λ v. v ++ behind s (texts_of rest)) h
    ∙ (append_assoc (t ++ s) x.text (behind s (texts_of rest))
    ∙ (append_assoc t s (x.text ++ behind s (texts_of rest)) ∙ (ap (λ l. t ++ behind s (texts_of l)) (sym e) ∙ k)))
