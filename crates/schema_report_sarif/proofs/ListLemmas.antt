-- The items of a list as JSON.
use Rattle.std.proofs.Common.{◌≡◌, ℕ, true, List, [], ◌∷◌, ◌++◌, map, refl, sym, ap, ◌∙◌, ◌+◌, ◌<◌, length, take}
use Rattle.std.proofs.Common.{get_or, append_assoc}
use Rattle.std.proofs.lemmas.List.{flat_map_more, take_more}
use Rattle.std.specs.List.{flat_map}
use Rattle.serde_json.specs.Data.{Data}
use Rattle.serde_json.specs.View.{items_of}
use Rattle.serde_json.specs.Written.{compact_text, items_text}

-- an item behind others
abbrev pub later : {X : Type 0} → (X → Data) → X → List ℕ
later f x = 44 ∷ compact_text (f x)

pub later_items : {X : Type 0} (f : X → Data) (xs : List X)
    → items_text true (items_of (map f xs)) ≡ flat_map (later f) xs ++ 93 ∷ []
later_items f [] = refl
later_items f (x ∷ xs) = ap (λ rest. 44 ∷ (compact_text (f x) ++ rest)) (later_items f xs)
    ∙ sym (append_assoc (later f x) (flat_map (later f) xs) (93 ∷ []))

-- a text grows by a comma and an item
pub one_more : {X : Type 0} (start old comma new : List ℕ) (f : X → Data) (xs : List X) (i : ℕ) (x : X)
    → i < length xs → x ≡ get_or xs i x → old ≡ start ++ flat_map (later f) (take i xs) → comma ≡ old ++ 44 ∷ []
    → new ≡ comma ++ compact_text (f x) → new ≡ start ++ flat_map (later f) (take (i + 1) xs)
one_more start old comma new f xs i x lt is before first second =
    let front : take (i + 1) xs ≡ take i xs ++ x ∷ [] = take_more xs i x lt ∙ ap (λ z. take i xs ++ z ∷ []) (sym is) in
    second ∙ ap (λ l. l ++ compact_text (f x)) first ∙ append_assoc old (44 ∷ []) (compact_text (f x))
    ∙ ap (λ l. l ++ later f x) before ∙ flat_map_more (later f) start (take i xs) x
    ∙ ap (λ front. start ++ flat_map (later f) front) (sym front)
