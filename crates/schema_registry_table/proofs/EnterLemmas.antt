-- What a table keeps over its calls.
use Rattle.std.proofs.Common.{◌≡◌, ℕ, suc, ◌+◌, List, [], ◌∷◌, ◌++◌, length, length-append, slice_get, Some, refl}
use Rattle.std.proofs.Common.{sym, ap, subst, ◌∙◌, arith}
use Rattle.std.specs.List.{Contains}
use Rattle.sqlite.specs.State.{State, HasCleanDisk}
use Rattle.schema_registry_entries.specs.Entries.{stood, added}
use Rattle.schema_registry_table.specs.Table.{Rests, Stands, LeavesTexts, KeepsMany, EntersText}

-- ---- rows keep one list of texts

same_lists : {X : Type 0} (xs ys : List X) → ((i : ℕ) (x : X) → slice_get xs i ≡ Some x → slice_get ys i ≡ Some x)
    → ((i : ℕ) (x : X) → slice_get ys i ≡ Some x → slice_get xs i ≡ Some x) → xs ≡ ys
same_lists [] [] f g = refl
same_lists [] (y ∷ ys) f g = absurd (let e = g 0 y refl in cc)
same_lists (x ∷ xs) [] f g = absurd (let e = f 0 x refl in cc)
same_lists (x ∷ xs) (y ∷ ys) f g =
    let h = f 0 x refl in
    let first : x ≡ y = cc in
    ap (λ z. z ∷ xs) first ∙ ap (λ zs. y ∷ zs) (same_lists xs ys (λ i z. f (suc i) z) (λ i z. g (suc i) z))

one_place : (texts others : List (List ℕ)) (s : State) → Rests s texts → Rests s others → (i : ℕ) (text : List ℕ)
    → slice_get texts i ≡ Some text → slice_get others i ≡ Some text
one_place texts others s a b i text h =
    let r = a.keeps.rows.all i text h in
    let e = b.keeps.rows.each r.0 r.1 in
    let ids = sym e.3.id_is ∙ r.2.id_is in
    let words = sym e.3.text_is ∙ r.2.text_is in
    let at : e.0 ≡ i = cc in
    let same : e.1 ≡ text = cc in
    subst (λ k. slice_get others k ≡ Some text) at (subst (λ t. slice_get others e.0 ≡ Some t) same e.2)

pub one_list : (s : State) (texts others : List (List ℕ)) → Rests s texts → Rests s others → texts ≡ others
one_list s texts others a b = same_lists texts others (one_place texts others s a b) (one_place others texts s b a)

-- ---- a table keeps so many texts

pub many : (s : State) (count : ℕ) (texts : List (List ℕ)) → KeepsMany s count → HasCleanDisk s → Rests s texts
    → length texts ≡ count
many s count texts k clean r =
    let it = k clean in ap length (one_list s texts it.0 r (it.1.1 r.is_open)) ∙ it.2

pub many_left : (old new : State) (count : ℕ) → KeepsMany old count → LeavesTexts old new → KeepsMany new count
many_left old new count k l clean =
    let early : HasCleanDisk old = omega (arith, l.clean, clean) in
    let it = k early in (it.0, l.stands clean it.0 it.1, it.2)

pub found_enters : (old new : State) (text : List ℕ) (place : ℕ) (texts : List (List ℕ)) → Rests old texts
    → Rests new texts
    → slice_get texts place ≡ Some text → EntersText old new text place
found_enters old new text place texts before after at = record
    { texts = texts; all = texts; before = before; after = after; entered = stood at }

pub added_enters : (old new : State) (count : ℕ) (text : List ℕ) (texts : List (List ℕ)) → Rests old texts
    → (Contains texts text → ⊥) → length texts ≡ count
    → Rests new (texts ++ text ∷ []) → EntersText old new text count
added_enters old new count text texts before none is after =
    record { texts = texts; all = texts ++ text ∷ []; before = before; after = after; entered = added none (sym is) }

pub many_added : (new : State) (count : ℕ) (text : List ℕ) (texts : List (List ℕ)) → length texts ≡ count
    → Rests new (texts ++ text ∷ [])
    → (all : List (List ℕ)) × Stands new all × (length all ≡ count + 1)
many_added new count text texts is after =
    (texts ++ text ∷ [], (after.autocommit, λ _. after), omega (arith, is, length-append texts (text ∷ [])))
