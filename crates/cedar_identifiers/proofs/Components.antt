-- Words that become components, one after another.
use Rattle.std.proofs.Common.{◌≡◌, ℕ, Bool, true, false, ◌||◌, List, [], ◌∷◌, ◌++◌, Some, None, find, refl, sym}
use Rattle.std.proofs.Common.{ap, ◌∙◌, append_assoc}
use Rattle.std.specs.List.{list_any}
use Rattle.std.specs.Option.{option_or}
use Rattle.std.proofs.lemmas.List.{map-append}
use Rattle.std.proofs.lemmas.List.Folds.{find-append}
use Rattle.cedar_data.proofs.Lists.{list_any-map}
use Rattle.cedar_identifiers.specs.Names.{texts_of}
use Rattle.cedar_identifiers.specs.NameReading.{refuses}
use Rattle.cedar_identifiers.specs.Fronts.{word_texts}
use Rattle.cedar_identifiers.specs.declared.id.Id.{Id}
use Rattle.cedar_identifiers.specs.declared.any_id.AnyId.{AnyId}
use Rattle.cedar_identifiers.specs.declared.name_kind.NameKind.{NameKind}

-- none so far, and none in what is next
pub none_more : {X : Type 0} (p : X → Bool) (xs : List X) (x : X) → find p xs ≡ None → p x ≡ false
    → find p (xs ++ x ∷ []) ≡ None
none_more p xs x e f = find-append p xs (x ∷ []) ∙ (ap (λ o. option_or o (find p (x ∷ []))) e ∙ rw f refl)

-- the first is next
pub first_next : {X : Type 0} (p : X → Bool) (xs : List X) (x : X) (ys : List X) → find p xs ≡ None → p x ≡ true
    → find p (xs ++ (x ∷ ys)) ≡ Some x
first_next p xs x ys e f = find-append p xs (x ∷ ys) ∙ (ap (λ o. option_or o (find p (x ∷ ys))) e ∙ rw f refl)

-- the ids so far are the words before those that are left, and none is refused
abbrev pub AreComponents : NameKind → List Id → List AnyId → List AnyId → Type 0
AreComponents kind ids left all =
    (texts_of ids ++ word_texts left ≡ word_texts all) × (find (refuses kind) (texts_of ids) ≡ None)

pub component_more : (kind : NameKind) (ids ids' : List Id) (id : Id) (word : AnyId) (left after all : List AnyId)
    → AreComponents kind ids left all → left ≡ word ∷ after → ids' ≡ ids ++ id ∷ []
    → id.text ≡ word.text → refuses kind word.text ≡ false → AreComponents kind ids' after all
component_more kind ids ids' id word left after all inv split push same free =
    let texts : texts_of ids' ≡ texts_of ids ++ word.text ∷ [] = ap texts_of push
    ∙ (map-append (λ i. i.text) ids (id ∷ []) ∙ ap (λ t. texts_of ids ++ t ∷ []) same) in (
      ap (λ ts. ts ++ word_texts after) texts
          ∙ (append_assoc (texts_of ids) (word.text ∷ []) (word_texts after)
          ∙ (ap (λ ws. texts_of ids ++ word_texts ws) (sym split) ∙ inv.0)),
      ap (find (refuses kind)) texts ∙ none_more (refuses kind) (texts_of ids) word.text inv.1 free,
    )

pub component_refused : (kind : NameKind) (ids : List Id) (word : AnyId) (left after all : List AnyId)
    → AreComponents kind ids left all → left ≡ word ∷ after
    → refuses kind word.text ≡ true → find (refuses kind) (word_texts all) ≡ Some word.text
component_refused kind ids word left after all inv split bad =
    ap (find (refuses kind)) (sym inv.0 ∙ ap (λ ws. texts_of ids ++ word_texts ws) split)
    ∙ first_next (refuses kind) (texts_of ids) word.text (word_texts after) inv.1 bad

-- a test of the first, and then of the others
pub none_first : (p : List ℕ → Bool) (first : List ℕ) (others : List Id) (r : Bool) → p first ≡ false
    → r ≡ list_any (λ i. p i.text) others → r ≡ (p first || list_any p (texts_of others))
none_first p first others r f e = e
    ∙ (sym (list_any-map p (λ i. i.text) others) ∙ sym (ap (λ b. b || list_any p (texts_of others)) f))
