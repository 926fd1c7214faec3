-- One word more is a text.
use Rattle.std.proofs.Common.{◌≡◌, ◌<◌, ◌+◌, ◌++◌, ◌∙◌, ℕ, List, [], ◌∷◌, length, take, get_or, sym, subst, arith}
use Rattle.std.specs.List.{All}
use Rattle.std.specs.Str.{IsUtf8}
use Rattle.std.proofs.lemmas.List.{map_more, get_or-map, length-map}
use Rattle.std.proofs.lemmas.List.Elements.{All-push, All-get_or}
use Rattle.cedar_schema_c.specs.Answers.{words_of}
use Rattle.cedar_schema_c.specs.declared.calls.Word.{Word}

module _ (words : List Word) (i : ℕ) (d : Word) (lt : i < length words) where
  pub one_more : (texts new : List (List ℕ)) (text : List ℕ) → texts ≡ words_of (take i words)
      → text ≡ (get_or words i d).text.now → new ≡ texts ++ text ∷ [] → new ≡ words_of (take (i + 1) words)
  one_more texts new text a b c = c ∙ ((λ k. a k ++ b k ∷ []) ∙ sym (map_more (λ w. w.text.now) words i d lt))

  pub all_more : All IsUtf8 (words_of (take i words)) → IsUtf8 (get_or words i d).text.now
      → All IsUtf8 (words_of (take (i + 1) words))
  all_more a h =
      subst (All IsUtf8) (sym (map_more (λ w. w.text.now) words i d lt))
      (All-push IsUtf8 (words_of (take i words)) (get_or words i d).text.now a h)

  pub not_all : (IsUtf8 (get_or words i d).text.now → ⊥) → All IsUtf8 (words_of words) → ⊥
  not_all n all =
      n (subst IsUtf8 (get_or-map (λ w. w.text.now) words i d [] lt)
      (All-get_or IsUtf8 (words_of words) i [] (omega (arith, lt, length-map words (λ w. w.text.now))) all))
