-- What a token stands for is one.
use Rattle.std.proofs.Common.{◌≡◌, ℕ, List, [], ◌∷◌, ◌++◌, refl, sym, ◌∙◌, subst}
use Rattle.std.specs.List.{AllZip}
use Rattle.std.proofs.lemmas.List.{append_cancel_right}
use Rattle.schema_syntax_grammar.specs.declared.token_kind.TokenKind.{TokenKind}
use Rattle.schema_syntax_grammar.specs.declared.token_kind.TokenKind.TheVariants.{StringLit}
use Rattle.schema_syntax_tokens.specs.declared.token.Token.{Token}
use Rattle.schema_syntax_tokens.specs.Escapes.{Unescapes}
use Rattle.cedar_identifiers.specs.declared.id.Id.{Id}
use Rattle.cedar_identifiers.proofs.Same.{id_same}
use Rattle.schema_syntax_reader.specs.Leaves.{IsBodyAt, IsStringAt}
use Rattle.schema_syntax_reader.specs.Trees.{IsId, IsNameOf}

-- two lists that are related to one, item by item, are the same
pub one_zip : {A B : Type 0} (R : A → B → Type 0) → ((a : A) (b c : B) → R a b → R a c → b ≡ c)
    → (xs : List A) (ys zs : List B) → AllZip R xs ys → AllZip R xs zs → ys ≡ zs
one_zip R one [] [] [] h k = refl
one_zip R one [] [] (z ∷ zs) h k = absurd k
one_zip R one [] (y ∷ ys) zs h k = absurd h
one_zip R one (x ∷ xs) [] zs h k = absurd h
one_zip R one (x ∷ xs) (y ∷ ys) [] h k = absurd k
one_zip R one (x ∷ xs) (y ∷ ys) (z ∷ zs) (h, hs) (k, ks) =
    let first : y ≡ z = one x y z h k in
    let more : ys ≡ zs = one_zip R one xs ys zs hs ks in
    λ i. first i ∷ more i

-- the body of a string is one
pub one_body : (text : List ℕ) (t : Token) (b c : List ℕ) → IsBodyAt text t b → IsBodyAt text t c → b ≡ c
one_body text t b c h k =
    let whole : 34 ∷ (b ++ 34 ∷ []) ≡ 34 ∷ (c ++ 34 ∷ []) = sym h ∙ k in
    let rest : b ++ 34 ∷ [] ≡ c ++ 34 ∷ [] = cc in
    append_cancel_right b c (34 ∷ []) rest

module _ (value : (body cs ds : List ℕ) → Unescapes body cs → Unescapes body ds → cs ≡ ds) (text : List ℕ) where
  pub one_string : (t : Token) (v w : List ℕ) → IsStringAt text t v → IsStringAt text t w → v ≡ w
  one_string t v w h k =
      value h.0 v w h.2 (subst (λ b. Unescapes b w) (sym (one_body text t h.0 k.0 h.1 k.1)) k.2)

  pub one_id : (t : Token) (i j : Id) → IsId text t i → IsId text t j → i ≡ j
  one_id t i j h k = id_same i j (h ∙ sym k)

  pub one_name : (kind : TokenKind) (t : Token) (v w : List ℕ) → IsNameOf text kind t v → IsNameOf text kind t w
      → v ≡ w
  one_name StringLit t v w h k = one_string t v w h k
  one_name _ t v w h k = h ∙ sym k
