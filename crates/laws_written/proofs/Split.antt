-- The tokens of several lexemes are those of each, in turn.
use Rattle.std.proofs.Common.{◌≡◌, ℕ, List, [], ◌∷◌, ◌++◌, refl, ap, ◌∙◌}
use Rattle.schema_syntax_tokens.specs.declared.token.Token.{Token}
use Rattle.schema_syntax_tokens.specs.Laid.{Lexeme, IsSpelled, Spells}

module _ (source : List ℕ) where
  pub record Split (ts : List Token) (u v : List Lexeme) : Type 0 where
    pub left : List Token
    pub right : List Token
    pub whole : ts ≡ left ++ right
    pub first : Spells source left u
    pub second : Spells source right v

  pub split : (u v : List Lexeme) (ts : List Token) → Spells source ts (u ++ v) → Split ts u v
  split [] v ts s = record { left = []; right = ts; whole = refl; first = tt; second = s }
  split (x ∷ u) v [] s = absurd s
  split (x ∷ u) v (t ∷ ts) s =
      let r = split u v ts s.1 in
      record {
        left = t ∷ r.left;
        right = r.right;
        whole = ap (λ l. t ∷ l) r.whole;
        first = (s.0, r.first);
        second = r.second;
      }

  -- two parts with a token between them
  pub record Between (ts : List Token) (u : List Lexeme) (c : Lexeme) (v : List Lexeme) : Type 0 where
    pub left : List Token
    pub token : Token
    pub right : List Token
    pub whole : ts ≡ left ++ token ∷ right
    pub first : Spells source left u
    pub is : IsSpelled source token c
    pub second : Spells source right v

  pub between : (u v : List Lexeme) (c : Lexeme) (ts : List Token) → Spells source ts (u ++ c ∷ v) → Between ts u c v
  between [] v c [] s = absurd s
  between [] v c (t ∷ ts) s = record
      { left = []; token = t; right = ts; whole = refl; first = tt; is = s.0; second = s.1 }
  between (x ∷ u) v c [] s = absurd s
  between (x ∷ u) v c (t ∷ ts) s =
      let r = between u v c ts s.1 in
      record {
        left = t ∷ r.left;
        token = r.token;
        right = r.right;
        whole = ap (λ l. t ∷ l) r.whole;
        first = (s.0, r.first);
        is = r.is;
        second = r.second;
      }

  pub nothing : (ts : List Token) → Spells source ts [] → ts ≡ []
  nothing [] s = refl
  nothing (t ∷ ts) s = absurd s

  -- a part and one token behind it
  pub record Closed (ts : List Token) (u : List Lexeme) (c : Lexeme) : Type 0 where
    pub left : List Token
    pub token : Token
    pub whole : ts ≡ left ++ token ∷ []
    pub first : Spells source left u
    pub is : IsSpelled source token c

  pub closed : (u : List Lexeme) (c : Lexeme) (ts : List Token) → Spells source ts (u ++ c ∷ []) → Closed ts u c
  closed u c ts s =
      let r = between u [] c ts s in
      record {
        left = r.left;
        token = r.token;
        whole = r.whole
            ∙ ap (λ l. r.left ++ r.token ∷ l) (nothing r.right r.second);
        first = r.first;
        is = r.is;
      }

  -- one token alone
  pub record Alone (ts : List Token) (x : Lexeme) : Type 0 where
    pub token : Token
    pub whole : ts ≡ token ∷ []
    pub is : IsSpelled source token x

  pub alone : (x : Lexeme) (ts : List Token) → Spells source ts (x ∷ []) → Alone ts x
  alone x [] s = absurd s
  alone x (t ∷ []) s = record { token = t; whole = refl; is = s.0 }
  alone x (t ∷ c ∷ ts) s = absurd s.1

  -- one token, and a part behind it
  pub record Front (ts : List Token) (x : Lexeme) (v : List Lexeme) : Type 0 where
    pub token : Token
    pub right : List Token
    pub whole : ts ≡ token ∷ right
    pub is : IsSpelled source token x
    pub second : Spells source right v

  pub front : (x : Lexeme) (v : List Lexeme) (ts : List Token) → Spells source ts (x ∷ v) → Front ts x v
  front x v [] s = absurd s
  front x v (t ∷ ts) s = record { token = t; right = ts; whole = refl; is = s.0; second = s.1 }

  -- the lexemes of tokens in parts are in parts
  pub record Unsplit (us vs : List Token) (xs : List Lexeme) : Type 0 where
    pub left : List Lexeme
    pub right : List Lexeme
    pub whole : xs ≡ left ++ right
    pub first : Spells source us left
    pub second : Spells source vs right

  pub unsplit : (us vs : List Token) (xs : List Lexeme) → Spells source (us ++ vs) xs → Unsplit us vs xs
  unsplit [] vs xs s = record { left = []; right = xs; whole = refl; first = tt; second = s }
  unsplit (t ∷ us) vs [] s = absurd s
  unsplit (t ∷ us) vs (x ∷ xs) s =
      let r = unsplit us vs xs s.1 in
      record {
        left = x ∷ r.left;
        right = r.right;
        whole = ap (λ l. x ∷ l) r.whole;
        first = (s.0, r.first);
        second = r.second;
      }

  pub record Unbetween (us : List Token) (c : Token) (vs : List Token) (xs : List Lexeme) : Type 0 where
    pub left : List Lexeme
    pub lexeme : Lexeme
    pub right : List Lexeme
    pub whole : xs ≡ left ++ lexeme ∷ right
    pub first : Spells source us left
    pub is : IsSpelled source c lexeme
    pub second : Spells source vs right

  pub unbetween : (us : List Token) (c : Token) (vs : List Token) (xs : List Lexeme) → Spells source (us ++ c ∷ vs) xs
      → Unbetween us c vs xs
  unbetween [] c vs [] s = absurd s
  unbetween [] c vs (x ∷ xs) s =
      record { left = []; lexeme = x; right = xs; whole = refl; first = tt; is = s.0; second = s.1 }
  unbetween (t ∷ us) c vs [] s = absurd s
  unbetween (t ∷ us) c vs (x ∷ xs) s =
      let r = unbetween us c vs xs s.1 in
      record {
        left = x ∷ r.left;
        lexeme = r.lexeme;
        right = r.right;
        whole = ap (λ l. x ∷ l) r.whole;
        first = (s.0, r.first);
        is = r.is;
        second = r.second;
      }

  pub no_lexeme : (xs : List Lexeme) → Spells source [] xs → xs ≡ []
  no_lexeme [] s = refl
  no_lexeme (x ∷ xs) s = absurd s

  pub record Unclosed (us : List Token) (c : Token) (xs : List Lexeme) : Type 0 where
    pub left : List Lexeme
    pub lexeme : Lexeme
    pub whole : xs ≡ left ++ lexeme ∷ []
    pub first : Spells source us left
    pub is : IsSpelled source c lexeme

  pub unclosed : (us : List Token) (c : Token) (xs : List Lexeme) → Spells source (us ++ c ∷ []) xs → Unclosed us c xs
  unclosed us c xs s =
      let r = unbetween us c [] xs s in
      record {
        left = r.left;
        lexeme = r.lexeme;
        whole = r.whole
            ∙ ap (λ l. r.left ++ r.lexeme ∷ l) (no_lexeme r.right r.second);
        first = r.first;
        is = r.is;
      }
