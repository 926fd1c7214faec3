-- What is read of one token, and of one site.
use Rattle.std.proofs.Common.{◌≡◌, ℕ, true, false, List, [], ◌∷◌, sym, subst, inl, inr}
use Rattle.std.specs.Prelude.{Result, Ok, Err, IfOk, IfErr, OnOk}
use Rattle.schema_syntax_grammar.specs.declared.token_kind.TokenKind.{TokenKind}
use Rattle.schema_syntax_grammar.specs.declared.token_kind.TokenKind.TheVariants.{StringLit}
use Rattle.schema_syntax_grammar.specs.Grammar.{is_ident}
use Rattle.schema_syntax_tokens.specs.declared.token.Token.{Token}
use Rattle.cedar_identifiers.specs.Words.{is_reserved}
use Rattle.schema_syntax_reader.specs.declared.stopped.Stopped.{Stopped}
use Rattle.schema_syntax_reader.specs.Sites.{Site, word, text, site_of_kind, name_sites}
use Rattle.schema_syntax_reader.specs.Leaves.{word_at, IsStringAt}
use Rattle.schema_syntax_reader.specs.Placed.{NoSiteFault, IsPlacedName}
use Rattle.schema_syntax_reader.specs.Stops.{IsStopped, IsStoppedAt, IsReservedStop, IsEscapeStop, NoBadEscapeAt}
use Rattle.schema_syntax_reader.specs.Readings.{Reads}
use Rattle.schema_syntax_reader.specs.Trees.{IsNameOf}
use Rattle.schema_syntax_reader.proofs.Fits.{site_word, name_split}
use Rattle.schema_syntax_reader.proofs.Readings.{Faultless, stopped_at, no_fault_at}
use Rattle.schema_syntax_reader.proofs.SiteFaults.{word_stopped, word_lawful, text_stopped, text_lawful}

module _ (source : List ℕ) where
  pub reads_site : {A : Type 0} (site : Site) (Is : A → Type 0) (r : Result A Stopped)
      → IfOk r Is → OnOk r (NoSiteFault source site) → IfErr r (IsStoppedAt source site)
      → Reads source (site ∷ []) Is r
  reads_site site Is (Ok x) is lawful fault = (is, no_fault_at source site lawful)
  reads_site site Is (Err e) is lawful fault = stopped_at source site e fault

  as_word : {A : Type 0} (t : Token) (Is : A → Type 0) (r : Result A Stopped)
      → IfOk r Is → OnOk r (is_reserved (word_at source t) ≡ false) → IfErr r (IsReservedStop source t)
      → Reads source (word t ∷ []) Is r
  as_word t Is (Ok x) is free reserved = (is, no_fault_at source (word t) (word_lawful source t free))
  as_word t Is (Err e) is free reserved = stopped_at source (word t) e (word_stopped source t e reserved)

  -- a word
  pub reads_word : {A : Type 0} (t : Token) → is_ident t.kind ≡ true → (Is : A → Type 0) (r : Result A Stopped)
      → IfOk r Is → OnOk r (is_reserved (word_at source t) ≡ false) → IfErr r (IsReservedStop source t)
      → Reads source (name_sites t) Is r
  reads_word t h Is r is free reserved =
      subst (λ s. Reads source (s ∷ []) Is r) (sym (site_word t.kind h t)) (as_word t Is r is free reserved)

  -- a name that is a string, and one that is a word
  pub named_string : (t : Token) (value : List ℕ) → t.kind ≡ StringLit → IsStringAt source t value
      → IsNameOf source t.kind t value
  named_string t value h is = subst (λ k. IsNameOf source k t value) (sym h) is

  pub word_named : (k : TokenKind) (t : Token) (value : List ℕ) → is_ident k ≡ true → value ≡ word_at source t
      → IsNameOf source k t value
  word_named StringLit t value h is = absurd (cc)
  word_named _ t value h is = is

  pub named_word : (t : Token) (value : List ℕ) → is_ident t.kind ≡ true → value ≡ word_at source t
      → IsNameOf source t.kind t value
  named_word t value h is = word_named t.kind t value h is

  pub no_string_ident : (t : Token) → IsPlacedName source t → (t.kind ≡ StringLit → ⊥) → is_ident t.kind ≡ true
  no_string_ident t h other = elim (name_split t.kind h.1) [ inl e ↦ absurd (other e) | inr i ↦ i ]

  -- the sites of one token
  pub word_stops : (t : Token) → is_ident t.kind ≡ true → (e : Stopped) → IsReservedStop source t e
      → IsStopped source (name_sites t) e
  word_stops t h e r = subst (λ s. IsStopped source (s ∷ []) e) (sym (site_word t.kind h t))
      (stopped_at source (word t) e (word_stopped source t e r))

  pub word_faultless : (t : Token) → is_ident t.kind ≡ true → is_reserved (word_at source t) ≡ false
      → Faultless source (name_sites t)
  word_faultless t h free = subst (λ s. Faultless source (s ∷ [])) (sym (site_word t.kind h t))
      (no_fault_at source (word t) (word_lawful source t free))

  pub string_stops : (t : Token) → t.kind ≡ StringLit → (e : Stopped) → IsEscapeStop source t e
      → IsStopped source (name_sites t) e
  string_stops t h e r = subst (λ k. IsStopped source (site_of_kind k t ∷ []) e) (sym h)
      (stopped_at source (text t) e (text_stopped source t e r))

  pub string_faultless : (t : Token) → t.kind ≡ StringLit → NoBadEscapeAt source t → Faultless source (name_sites t)
  string_faultless t h lawful = subst (λ k. Faultless source (site_of_kind k t ∷ [])) (sym h)
      (no_fault_at source (text t) (text_lawful source t lawful))

  -- a name that is a string is read as one
  pub read_named : (t : Token) → t.kind ≡ StringLit → (r : Result (List ℕ) Stopped) → IfOk r (IsStringAt source t)
      → OnOk r (NoBadEscapeAt source t) → IfErr r (IsEscapeStop source t)
      → Reads source (name_sites t) (IsNameOf source t.kind t) r
  read_named t h (Ok x) is lawful escape = (named_string t x h is, string_faultless t h lawful)
  read_named t h (Err e) is lawful escape = string_stops t h e escape
