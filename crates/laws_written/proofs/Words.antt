-- Lawful words and strings: what stands there, and that it has no fault.
use Rattle.std.proofs.Common.{◌≡◌, ℕ, true, false, not, List, [], ◌∷◌, ◌++◌, slice_range, sym}
use Rattle.std.proofs.Common.{ap, ◌∙◌, subst}
use Rattle.std.specs.List.{All}
use Rattle.std.specs.Str.{chars}
use Rattle.std.specs.Cmp.{first_so, second_so}
use Rattle.std.proofs.lemmas.Str.{chars-IsAscii}
use Rattle.std.proofs.lemmas.List.{append_cancel_right}
use Rattle.std.proofs.lemmas.List.Elements.{All-nil, All-cons}
use Rattle.std.proofs.lemmas.Bool.{not-true}
use Rattle.cedar_data.specs.Words.{is_word}
use Rattle.cedar_data.proofs.Ascii.{word_ascii}
use Rattle.schema_syntax_grammar.specs.declared.token_kind.TokenKind.TheVariants.{StringLit}
use Rattle.schema_syntax_grammar.specs.Grammar.{is_ident}
use Rattle.schema_syntax_grammar.specs.Grammar.{is_name_kind}
use Rattle.schema_syntax_grammar.proofs.Complete.{ident_is_name}
use Rattle.schema_syntax_tokens.specs.declared.token.Token.{Token}
use Rattle.schema_syntax_tokens.specs.Escapes.{Unescapes, BadEscape}
use Rattle.schema_syntax_tokens.specs.Laid.{Lexeme, IsSpelled}
use Rattle.cedar_identifiers.specs.Words.{is_reserved, is_id}
use Rattle.schema_syntax_reader.specs.Leaves.{word_at}
use Rattle.schema_syntax_reader.specs.Sites.{word, text, site_of_kind, name_sites}
use Rattle.schema_syntax_reader.specs.UserFaults.{reserved, escape}
use Rattle.schema_syntax_reader.specs.Trees.{IsNameOf}
use Rattle.schema_syntax_reader.proofs.Fits.{site_word}
use Rattle.schema_syntax_reader.proofs.NameReads.{named_word}
use Rattle.laws_written.specs.Reads.{IsFaultless}
use Rattle.laws_written.specs.Spellings as spelled

not_reserved : (w : List ℕ) → is_id w ≡ true → is_reserved w ≡ false
not_reserved w h = not-true (is_reserved w) (second_so (is_word w) (not (is_reserved w)) h)

module _ (source : List ℕ) where
  -- the bytes of a word are its characters
  pub word_here : (t : Token) (x : Lexeme) → IsSpelled source t x → is_id x.text ≡ true → x.text ≡ word_at source t
  word_here t x s h = sym (ap (λ w. chars w) s.1
      ∙ chars-IsAscii x.text (word_ascii x.text (first_so (is_word x.text) (not (is_reserved x.text)) h)))

  no_word_fault : (t : Token) → is_reserved (word_at source t) ≡ false → IsFaultless source (word t)
  no_word_fault t h fault end (reserved u e) = cc

  pub ident_kind : (t : Token) (x : Lexeme) → IsSpelled source t x → spelled.IsIdent x → is_ident t.kind ≡ true
  ident_kind t x s i = ap is_ident s.0 ∙ i.ident

  pub ident_site : (t : Token) (x : Lexeme) → IsSpelled source t x → spelled.IsIdent x
      → All (IsFaultless source) (name_sites t)
  ident_site t x s i =
      subst (λ z. All (IsFaultless source) (z ∷ [])) (sym (site_word t.kind (ident_kind t x s i) t))
      (All-cons (IsFaultless source) (word t) []
      (no_word_fault t (ap is_reserved (sym (word_here t x s i.id)) ∙ not_reserved x.text i.id))
      (All-nil (IsFaultless source)))

  pub name_kind : (t : Token) (x : Lexeme) (n : List ℕ) → IsSpelled source t x → spelled.SpellsName x n
      → is_name_kind t.kind ≡ true
  name_kind t x n s (spelled.bare i) = ident_is_name t.kind (ident_kind t x s i)
  name_kind t x n s (spelled.quoted body k e u) = ap is_name_kind (s.0 ∙ k)

  pub name_here : (t : Token) (x : Lexeme) (n : List ℕ) → IsSpelled source t x → spelled.SpellsName x n
      → IsNameOf source t.kind t n
  name_here t x n s (spelled.bare i) = named_word source t n (ident_kind t x s i) (word_here t x s i.id)
  name_here t x n s (spelled.quoted body k e u) = subst (λ k. IsNameOf source k t n) (sym (s.0 ∙ k)) (body, s.1 ∙ e, u)

  module _ (never_both : (body value : List ℕ) (at : ℕ) → Unescapes body value → BadEscape body at → ⊥) where
    no_string_fault : (t : Token) (body value : List ℕ)
        → slice_range source t.loc.start t.loc.end ≡ 34 ∷ (body ++ 34 ∷ []) → Unescapes body value
        → IsFaultless source (text t)
    no_string_fault t body value e u fault end (escape v at h) =
        let whole : 34 ∷ (body ++ 34 ∷ []) ≡ 34 ∷ (h.0 ++ 34 ∷ []) = sym e ∙ h.2 in
        let same : body ++ 34 ∷ [] ≡ h.0 ++ 34 ∷ [] = cc in
        never_both h.0 value h.1 (subst (λ b. Unescapes b value) (append_cancel_right body h.0 (34 ∷ []) same) u) h.3

    pub name_site : (t : Token) (x : Lexeme) (n : List ℕ) → IsSpelled source t x → spelled.SpellsName x n
        → All (IsFaultless source) (name_sites t)
    name_site t x n s (spelled.bare i) = ident_site t x s i
    name_site t x n s (spelled.quoted body k e u) =
        subst (λ k. All (IsFaultless source) (site_of_kind k t ∷ [])) (sym (s.0 ∙ k))
        (All-cons (IsFaultless source) (text t) [] (no_string_fault t body n (s.1 ∙ e) u)
        (All-nil (IsFaultless source)))

    pub string_site : (t : Token) (x : Lexeme) (body value : List ℕ) → IsSpelled source t x → x.kind ≡ StringLit
        → x.text ≡ 34 ∷ (body ++ 34 ∷ []) → Unescapes body value → All (IsFaultless source) (name_sites t)
    string_site t x body value s k e u = name_site t x value s (spelled.quoted body k e u)
