-- A token of the kind of a word is one.
use Rattle.std.proofs.Common.{◌≡◌, ℕ, Bool, true, false, ◌==◌, ◌&&◌, cond, List, [], ◌∷◌, Option, Some, None, refl}
use Rattle.std.proofs.Common.{sym, ap}
use Rattle.std.proofs.Common.{◌∙◌, subst, inl, inr}
use Rattle.std.proofs.lemmas.Bool.{false≢true}
use Rattle.std.proofs.lemmas.Option.{same_Some}
use Rattle.schema_syntax_grammar.specs.declared.token_kind.TokenKind.{TokenKind}
use Rattle.schema_syntax_grammar.specs.declared.token_kind.TokenKind.TheVariants.{StringLit, At, Comma, Semi, Colon}
use Rattle.schema_syntax_grammar.specs.declared.token_kind.TokenKind.TheVariants.{PathSep, LParen, RParen, LBrace}
use Rattle.schema_syntax_grammar.specs.declared.token_kind.TokenKind.TheVariants.{RBrace, LBracket, RBracket, Less}
use Rattle.schema_syntax_grammar.specs.declared.token_kind.TokenKind.TheVariants.{Greater, Question, Equals}
use Rattle.schema_syntax_grammar.specs.Grammar.{is_word_kind}
use Rattle.schema_syntax_tokens.specs.Forms.{IsWord, single_mark, mark_kind, IsForm}

-- a kind that is chosen, or one of the others
chosen : (c : Bool) (x k : TokenKind) (r : Option TokenKind) → is_word_kind x ≡ false
    → (r ≡ Some k → is_word_kind k ≡ false) → cond c (Some x) r ≡ Some k → is_word_kind k ≡ false
chosen true x k r h other e = subst (λ y. is_word_kind y ≡ false) (same_Some x k e) h
chosen false x k r h other e = other e

single_no_word : (b : ℕ) (k : TokenKind) → single_mark b ≡ Some k → is_word_kind k ≡ false
single_no_word b k e =
    chosen (b == 64) At k _ refl
    (chosen (b == 44) Comma k _ refl
    (chosen (b == 59) Semi k _ refl
    (chosen (b == 58) Colon k _ refl
    (chosen (b == 40) LParen k _ refl
    (chosen (b == 41) RParen k _ refl
    (chosen (b == 123) LBrace k _ refl
    (chosen (b == 125) RBrace k _ refl
    (chosen (b == 91) LBracket k _ refl
    (chosen (b == 93) RBracket k _ refl
    (chosen (b == 60) Less k _ refl
    (chosen (b == 62) Greater k _ refl
    (chosen (b == 63) Question k _ refl
    (chosen (b == 61) Equals k _ refl (λ f. cc)))))))))))))) e

mark_no_word : (w : List ℕ) (k : TokenKind) → mark_kind w ≡ Some k → is_word_kind k ≡ false
mark_no_word [] k e = cc
mark_no_word (b ∷ []) k e = single_no_word b k e
mark_no_word (b ∷ c ∷ []) k e = chosen (b == 58 && c == 58) PathSep k None refl (λ f. cc) e
mark_no_word (b ∷ c ∷ d ∷ bs) k e = cc

pub form_word : (w : List ℕ) (k : TokenKind) → IsForm w k → is_word_kind k ≡ true → IsWord w
form_word w k (inl h) word = h.0
form_word w k (inr (inl h)) word = absurd (false≢true (sym (mark_no_word w k h) ∙ word))
form_word w k (inr (inr h)) word = let e : is_word_kind StringLit ≡ true = ap is_word_kind (sym h.1) ∙ word in cc
