-- The fault that is found, from the tokens and the fault of their kinds.
use Rattle.std.proofs.Common.{◌≡◌, ◌+◌, ◌<◌, ◌≤◌, ℕ, List, [], ◌∷◌, ◌++◌, length, refl, sym}
use Rattle.std.proofs.Common.{subst, arith}
use Rattle.std.proofs.lemmas.List.{take_all}
use Rattle.schema_syntax_grammar.specs.declared.token_kind.TokenKind.{TokenKind}
use Rattle.schema_syntax_grammar.specs.declared.token_kind.TheConstants.{ALL_KINDS}
use Rattle.schema_syntax_grammar.specs.Grammar.{Viable, no_item}
use Rattle.schema_syntax_grammar.specs.Fault.{IsFault}
use Rattle.schema_syntax_tokens.specs.declared.token.Token.{Token}
use Rattle.schema_syntax_tokens.specs.Scans.{Scans}
use Rattle.schema_syntax_tokens.specs.TokenLists.{kinds_of}
use Rattle.schema_syntax.specs.declared.syntax_fault.SyntaxFault.{SyntaxFault}
use Rattle.schema_syntax.specs.declared.syntax_fault.SyntaxFault.TheVariants.{InvalidToken}
use Rattle.schema_syntax.specs.SyntaxFaults.{IsSyntaxFault, unrecognized_token, invalid_token, unrecognized_eof}
use Rattle.schema_syntax.specs.SyntaxFaults.{IsTokenAt, IsEndOf}

-- there are as many kinds as tokens
pub kinds_long : (tokens : List Token) → length (kinds_of tokens) ≡ length tokens
kinds_long [] = refl
kinds_long (t ∷ ts) = let rest = kinds_long ts in omega arith

module _ (text : List ℕ) (tokens : List Token) (at place : ℕ) (expected : List TokenKind)
    (scans : Scans text tokens at) (is : IsFault ALL_KINDS (kinds_of tokens) place expected) where
  -- a token stands at the place
  pub found_token : (fault : SyntaxFault) → IsTokenAt text tokens place expected fault → IsSyntaxFault text fault
  found_token fault f = subst (IsSyntaxFault text) (sym f.2) (unrecognized_token tokens at place f.0 scans f.1 is)

  -- all the kinds begin a sentence
  all_viable : length tokens ≤ place → Viable (kinds_of tokens)
  all_viable h = subst Viable (take_all place (kinds_of tokens) (omega (arith, kinds_long tokens))) is.viable

  pub found_invalid : length tokens ≤ place → at < length text → IsSyntaxFault text (InvalidToken at)
  found_invalid h lt = invalid_token tokens at scans lt (all_viable h)

  -- tokens that are no schema are not none
  pub some_token : 0 < length tokens
  some_token = more tokens is
    where
      more : (ts : List Token) → IsFault ALL_KINDS (kinds_of ts) place expected → 0 < length ts
      more [] f = absurd (f.no_sentence no_item)
      more (t ∷ ts) f = omega arith

  pub found_end : length tokens ≤ place → at ≡ length text → (fault : SyntaxFault) → IsEndOf tokens expected fault
      → IsSyntaxFault text fault
  found_end h e fault f =
      let same : place ≡ length tokens = omega (arith, is.within, kinds_long tokens) in
      let here : Scans text (f.0 ++ f.1 ∷ []) (length text) = subst (λ ts. Scans text ts (length text)) f.2
      (subst (Scans text tokens) e scans) in
      let fault_here : IsFault ALL_KINDS (kinds_of (f.0 ++ f.1 ∷ [])) (length (f.0 ++ f.1 ∷ [])) expected =
      subst (λ ts. IsFault ALL_KINDS (kinds_of ts) (length ts) expected) f.2
      (subst (λ p. IsFault ALL_KINDS (kinds_of tokens) p expected) same is) in
      subst (IsSyntaxFault text) (sym f.3) (unrecognized_eof f.0 f.1 here fault_here)
