-- What each token of a list does, where the list is what the symbols of a stack stand for, in turn.
use Rattle.std.proofs.Common.{◌≡◌, List, [], ◌∷◌, ◌++◌, true, Some, subst}
use Rattle.schema_syntax_grammar.specs.declared.token_kind.TokenKind.{TokenKind}
use Rattle.schema_syntax_grammar.specs.declared.symbol.Symbol.{Symbol}
use Rattle.schema_syntax_grammar.specs.Table.{after_front, is_nullable}
use Rattle.schema_assist_places.specs.declared.duty.Duty.{Duty}
use Rattle.schema_assist_places.specs.Trace.{duty_of}

pub data Marks : List Symbol → List TokenKind → List Duty → Type 0 where
  nothing : Marks [] [] []
  skip : {x : Symbol} {s : List Symbol} {w : List TokenKind} {m : List Duty} → is_nullable x ≡ true → Marks s w m
      → Marks (x ∷ s) w m
  takes : {x : Symbol} {k : TokenKind} {next s : List Symbol} {w : List TokenKind} {m : List Duty}
      → after_front x k ≡ Some next → Marks (next ++ s) w m → Marks (x ∷ s) (k ∷ w) (duty_of x k ∷ m)

-- a token that does this
pub takes_as : {x : Symbol} {k : TokenKind} {next s : List Symbol} {w : List TokenKind} {m : List Duty} {d : Duty}
    → after_front x k ≡ Some next → duty_of x k ≡ d → Marks (next ++ s) w m → Marks (x ∷ s) (k ∷ w) (d ∷ m)
takes_as {x = x} {k = k} {s = s} {w = w} {m = m} g e f = subst (λ d. Marks (x ∷ s) (k ∷ w) (d ∷ m)) e (takes g f)
