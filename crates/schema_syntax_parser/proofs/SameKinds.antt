-- Two kinds of tokens are the same where their numbers are.
use Rattle.std.proofs.Common.{◌≡◌, sym, ap}
use Rattle.std.proofs.lemmas.Bool.{eq-eqb}
use Rattle.std.proofs.lemmas.Bool.Decides.{same_from_decides}
use denote.Enum.Bare.{sameb, same_true, true_same}
use Rattle.schema_syntax_grammar.specs.Grammar.{kind_number, same_kind}
use Rattle.schema_syntax_grammar.specs.declared.token_kind.TokenKind.{TokenKind}
use Rattle.schema_syntax_grammar.specs.contracts.token_kind.TokenKind.{the_type}
use Rattle.schema_syntax_grammar.proofs.Accept.{kinds_equal}

pub same_test : (a b : TokenKind) → sameb the_type a b ≡ same_kind b a
same_test a b = same_from_decides _ _ (same_true the_type tt a b, true_same the_type a b)
    (λ h. sym (kinds_equal b a h), λ e. eq-eqb (kind_number b) (kind_number a) (sym (ap kind_number e)))
