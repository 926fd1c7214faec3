use Rattle.std.proofs.Common.{ℕ, List, Contains, sym, subst}
use Rattle.std.specs.Prelude.{◌↔◌}
use Rattle.schema_assist.specs.Assistance.{IsNameBehind}
use Rattle.schema_assist.proofs.OneList.{one_row}
use Rattle.schema_assist.proofs.laws.one_assistance.Goals as goal
use Rattle.schema_syntax_grammar.specs.Grammar.{IsExpected}
use Rattle.schema_syntax_grammar.specs.declared.token_kind.TheConstants.{ALL_KINDS}
use Rattle.schema_syntax_tokens.specs.TokenLists.{kinds_of}

pub returns : goal.returns
returns c = λ text at known table first second h k.
    let same = c.one_front.ensures text at first.partial second.partial h.front k.front h.before k.before in
    let names : (s : List ℕ) → (Contains second.names.items s ↔ IsNameBehind text h.front first.partial known table s) =
    λ s. subst (λ p. Contains second.names.items s ↔ IsNameBehind text h.front p known table s) (sym same.0)
    (subst (λ ts. Contains second.names.items s ↔ IsNameBehind text ts second.partial known table s) (sym same.1)
    (k.names s)) in (
      same.0,
      c.one_expected.ensures (kinds_of h.front) first.expected.items second.expected.items h.expected
          (subst (λ ts. IsExpected ALL_KINDS (kinds_of ts) second.expected.items) (sym same.1) k.expected),
      one_row first.names.items second.names.items h.rising k.rising
          (λ s. (λ x. (names s).1 ((h.names s).0 x), λ x. (h.names s).1 ((names s).0 x))),
    )
