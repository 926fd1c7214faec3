use Rattle.std.proofs.Common.{◌≡◌, ◌≤◌, [], ◌∷◌, length, reverse, take, Some, None, IfOk, subst}
use Rattle.std.specs.Prelude.{slice_get}
use Rattle.std.proofs.lemmas.List.{map-id}
use Rattle.schema_syntax_grammar.specs.declared.token_kind.TokenKind.{TokenKind}
use Rattle.schema_syntax_grammar.specs.declared.symbol.Symbol.TheVariants.{Schema}
use Rattle.schema_syntax_grammar.specs.Machine.{run, step}
use Rattle.schema_syntax_grammar.proofs.stack.front_of_kinds.Goals as goal

pub returns-clause-within : goal.returns-clause-within
returns-clause-within c =
    subst (λ kinds. IfOk c.longest_front.result (λ front. front.read ≤ length kinds)) (map-id c.args.kinds.now)
    c.longest_front.ensures.within

pub returns-clause-stack : goal.returns-clause-stack
returns-clause-stack c =
    subst (λ kinds. IfOk c.longest_front.result
    (λ front. run (Schema ∷ []) (take front.read kinds) ≡ Some (reverse front.stack.items))) (map-id c.args.kinds.now)
    c.longest_front.ensures.stack

pub returns-clause-stops : goal.returns-clause-stops
returns-clause-stops c =
    subst (λ kinds. IfOk c.longest_front.result
    (λ front. (k : TokenKind) → slice_get kinds front.read ≡ Some k → step (reverse front.stack.items) k ≡ None))
    (map-id c.args.kinds.now) c.longest_front.ensures.stops
