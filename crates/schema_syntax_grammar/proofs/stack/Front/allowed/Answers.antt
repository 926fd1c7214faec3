use Rattle.std.proofs.Common.{◌≡◌, IfOk, reverse, subst}
use Rattle.std.specs.List.{filter}
use Rattle.schema_syntax_grammar.specs.Machine.{may}
use Rattle.schema_syntax_grammar.specs.declared.token_kind.TheConstants.{ALL_KINDS}
use Rattle.schema_syntax_grammar.proofs.stack.Front.allowed.Goals as goal

pub returns : goal.returns
returns c =
    subst (λ s. IfOk c.allowed.result (λ list. list.items ≡ filter (may (reverse s)) ALL_KINDS)) c.deref.ensures.value
    c.allowed.ensures
