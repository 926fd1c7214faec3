use Rattle.std.proofs.Common.{ap, ◌∙◌}
use Rattle.schema_syntax_grammar.specs.Grammar.{same_kind}
use Rattle.schema_syntax_parser.proofs.SameKinds.{same_test}
use Rattle.schema_syntax_parser.proofs.front.is_of.Goals as goal

pub returns : goal.returns
returns c = c.eq.ensures
    ∙ (same_test c.kind.result c.args.kind ∙ ap (same_kind c.args.kind) c.kind.ensures)
