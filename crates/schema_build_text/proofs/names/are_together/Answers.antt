use Rattle.std.proofs.Common.{ap, sym, ◌∙◌}
use Rattle.std.specs.Ordering.{is_eq}
use Rattle.schema_build_text.proofs.Named.{namespaces_tie}
use Rattle.schema_build_text.proofs.names.are_together.Goals as goal

pub returns : goal.returns
returns c = c.is_eq.ensures ∙ ap is_eq c.compare_namespaces.ensures ∙ sym (namespaces_tie c.args.a.now c.args.b.now)
