use Rattle.std.proofs.Common.{ap, sym, ◌∙◌}
use Rattle.std.specs.Ordering.{is_eq}
use Rattle.schema_build_recovered.proofs.Spaces.{same_words}
use Rattle.schema_build_recovered.proofs.names.are_one.Goals as goal

pub returns : goal.returns
returns c = c.is_eq.ensures ∙ ap is_eq c.compare.ensures ∙ sym (same_words c.args.a.words c.args.b.words)
