use Rattle.std.proofs.Common.{sym}
use Rattle.std.specs.Str.{chars, trim_end}
use Rattle.schema_syntax_errors.proofs.LastVisible.{brace_test}
use Rattle.schema_syntax_errors.proofs.help.ends_in_brace.Goals as goal

pub returns : goal.returns
unfolding trim_end
returns c = brace_test c.ends_with.result c.trim_end.result.now (chars c.args.text.now) c.trim_end.utf8
    (sym c.trim_end.ensures.trim) c.ends_with.ensures.cases
