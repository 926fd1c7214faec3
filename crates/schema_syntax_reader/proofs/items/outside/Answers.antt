use Rattle.std.proofs.Common.{rules}
use Rattle.schema_syntax_reader.proofs.items.outside.Goals as goal

pub returns : goal.returns
returns c = search rules

pub returns-in_err-decl : goal.returns-in_err-decl
returns-in_err-decl c = search rules

pub returns-in_err-decls : goal.returns-in_err-decls
returns-in_err-decls c = search rules
