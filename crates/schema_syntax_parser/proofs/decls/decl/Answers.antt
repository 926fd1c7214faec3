use Rattle.schema_syntax_parser.specs.Reading.{decl_at}
use Rattle.std.proofs.Common.{rules}
use Rattle.schema_syntax_parser.proofs.decls.decl.Goals as goal

pub returns-in-KwAction : goal.returns-in-KwAction
unfolding decl_at
returns-in-KwAction c = search rules

pub returns-in-KwEntity : goal.returns-in-KwEntity
unfolding decl_at
returns-in-KwEntity c = search rules

pub returns-in-KwExternal : goal.returns-in-KwExternal
unfolding decl_at
returns-in-KwExternal c = search rules

pub returns-in-KwType : goal.returns-in-KwType
unfolding decl_at
returns-in-KwType c = search rules

pub returns-in_default : goal.returns-in_default
unfolding decl_at
returns-in_default c = search rules

pub returns-in_err-word : goal.returns-in_err-word
unfolding decl_at
returns-in_err-word c = search rules
