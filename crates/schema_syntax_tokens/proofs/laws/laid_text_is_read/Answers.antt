use Rattle.std.proofs.Common.{refl, inr}
use Rattle.schema_syntax_tokens.specs.Quotes.{quoted_body}
use Rattle.schema_syntax_tokens.proofs.LaidOut.{laid_reads}
use Rattle.schema_syntax_tokens.proofs.OneString.{quoted_body_is}
use Rattle.schema_syntax_tokens.proofs.laws.laid_text_is_read.Goals as goal

pub returns-clause-read : goal.returns-clause-read
returns-clause-read c = λ ps s. laid_reads s

pub returns-clause-string : goal.returns-clause-string
returns-clause-string c = λ cs. inr (inr ((quoted_body cs, quoted_body_is cs, refl), refl))
