use Rattle.laws_syntax.proofs.Sites.ReadingForms.{readings}
use Rattle.laws_syntax.proofs.site_tokens.readings_are_words_and_strings.Goals as goal

pub returns : goal.returns
returns c = λ part kinds d. readings d
