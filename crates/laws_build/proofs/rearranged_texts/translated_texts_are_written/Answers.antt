use Rattle.laws_written.specs.Lexemes.{lexemes_at}
use Rattle.laws_build.proofs.Orders.Texts.{written_so}
use Rattle.laws_build.proofs.Closure.Scanned.{tokens_spell}
use Rattle.laws_build.proofs.rearranged_texts.translated_texts_are_written.Goals as goal

pub returns : goal.returns
returns c = λ text table f warnings (tree, is, t).
    written_so c.trees_are_spelled.ensures text tree (lexemes_at text is.tokens) is
    (tokens_spell text is.tokens _ is.are.scans)
