use Rattle.schema_layout_texts.proofs.Stays.{schema_again}
use Rattle.schema_layout_texts.proofs.laws.pieces_make_schemas.Goals as goal

pub returns : goal.returns
returns c = λ old new tree same.
    schema_again c.pieces_of_texts.ensures.tokens c.one_scan.ensures c.syntax_is_sentence.ensures
    c.lexemes_decide_what_is_said.ensures.same old new tree same
