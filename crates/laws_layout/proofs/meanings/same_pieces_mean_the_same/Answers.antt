use Rattle.schema_layout_pieces.specs.Pieces.{lexemes_among}
use Rattle.laws_layout.proofs.meanings.same_pieces_mean_the_same.Goals as goal

pub returns : goal.returns
returns c = λ text other table same.
    let tokens = c.pieces_of_texts.ensures.tokens in
    c.blanks_do_not_matter.ensures text other table (record {
      lexemes = lexemes_among same.0;
      first = tokens text same.0 same.1;
      second = tokens other same.0 same.2;
    })
