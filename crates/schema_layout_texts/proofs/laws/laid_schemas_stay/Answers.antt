use Rattle.schema_layout_texts.proofs.Stays.{schema_pieces}
use Rattle.schema_layout_texts.proofs.laws.laid_schemas_stay.Goals as goal

pub returns-clause-pieces : goal.returns-clause-pieces
returns-clause-pieces c = λ old new tree laid.
    let p = schema_pieces c.pieces_of_texts.ensures.some old tree in
    c.laid_texts_stay.ensures.pieces old new p.0 p.1 p.2 laid

pub returns-clause-schema : goal.returns-clause-schema
returns-clause-schema c = λ old new tree laid.
    let p = schema_pieces c.pieces_of_texts.ensures.some old tree in
    c.pieces_make_schemas.ensures old new tree (c.laid_texts_stay.ensures.pieces old new p.0 p.1 p.2 laid)

pub returns-clause-fixed : goal.returns-clause-fixed
returns-clause-fixed c = λ old new tree laid again more.
    let p = schema_pieces c.pieces_of_texts.ensures.some old tree in
    c.laid_texts_stay.ensures.once old new again p.0 p.1 p.2 laid more
