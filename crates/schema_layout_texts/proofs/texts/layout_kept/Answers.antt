use Rattle.std.specs.Str.{encode_utf8_all}
use Rattle.schema_layout_texts.proofs.Stays.{both}
use Rattle.schema_layout_texts.proofs.texts.layout_kept.Goals as goal

pub returns-clause-pieces : goal.returns-clause-pieces
returns-clause-pieces c =
    both c.lay_out.result _ _ _ (λ out written tree.
    c.kept_schemas_stay.ensures.pieces c.args.text.now (encode_utf8_all out) tree
    (c.written_is_laid_out.ensures.kept c.args.text.now (encode_utf8_all out) written))
    c.lay_out.ensures.written c.lay_out.ensures.tree

pub returns-clause-schema : goal.returns-clause-schema
returns-clause-schema c =
    both c.lay_out.result _ _ _ (λ out written tree.
    c.kept_schemas_stay.ensures.schema c.args.text.now (encode_utf8_all out) tree
    (c.written_is_laid_out.ensures.kept c.args.text.now (encode_utf8_all out) written))
    c.lay_out.ensures.written c.lay_out.ensures.tree

pub returns-clause-fixed : goal.returns-clause-fixed
returns-clause-fixed c =
    both c.lay_out.result _ _ _ (λ out written tree.
    c.kept_schemas_stay.ensures.fixed c.args.text.now (encode_utf8_all out) tree
    (c.written_is_laid_out.ensures.kept c.args.text.now (encode_utf8_all out) written))
    c.lay_out.ensures.written c.lay_out.ensures.tree
