use Rattle.std.proofs.Common.{ap, sym, ◌∙◌, codes}
use Rattle.std.proofs.lemmas.Slice.Eq.{bytes_eq-Decides}
use Rattle.schema_syntax_tokens.specs.Forms.{word_kind}
use Rattle.schema_syntax_tokens.proofs.words.word_kind.Goals as goal

pub returns-then-same_bytes-4 : goal.returns-then-same_bytes-4
returns-then-same_bytes-4 c =
    let tags = (bytes_eq-Decides c.args.word.now (codes "tags")).0
    (sym c.same_bytes-else-same_bytes-3.ensures ∙ c.if-same_bytes-4.true) in
    ap word_kind (sym tags)
