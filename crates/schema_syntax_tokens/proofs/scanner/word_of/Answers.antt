use Rattle.std.proofs.Common.{◌≡◌, take, sym, ap, ◌∙◌, subst}
use Rattle.std.specs.List.{prefix_len}
use Rattle.schema_syntax_tokens.specs.Forms.{word_kind}
use Rattle.cedar_data.specs.Words.{is_word_part}
use Rattle.schema_syntax_tokens.specs.Scans.{IsLongest}
use Rattle.schema_syntax_tokens.proofs.Longest.{longest_word}
use Rattle.schema_syntax_tokens.proofs.Ends.{boundary_after_token}
use Rattle.schema_syntax_tokens.proofs.scanner.word_of.Goals as goal

pub split_at-requires : goal.split_at-requires
split_at-requires c =
    let len : c.word_len-len.result ≡ prefix_len is_word_part c.args.rest.now = cc in
    boundary_after_token c.args.rest.now (word_kind (take c.word_len-len.result c.args.rest.now))
    c.word_len-len.result c.utf8.rest (longest_word c.args.rest.now c.word_len-len.result c.requires len)

pub returns : goal.returns
returns c =
    let len : c.word_len-len.result ≡ prefix_len is_word_part c.args.rest.now = cc in
    let kind : c.word_kind.result ≡ word_kind (take c.word_len-len.result c.args.rest.now) = c.word_kind.ensures
    ∙ ap word_kind c.split_at.ensures.front in
    subst (λ k. IsLongest c.args.rest.now k c.word_len-len.result) (sym kind)
    (longest_word c.args.rest.now c.word_len-len.result c.requires len)
