use Rattle.std.proofs.Common.{◌∙◌, ap, sym, subst}
use Rattle.std.specs.List.{prefix_len}
use Rattle.std.specs.Str.{IsCharBoundary}
use Rattle.cedar_data.specs.Words.{is_in_line}
use Rattle.cedar_identifiers.proofs.Blanks.{line-boundary}
use Rattle.cedar_identifiers.proofs.name_pieces.past_blank.Goals as goal

pub split_at-requires : goal.split_at-requires
split_at-requires c =
    subst (IsCharBoundary c.args.text.now)
    (sym (c.line_len-len.ensures ∙ ap (prefix_len is_in_line) c.as_bytes-then-starts_twice.ensures.value))
    (line-boundary c.args.text.now c.utf8.text)
