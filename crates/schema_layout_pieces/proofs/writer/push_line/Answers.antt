use Rattle.std.proofs.Common.{[], ◌∷◌, ◌++◌, ap, ◌∙◌}
use Rattle.std.specs.String.{string_bytes}
use Rattle.std.proofs.lemmas.List.{append_assoc}
use Rattle.schema_layout_pieces.specs.Layout.{indent}
use Rattle.schema_layout_pieces.proofs.Depths.{indent_more}
use Rattle.schema_layout_pieces.proofs.writer.push_line.Goals as goal

pub loop-preserved : goal.loop-preserved
loop-preserved c =
    let start = string_bytes c.push_str.new.self in
    c.in_ok-push_str-2.ensures.bytes
    ∙ (ap (λ t. t ++ 32 ∷ 32 ∷ []) c.loop.invariant
    ∙ (append_assoc start (indent c.loop.counter) (32 ∷ 32 ∷ []) ∙ ap (λ t. start ++ t) (indent_more c.loop.counter)))
