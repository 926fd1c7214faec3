use Rattle.std.proofs.Common.{◌≡◌, ◌+◌, ◌*◌, ◌≤◌}
use Rattle.schema_syntax_parser.specs.Reading.{attrs_at, with_items}
use Rattle.schema_syntax_parser.proofs.types.+types.Given as goal

abbrev pub decreases-attr : goal.decreases-attr
decreases-attr l = 3 * l.depth + 1

abbrev pub decreases-attr_turn : goal.decreases-attr_turn
decreases-attr_turn l = 3 * l.depth + 2

abbrev pub decreases-attrs : goal.decreases-attrs
decreases-attrs l = 3 * l.depth + 1

abbrev pub decreases-set : goal.decreases-set
decreases-set l = 3 * l.depth + 1

abbrev pub decreases-ty : goal.decreases-ty
decreases-ty l = 3 * l.depth

abbrev pub decreases-type_of_parts : goal.decreases-type_of_parts
decreases-type_of_parts l = 3 * l.depth + 2

abbrev pub invariant-attrs-loop-left : goal.invariant-attrs-loop-left
invariant-attrs-loop-left l =
    (l.left ≤ l.depth) ×
    (with_items l.attrs.items (attrs_at l.left l.rest) ≡ attrs_at l.depth l.tokens)

abbrev pub decreases-attrs-loop-left : goal.decreases-attrs-loop-left
decreases-attrs-loop-left l = l.left
