use Rattle.std.proofs.Common.{◌+◌, ◌*◌, length}
use Rattle.schema_syntax_reader.specs.Sites.{sites_of_attr}
use Rattle.schema_syntax_reader.specs.Readings.{IsAttrOf}
use Rattle.schema_syntax_reader.proofs.Depths.{type_depth, attr_depth, attrs_depth}
use Rattle.schema_syntax_reader.proofs.Readings.{ReadTo}
use Rattle.schema_syntax_reader.proofs.types.+types.Given as goal

abbrev pub decreases-ty : goal.decreases-ty
decreases-ty l = 3 * type_depth l.raw

abbrev pub decreases-attr : goal.decreases-attr
decreases-attr l = 3 * attr_depth l.raw + 1

abbrev pub decreases-attrs : goal.decreases-attrs
decreases-attrs l = 3 * attrs_depth l.raws + 2

abbrev pub invariant-attrs-loop-raw : goal.invariant-attrs-loop-raw
invariant-attrs-loop-raw l = ReadTo l.text sites_of_attr (IsAttrOf l.text) l.fn.raws l.left.items l.items.items

abbrev pub decreases-attrs-loop-raw : goal.decreases-attrs-loop-raw
decreases-attrs-loop-raw l = length l.left.items
