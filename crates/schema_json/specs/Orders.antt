-- The orders of what the maps of a fragment go by, and of names as they are written.
use Rattle.std.specs.Prelude.{Option, Some, None}
use Rattle.std.specs.declared.cmp.Ordering.{Ordering}
use Rattle.std.specs.declared.cmp.Ordering.TheVariants.{Less, Equal, Greater}
use Rattle.std.specs.Cmp.Lexicographic.{slice_cmp}
use Rattle.cedar_data.specs.Text.{text_cmp}
use Rattle.cedar_identifiers.specs.Names.{components_of}
use Rattle.cedar_identifiers.specs.declared.any_id.AnyId.{AnyId}
use Rattle.cedar_identifiers.specs.declared.name.Name.{Name}
use Rattle.cedar_identifiers.specs.declared.unreserved_id.UnreservedId.{UnreservedId}
use Rattle.schema_json.specs.declared.common_type.CommonTypeId.{CommonTypeId}

-- the order of words: by the bytes of their texts
abbrev pub unreserved_cmp : UnreservedId → UnreservedId → Ordering
unreserved_cmp a b = text_cmp a.id.text b.id.text

-- the order of the names of common types: by the bytes of their texts
abbrev pub common_cmp : CommonTypeId → CommonTypeId → Ordering
common_cmp a b = unreserved_cmp a.id b.id

-- the order of namespaces: the empty one first, the others by the texts of their components
abbrev pub namespace_cmp : Option Name → Option Name → Ordering
namespace_cmp None None = Equal
namespace_cmp None (Some b) = Less
namespace_cmp (Some a) None = Greater
namespace_cmp (Some a) (Some b) = slice_cmp text_cmp (components_of a.name) (components_of b.name)

-- annotation keys go by their texts
abbrev pub annotation_key_cmp : AnyId → AnyId → Ordering
annotation_key_cmp a b = text_cmp a.text b.text
