-- Paths as names.
use Rattle.std.specs.Prelude.{List, [], ◌∷◌, Option, codes, refl}
use Rattle.cedar_data.specs.Span.{Span}
use Rattle.cedar_identifiers.specs.declared.id.Id.{Id}
use Rattle.cedar_identifiers.specs.declared.internal_name.InternalName.{InternalName}
use Rattle.cedar_identifiers.specs.declared.raw_name.RawName.{RawName}
use Rattle.schema_syntax_tree.specs.declared.path.Path.{Path}

abbrev underscore : Id
underscore = record { text = codes "_"; word = refl }

-- the name of these ids, the outermost first, at this place; where there is no id, which is so of no path, it is `_`
abbrev pub name_of_ids : List Id → Option Span → InternalName
name_of_ids [] loc = record { first = underscore; others = []; loc = loc }
name_of_ids (id ∷ ids) loc = record { first = id; others = ids; loc = loc }

-- the name with the path's ids and its place
abbrev pub internal_name_of : Path → InternalName
internal_name_of path = name_of_ids path.ids path.loc

-- the name as it was written
abbrev pub raw_name_of : Path → RawName
raw_name_of path = record { name = internal_name_of path }
