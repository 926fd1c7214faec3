-- The types of a fragment as they are lent to be expanded.
use Rattle.std.specs.Borrow.{Bor}
use Rattle.cedar_identifiers.specs.declared.raw_name.RawName.{RawName}
use Rattle.schema_json.specs.declared.types.Type.{«Type»}
use Rattle.schema_resolve_definitions.specs.Declarations.{name_of}
use Rattle.schema_build_scope.specs.Commons.{TypeAt}
use Rattle.schema_build_scope.specs.declared.names_in.NamesIn.{NamesIn}

-- the type that is lent, where its namespace stands beside it
abbrev pub lent_at : NamesIn × Bor («Type» RawName) → TypeAt
lent_at c = record { place = name_of c.0.ns.now; ty = c.1.now }
