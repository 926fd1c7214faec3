-- Names of a fragment as they are written.
use Rattle.std.specs.Prelude.{false}
use Rattle.cedar_identifiers.specs.Names.{components_of}
use Rattle.cedar_identifiers.specs.declared.name_text.NameText as named
use Rattle.cedar_identifiers.specs.declared.raw_name.RawName.{RawName}

-- names as written, which may leave the type of an action out
abbrev pub as_written : named.Ghosts RawName
as_written = record { TYPED = false; components = λ n. components_of n.name }
