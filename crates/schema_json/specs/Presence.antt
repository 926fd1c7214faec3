-- Whether what must be there is there.
use Rattle.std.specs.Prelude.{Bool, not, ◌||◌, Option, is_some}

-- where it must be there, it is
abbrev pub is_where_due : {N : Type 0} → Bool → Option N → Bool
is_where_due due value = not due || is_some value
