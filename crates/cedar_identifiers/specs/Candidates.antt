-- What a name may stand for in a namespace.
use Rattle.std.specs.Prelude.{Bool, true, false, List, [], ◌∷◌, ◌++◌, Option, Some, None, if◌then◌else◌}
use Rattle.cedar_identifiers.specs.declared.id.Id.{Id}
use Rattle.cedar_identifiers.specs.declared.internal_name.InternalName.{InternalName}

abbrev is_empty : List Id → Bool
is_empty [] = true
is_empty (i ∷ is) = false

-- the name has no namespace
abbrev pub is_unqualified : InternalName → Bool
is_unqualified name = is_empty name.others

-- the name with the namespace before it; its place stays
abbrev pub behind : InternalName → InternalName → InternalName
behind ns name = record { first = ns.first; others = ns.others ++ (name.first ∷ name.others); loc = name.loc }

-- An unqualified name in a namespace goes behind it. No namespace is the empty one, which leaves every name as it is.
abbrev pub qualified : Option InternalName → InternalName → InternalName
qualified None name = name
qualified (Some ns) name = if is_unqualified name then behind ns name else name

-- what a name may stand for, in the order in which that is tried: itself behind the namespace, where the name has none
-- and one is given; and itself as it is
abbrev pub candidates : Option InternalName → InternalName → List InternalName
candidates None name = name ∷ []
candidates (Some ns) name = if is_unqualified name then behind ns name ∷ name ∷ [] else name ∷ []
