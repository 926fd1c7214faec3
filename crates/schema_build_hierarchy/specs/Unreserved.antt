-- Names that may be declared.
use Rattle.std.specs.Prelude.{ℕ, not, List}
use Rattle.std.specs.List.{filter}
use Rattle.cedar_identifiers.specs.Names.{has_cedar}

-- those without the component `__cedar`
abbrev pub unreserved_names : List (List (List ℕ)) → List (List (List ℕ))
unreserved_names names = filter (λ n. not (has_cedar n)) names
