-- What is written with choices where there is an enum.
use Rattle.std.specs.List.{AllByRecursion}
use Rattle.laws_written.specs.PrintedDecls.{IsSome}
use Rattle.laws_written.specs.Written.{WrittenDecl, enum, WrittenItem}
use Rattle.laws_translate.specs.FragmentsSay.{decls_of_item}
use Rattle.std.specs.Prelude.{List}

-- an enum has a choice
abbrev pub IsChosenDecl : WrittenDecl → Type 0
IsChosenDecl (enum names choices) = IsSome choices
IsChosenDecl _ = Unit {0}

-- each enum that is written has a choice
abbrev pub AreChosen : List WrittenItem → Type 0
AreChosen items = AllByRecursion (λ i. AllByRecursion (λ d. IsChosenDecl d.decl) (decls_of_item i)) items
