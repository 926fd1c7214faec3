-- What is written with names that have a component, and declarations that have a name.
use Rattle.std.specs.Prelude.{ℕ, List, Option, Some, None}
use Rattle.std.specs.List.{AllByRecursion}
use Rattle.laws_written.specs.Written.{WrittenType, WrittenAttributes, path, set, rec, no_more, attribute}
use Rattle.laws_written.specs.Written.{WrittenRef, WrittenMember, types, context_path, context_record, WrittenDecl}
use Rattle.laws_written.specs.Written.{entity, enum, external_entity, action, external_action, common}
use Rattle.laws_written.specs.Written.{WrittenDeclared, WrittenItem, namespace, outside}
use Rattle.laws_written.specs.PrintedDecls.{IsSome}

abbrev mutual
  -- each name in the written type has a component
  pub IsNamedType : WrittenType → Type 0
  IsNamedType (path p) = IsSome p
  IsNamedType (set t) = IsNamedType t
  IsNamedType (rec xs) = AreNamedAttributes xs

  -- each name in the types of the attributes has a component
  pub AreNamedAttributes : WrittenAttributes → Type 0
  AreNamedAttributes no_more = Unit {0}
  AreNamedAttributes (attribute ns n r t xs) = IsNamedType t × AreNamedAttributes xs

abbrev pub AreNamedTags : Option WrittenType → Type 0
AreNamedTags None = Unit {0}
AreNamedTags (Some t) = IsNamedType t

abbrev pub IsNamedRole : Option (List (List ℕ)) → Type 0
IsNamedRole None = Unit {0}
IsNamedRole (Some p) = IsSome p

abbrev pub IsNamedRef : WrittenRef → Type 0
IsNamedRef r = IsNamedRole r.ty

abbrev pub IsNamedMember : WrittenMember → Type 0
IsNamedMember (types role paths) = AllByRecursion IsSome paths
IsNamedMember (context_path p) = IsSome p
IsNamedMember (context_record xs) = AreNamedAttributes xs

abbrev pub AreNamedMembers : Option (List WrittenMember) → Type 0
AreNamedMembers None = Unit {0}
AreNamedMembers (Some members) = AllByRecursion IsNamedMember members

abbrev pub IsNamedDecl : WrittenDecl → Type 0
IsNamedDecl (entity names parents xs tags) = AllByRecursion IsSome parents × AreNamedAttributes xs × AreNamedTags tags
IsNamedDecl (enum names choices) = Unit {0}
IsNamedDecl (external_entity names parents) = AllByRecursion IsSome parents
IsNamedDecl (action names refs members) = IsSome names × AllByRecursion IsNamedRef refs × AreNamedMembers members
IsNamedDecl (external_action names refs) = AllByRecursion IsNamedRef refs
IsNamedDecl (common name t) = IsNamedType t

abbrev pub IsNamedDeclared : WrittenDeclared → Type 0
IsNamedDeclared d = IsNamedDecl d.decl

-- each name in the item has a component, and each declaration of actions has a name
abbrev pub IsWellNamed : WrittenItem → Type 0
IsWellNamed (namespace notes name decls) = IsSome name × AllByRecursion IsNamedDeclared decls
IsWellNamed (outside d) = IsNamedDeclared d
