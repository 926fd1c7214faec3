-- What may be printed has names.
use Rattle.std.proofs.Common.{ℕ, List, [], ◌∷◌, map, Option, Some, None, flat_map}
use Rattle.std.specs.List.{AllByRecursion}
use Rattle.cedar_data.proofs.Every.{All-weaker, All-append}
use Rattle.schema_syntax_reader.specs.Leaves.{Notes}
use Rattle.laws_written.specs.Written.{WrittenType, WrittenAttributes, path, set, rec, no_more, attribute}
use Rattle.laws_written.specs.Written.{WrittenMember, types, context_path, context_record, WrittenDecl, entity, enum}
use Rattle.laws_written.specs.Written.{external_entity, action, external_action, common, WrittenDeclared, outside}
use Rattle.laws_written.specs.Printed.{IsProperPath, IsProperType, AreProperAttributes}
use Rattle.laws_written.specs.PrintedDecls.{IsSome, IsProperOptional, IsProperRef, IsProperTags, IsProperMember}
use Rattle.laws_written.specs.PrintedDecls.{AreProperMembers, IsProperDecl, IsProperDeclared, Group, IsProperGroup}
use Rattle.laws_written.specs.PrintedDecls.{namespace_items, group_items}
use Rattle.laws_translate.specs.Named.{IsNamedType, AreNamedAttributes, AreNamedTags, IsNamedRole, IsNamedRef}
use Rattle.laws_translate.specs.Named.{IsNamedMember, AreNamedMembers, IsNamedDecl, IsNamedDeclared, IsWellNamed}

path_named : (p : List (List ℕ)) → IsProperPath p → IsSome p
path_named [] h = h
path_named (c ∷ []) h = tt
path_named (c ∷ d ∷ cs) h = tt

mutual
  type_named : (t : WrittenType) → IsProperType t → IsNamedType t
  type_named (path p) h = path_named p h
  type_named (set t) h = type_named t h
  type_named (rec xs) h = attributes_named xs h

  attributes_named : (xs : WrittenAttributes) → AreProperAttributes xs → AreNamedAttributes xs
  attributes_named no_more h = tt
  attributes_named (attribute ns n r t xs) h = (type_named t h.1, attributes_named xs h.2)

tags_named : (tags : Option WrittenType) → IsProperTags tags → AreNamedTags tags
tags_named None h = tt
tags_named (Some t) h = type_named t h

role_named : (p : Option (List (List ℕ))) → IsProperOptional p → IsNamedRole p
role_named None h = tt
role_named (Some p) h = path_named p h

member_named : (m : WrittenMember) → IsProperMember m → IsNamedMember m
member_named (types role ps) h = All-weaker IsProperPath IsSome path_named ps h
member_named (context_path p) h = path_named p h
member_named (context_record xs) h = attributes_named xs h

members_named : (ms : Option (List WrittenMember)) → AreProperMembers ms → AreNamedMembers ms
members_named None h = tt
members_named (Some ms) h = All-weaker IsProperMember IsNamedMember member_named ms h.1

decl_named : (d : WrittenDecl) → IsProperDecl d → IsNamedDecl d
decl_named (entity names ps xs tags) h =
    (All-weaker IsProperPath IsSome path_named ps h.2, attributes_named xs h.3, tags_named tags h.4)
decl_named (enum names choices) h = tt
decl_named (external_entity names ps) h = All-weaker IsProperPath IsSome path_named ps h.2
decl_named (action names rs ms) h =
    (h.0, All-weaker IsProperRef IsNamedRef (λ r. role_named r.ty) rs h.1, members_named ms h.2)
decl_named (external_action names rs) h = All-weaker IsProperRef IsNamedRef (λ r. role_named r.ty) rs h.1
decl_named (common n t) h = type_named t h.1

declared_named : (d : WrittenDeclared) → IsProperDeclared d → IsNamedDeclared d
declared_named d h = decl_named d.decl h.1

outside_named : (ds : List WrittenDeclared) → AllByRecursion IsProperDeclared ds
    → AllByRecursion IsWellNamed (map outside ds)
outside_named [] h = tt
outside_named (d ∷ ds) h = (declared_named d h.0, outside_named ds h.1)

items_named : (notes : Notes) (name : Option (List (List ℕ))) (ds : List WrittenDeclared) → IsProperOptional name
    → AllByRecursion IsProperDeclared ds
    → AllByRecursion IsWellNamed (namespace_items notes name ds)
items_named notes None ds h k = outside_named ds k
items_named notes (Some p) ds h k =
    ((path_named p h, All-weaker IsProperDeclared IsNamedDeclared declared_named ds k), tt)

pub groups_named : (groups : List Group) → AllByRecursion IsProperGroup groups
    → AllByRecursion IsWellNamed (flat_map group_items groups)
groups_named [] h = tt
groups_named (g ∷ gs) h = All-append IsWellNamed (group_items g) (flat_map group_items gs)
    (items_named g.notes g.name g.decls h.0.1 h.0.2) (groups_named gs h.1)
