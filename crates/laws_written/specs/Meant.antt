-- What is written of a meaning.
use Rattle.std.specs.Prelude.{ℕ, Bool, true, false, List, [], ◌∷◌, ◌++◌, codes, map, filter, Option, Some, None}
use Rattle.cedar_names.specs.Meaning.{PlainType, Attributes, EntityMeaning, ActionMeaning, SchemaMeaning}
use Rattle.cedar_names.specs.Meaning as m
use Rattle.cedar_names.specs.CanonicalText.{basename, namespace, namespaces}
use Rattle.cedar_names.specs.Definitions.{same_name}
use Rattle.schema_syntax_tree.specs.declared.pr.PR.TheVariants.{Principal, Resource}
use Rattle.laws_written.specs.Written.{WrittenType, WrittenAttributes, path, set, rec, no_more, attribute}
use Rattle.laws_written.specs.Written.{WrittenRef, WrittenMember, types, context_record, WrittenDecl, entity, enum}
use Rattle.laws_written.specs.Written.{external_entity, action, external_action, WrittenDeclared}
use Rattle.laws_written.specs.PrintedDecls.{Group}

abbrev pub under_cedar : List ℕ → WrittenType
under_cedar name = path (codes "__cedar" ∷ name ∷ [])

abbrev mutual
  -- what is written of a type of a meaning
  pub type_of_meaning : PlainType → WrittenType
  type_of_meaning PlainType.Bool = under_cedar (codes "Bool")
  type_of_meaning PlainType.Long = under_cedar (codes "Long")
  type_of_meaning PlainType.String = under_cedar (codes "String")
  type_of_meaning (PlainType.Set t) = set (type_of_meaning t)
  type_of_meaning (PlainType.Rec xs) = rec (attributes_of_meaning xs)
  type_of_meaning (PlainType.Entity name) = path name
  type_of_meaning (PlainType.Ext name) = under_cedar name

  pub attributes_of_meaning : Attributes → WrittenAttributes
  attributes_of_meaning m.no_more = no_more
  attributes_of_meaning (m.attribute n r t xs) = attribute [] n r (type_of_meaning t) (attributes_of_meaning xs)

abbrev pub tags_of_meaning : Option PlainType → Option WrittenType
tags_of_meaning None = None
tags_of_meaning (Some t) = Some (type_of_meaning t)

-- the declaration of an entity type: external where that is told, else an enum where it has choices, else standard
abbrev pub entity_as : Bool → Option (List (List ℕ)) → EntityMeaning → WrittenDecl
entity_as true choices e = external_entity (basename e.name ∷ []) e.ancestors
entity_as false (Some choices) e = enum (basename e.name ∷ []) choices
entity_as false None e = entity (basename e.name ∷ []) e.ancestors (attributes_of_meaning e.attributes)
    (tags_of_meaning e.tags)

abbrev pub ref_of_meaning : List (List ℕ) × List ℕ → WrittenRef
ref_of_meaning a = record { ty = Some a.0; id = a.1 }

abbrev pub members_of_meaning : List (List (List ℕ)) → List (List (List ℕ)) → Attributes → Option (List WrittenMember)
members_of_meaning [] resources context = None
members_of_meaning (p ∷ ps) [] context = None
members_of_meaning (p ∷ ps) (r ∷ rs) context =
    Some (types Principal (p ∷ ps) ∷ types Resource (r ∷ rs) ∷ context_record (attributes_of_meaning context) ∷ [])

-- the declaration of an action, which is an external one where that is told
abbrev pub action_as : Bool → ActionMeaning → WrittenDecl
action_as true a = external_action (a.id ∷ []) (map ref_of_meaning a.ancestors)
action_as false a = action (a.id ∷ []) (map ref_of_meaning a.ancestors)
    (members_of_meaning a.principals a.resources a.context)

abbrev pub entity_of_meaning : EntityMeaning → WrittenDeclared
entity_of_meaning e = record { notes = []; decl = entity_as e.is_external e.choices e }

abbrev pub action_of_meaning : ActionMeaning → WrittenDeclared
action_of_meaning a = record { notes = []; decl = action_as a.is_external a }

-- what is declared in a namespace: its entity types, and then its actions
abbrev pub items_of_meaning : SchemaMeaning → List (List ℕ) → List WrittenDeclared
items_of_meaning m n = map entity_of_meaning (filter (λ e. same_name n (namespace e.name)) m.entities)
    ++ map action_of_meaning (filter (λ a. same_name n (namespace a.ty)) m.actions)

-- the name of a namespace, which the empty one does not have
abbrev pub name_or_none : List (List ℕ) → Option (List (List ℕ))
name_or_none [] = None
name_or_none (c ∷ cs) = Some (c ∷ cs)

abbrev pub group_of_meaning : SchemaMeaning → List (List ℕ) → Group
group_of_meaning m n = record { notes = []; name = name_or_none n; decls = items_of_meaning m n }

-- the namespaces of a meaning that have an item, in order, as what is written of them
abbrev pub groups_of_meaning : SchemaMeaning → List Group
groups_of_meaning m = map (group_of_meaning m) (namespaces m)
