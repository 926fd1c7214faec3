-- The faults of an `appliesTo` block.
use Rattle.std.specs.Prelude.{ℕ, Bool, true, false, List, [], ◌∷◌, ◌++◌, Option, Some, None, find, is_none}
use Rattle.std.specs.Prelude.{if◌then◌else◌}
use Rattle.std.specs.List.{list_any}
use Rattle.std.specs.Option.{option_or}
use Rattle.cedar_data.specs.Span.{Span}
use Rattle.cedar_data.specs.declared.node.Node.{Node}
use Rattle.schema_syntax_tree.specs.declared.app_decl.AppDecl.{AppDecl}
use Rattle.schema_syntax_tree.specs.declared.app_decl.AppDecl.TheVariants.{PR, Context}
use Rattle.schema_syntax_tree.specs.declared.pr.PR.{PR as Role}
use Rattle.schema_syntax_tree.specs.declared.pr.PR.TheVariants.{Principal, Resource}
use Rattle.schema_convert_errors.specs.declared.errors.MissingOrEmpty.TheVariants.{Missing, Empty}
use Rattle.schema_convert_errors.specs.declared.errors.ToJsonSchemaError.{ToJsonSchemaError}
use Rattle.schema_convert_errors.specs.declared.errors.ToJsonSchemaError.TheVariants.{DuplicateContext}
use Rattle.schema_convert_errors.specs.declared.errors.ToJsonSchemaError.TheVariants.{DuplicatePrincipalOrResource}
use Rattle.schema_convert_errors.specs.declared.errors.ToJsonSchemaError.TheVariants.{NoPrincipalOrResource}

-- both are principals, or both resources
abbrev pub is_same_role : Role → Role → Bool
is_same_role Principal Principal = true
is_same_role Resource Resource = true
is_same_role a b = false

-- the member says which principals, or which resources, as the kind is
abbrev pub says_role : Role → AppDecl → Bool
says_role kind (PR d) = is_same_role kind d.kind.node
says_role kind (Context c) = false

-- both say the same: which principals, which resources, or the context
abbrev pub says_same : AppDecl → AppDecl → Bool
says_same (PR d) member = says_role d.kind.node member
says_same (Context c) (PR d) = false
says_same (Context c) (Context d) = true

module _ (name : Node (List ℕ)) where
  -- a second member that says the same, with the places of both
  abbrev pub said_twice : AppDecl → Option Span → Option Span → ToJsonSchemaError
  said_twice (PR d) first second =
      DuplicatePrincipalOrResource (record { name = name.node; kind = d.kind.node; loc1 = first; loc2 = second })
  said_twice (Context c) first second = DuplicateContext (record { name = name.node; loc1 = first; loc2 = second })

  abbrev pub empty_role : Role → Option Span → ToJsonSchemaError
  empty_role kind loc =
      NoPrincipalOrResource (record {
        kind = kind;
        name = name.node;
        missing_or_empty = Empty loc;
        name_loc = name.loc;
      })

  abbrev pub missing_role : Role → ToJsonSchemaError
  missing_role kind =
      NoPrincipalOrResource (record { kind = kind; name = name.node; missing_or_empty = Missing; name_loc = name.loc })

  -- `[]` in place of principals or resources
  abbrev pub said_empty : AppDecl → Option Span → Option ToJsonSchemaError
  said_empty (PR d) loc = if is_none d.entity_tys then Some (empty_role d.kind.node loc) else None
  said_empty (Context c) loc = None

  -- the fault of a member of which this is the first that says the same, where there is one
  abbrev pub fault_after : Option (Node AppDecl) → Node AppDecl → Option ToJsonSchemaError
  fault_after (Some first) member = Some (said_twice member.node first.loc member.loc)
  fault_after None member = said_empty member.node member.loc

  -- the fault of a member behind these: one of them says the same, or else it is `[]`
  abbrev pub member_fault : List (Node AppDecl) → Node AppDecl → Option ToJsonSchemaError
  member_fault before member = fault_after (find (λ m. says_same member.node m.node) before) member

  -- what is missing where these are all: the resources, or else the principals
  abbrev pub missing : List (Node AppDecl) → Option ToJsonSchemaError
  missing members =
      if list_any (λ m. says_role Resource m.node) members
      then (if list_any (λ m. says_role Principal m.node) members then None else Some (missing_role Principal))
      else Some (missing_role Resource)

  -- the first fault of the members behind these, or else of what is missing
  abbrev pub fault_behind : List (Node AppDecl) → List (Node AppDecl) → Option ToJsonSchemaError
  fault_behind before [] = missing before
  fault_behind before (m ∷ ms) = option_or (member_fault before m) (fault_behind (before ++ m ∷ []) ms)

  -- the first fault of the block
  abbrev pub block_fault : List (Node AppDecl) → Option ToJsonSchemaError
  block_fault members = fault_behind [] members
