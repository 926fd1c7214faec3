-- What the walk of a fragment meets.
use Rattle.std.specs.Prelude.{ℕ, List, Option}
use Rattle.cedar_identifiers.specs.declared.reference_type.ReferenceType.{ReferenceType}
use Rattle.cedar_identifiers.specs.declared.unreserved_id.UnreservedId.{UnreservedId}

-- a part of a fragment that the walk meets, one case for each kind of it
pub data Part (N : Type 0) : Type 0 where
  -- within a type: what must be a common type, what must be an entity type, or what may be either
  type_reference : ReferenceType → N → Part N
  -- a context that is itself a reference to a common type
  context_reference : N → Part N
  -- of an entity type
  parent : N → Part N
  -- of an action
  principal : N → Part N
  resource : N → Part N
  -- by its id and its type, where one is written
  action_parent : List ℕ → Option N → Part N
  extension_type : UnreservedId → Part N
  -- a record in which others than its attributes may stand
  open_record : Part N
  -- the names of an action's attributes, where any are written
  action_attributes : List (List ℕ) → Part N
  -- an entity type or an action that another schema declares, with more than such a one may have
  external_not_bare : Part N
