-- What the references among the parts of a fragment give.
use Rattle.std.specs.Prelude.{ℕ, List, [], Option}
use Rattle.cedar_identifiers.specs.declared.reference_type.ReferenceType.{ReferenceType}
use Rattle.cedar_identifiers.specs.declared.reference_type.ReferenceType.TheVariants.{Common, Entity}
use Rattle.schema_json_walk.specs.Parts.{Part, type_reference, context_reference, parent, principal, resource}
use Rattle.schema_json_walk.specs.Parts.{action_parent}

-- what a name gives that asks for a type of a kind, and what a reference to an action gives, by its id and its type
pub record GivenBy (N U : Type 0) : Type 0 where
  pub types : ReferenceType → N → List U
  pub actions : List ℕ → Option N → List U

-- what a part gives; parents of entity types, principals and resources ask for entity types
abbrev pub by_reference : {N U : Type 0} → GivenBy N U → Part N → List U
by_reference given (type_reference kind name) = given.types kind name
by_reference given (context_reference name) = given.types Common name
by_reference given (parent name) = given.types Entity name
by_reference given (principal name) = given.types Entity name
by_reference given (resource name) = given.types Entity name
by_reference given (action_parent id ty) = given.actions id ty
by_reference given _ = []
