-- What a visitor is told, and where it stops.
use Rattle.std.specs.Prelude.{◌⊎◌, List, [], ◌∷◌}
use Rattle.schema_json_walk.specs.Parts.{Part, type_reference, context_reference, parent, principal, resource}
use Rattle.schema_json_walk.specs.Parts.{action_parent, extension_type, open_record, action_attributes}
use Rattle.schema_json_walk.specs.Parts.{external_not_bare}
use Rattle.schema_json_walk.specs.declared.lent_part.LentPart.{LentPart}
use Rattle.schema_json_walk.specs.declared.lent_part.LentPart.TheVariants as lent

-- the part that is lent
abbrev pub part_of : {N : Type 0} → LentPart N → Part N
part_of (lent.TypeReference kind name) = type_reference kind name.now
part_of (lent.ContextReference name) = context_reference name.now
part_of (lent.Parent name) = parent name.now
part_of (lent.Principal name) = principal name.now
part_of (lent.Resource name) = resource name.now
part_of (lent.ActionParent id ty) = action_parent id.now ty.now
part_of (lent.ExtensionType name) = extension_type name.now
part_of lent.OpenRecord = open_record
part_of (lent.ActionAttributes names) = action_attributes names.now
part_of lent.ExternalNotBare = external_not_bare

-- The first of these parts is refused, or it is taken and one of the others stops the visitor.
abbrev pub StopsAmong : {S P E : Type 0} → (S → P → S → Type 0) → (S → P → E → Type 0) → S → List P → E → Type 0
StopsAmong takes refuses s [] e = ⊥
StopsAmong {S} takes refuses s (p ∷ ps) e =
    refuses s p e ⊎ ((after : S) × takes s p after × StopsAmong takes refuses after ps e)

-- what is taken of a part with its namespace
abbrev pub takes_placed : {Ns S P : Type 0} → (Ns → S → P → S → Type 0) → S → Ns × P → S → Type 0
takes_placed takes before e after = takes e.0 before e.1 after

-- what is refused of a part with its namespace
abbrev pub refuses_placed : {Ns S P E : Type 0} → (Ns → S → P → E → Type 0) → S → Ns × P → E → Type 0
refuses_placed refuses before e refusal = refuses e.0 before e.1 refusal
