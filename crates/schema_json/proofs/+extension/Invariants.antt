use Rattle.std.proofs.Common.{◌≡◌, ◌+◌, ◌*◌, drop, Some}
use Rattle.std.specs.Map.{values_of}
use denote.Param.Weighed.{most}
use Rattle.schema_json.specs.Walk.{either, is_extension_among}
use Rattle.schema_json.specs.declared.types.TypeOfAttribute.{size-TypeOfAttribute}
use Rattle.schema_json.proofs.+extension.Given as goal

abbrev pub decreases-extension::is_extension_among : goal.decreases-extension::is_extension_among
decreases-extension::is_extension_among g l =
    2 * most (size-TypeOfAttribute g.row.N.Denot) (values_of l.entries.now) + 1

abbrev pub decreases-types::Type::is_extension : goal.decreases-types::Type::is_extension
decreases-types::Type::is_extension g l = 2 * goal.size-types::Type::is_extension g l

abbrev pub decreases-types::TypeVariant::is_extension :
    goal.decreases-types::TypeVariant::is_extension
decreases-types::TypeVariant::is_extension g l = 2 * goal.size-types::TypeVariant::is_extension g l

abbrev pub invariant-extension::is_extension_among-loop-attribute :
    goal.invariant-extension::is_extension_among-loop-attribute
invariant-extension::is_extension_among-loop-attribute g l =
    either (Some l.found) (is_extension_among (drop l.attribute-index l.entries)) ≡ is_extension_among l.entries
