-- Tags where there may be none.
use Rattle.std.proofs.Common.{◌≡◌, false, List, [], ◌∷◌, length, ◌==◌, Option, Some, None, refl}
use Rattle.std.specs.Option.{option_map}
use Rattle.cedar_names.specs.Meaning.{SchemaMeaning}
use Rattle.schema_build_types.specs.declared.types.Type.{«Type»}
use Rattle.schema_inclusion_types.specs.Kinds.{plain}
use Rattle.schema_inclusion_values.specs.Seen.{entries_value}
use Rattle.schema_inclusion_values.specs.Values.{Text}
use Rattle.schema_inclusion_values.specs.declared.val.Val as held
use Rattle.schema_inclusion_reasons.specs.Reasons.{tags_gone}
use Rattle.schema_inclusion_reasons.specs.FirstReason.{tags_reason}

pub tags_over : (m : SchemaMeaning) (t : Option «Type») (tags : List (Text × held.Val)) → t ≡ None
    → (length tags == 0) ≡ false → Some tags_gone ≡ tags_reason m (option_map plain t) (entries_value tags)
tags_over m None [] e h = absurd (cc)
tags_over m None (x ∷ tags) e h = refl
tags_over m (Some t) tags e h = absurd (cc)
