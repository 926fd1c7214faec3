-- What sets and records in memory stand for.
use Rattle.std.proofs.Common.{◌≡◌, List, ap, sym, ◌∙◌}
use Rattle.schema_inclusion_values.specs.declared.val.Val.{Val as Held, Val-F, fold-roll-Val}
use Rattle.schema_inclusion_values.specs.declared.val.Val.TheVariants as held
use Rattle.schema_inclusion_values.specs.Seen.{value_of, layer_value, entries_value}
use Rattle.schema_inclusion_values.specs.Values.{Text, Val}
use Rattle.schema_inclusion_values.specs.Values as values
use Rattle.schema_inclusion_shown.specs.Members.{members_value}

pub set_stands : (members : List Held) → value_of (held.Set members) ≡ values.Set (members_value members)
set_stands members = ap value_of (sym (held.rolls-Set members)) ∙ fold-roll-Val Val layer_value (Val-F.Set members)

pub record_stands : (attributes : List (Text × Held)) → value_of (held.Rec attributes)
    ≡ values.Rec (entries_value attributes)
record_stands attributes = ap value_of (sym (held.rolls-Rec attributes))
    ∙ fold-roll-Val Val layer_value (Val-F.Rec attributes)
