use Rattle.std.proofs.Common.{◌≡◌, ◌++◌, take}
use Rattle.schema_inclusion_check.specs.Told.{texts_now}
use Rattle.schema_inclusion_check.proofs.ids_between.joined_ids.Given as goal

abbrev pub invariant-loop-id : goal.invariant-loop-id
invariant-loop-id l = texts_now l.ids.items
    ≡ texts_now l.initial.ids.items ++ texts_now (take l.id-index l.more)
