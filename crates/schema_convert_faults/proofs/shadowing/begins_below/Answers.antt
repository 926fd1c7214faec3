use Rattle.std.proofs.Common.{sym, ap, ◌∙◌}
use Rattle.std.specs.Prelude.{slice_get}
use Rattle.std.proofs.lemmas.Bool.{ltb-true}
use Rattle.schema_convert_faults.proofs.Below.{none_of_table}
use Rattle.schema_convert_faults.proofs.shadowing.begins_below.Goals as goal

pub returns-in-Some-Some : goal.returns-in-Some-Some
returns-in-Some-Some c = λ less.
    none_of_table c.args.table.now.names c.in-Some.least.now c.args.word.now c.in-Some-Some.first.now
    c.in-Some-Some.other.now c.as_slice.ensures.sorted
    (ap (λ ns. slice_get ns 0) (sym c.as_slice.ensures.items) ∙ sym c.in-Some.ensures.value)
    (ap (λ w. slice_get w 0) (sym c.as_bytes.ensures.value) ∙ sym c.in-Some-Some.ensures.value)
    (ap (λ w. slice_get w 0) (sym (c.as_bytes-2.ensures.value ∙ c.as_str.ensures)) ∙ sym c.in-Some-Some.ensures'.value)
    (ltb-true c.in-Some-Some.first.now c.in-Some-Some.other.now less)
