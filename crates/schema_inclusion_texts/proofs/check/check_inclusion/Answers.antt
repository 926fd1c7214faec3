use Rattle.std.proofs.Common.{Some, None, ap, sym, ◌∙◌}
use Rattle.std.specs.Option.{option_map}
use Rattle.schema_inclusion_values.specs.Seen.{schema_value}
use Rattle.schema_inclusion_texts.proofs.Compared.{meant, answered}
use Rattle.schema_inclusion_texts.proofs.check.check_inclusion.Goals as goal

pub returns-in-Err : goal.returns-in-Err
returns-in-Err c =
    c.old_refusal.ensures c.args.old_text.now c.args.new_text.now c.args.table.now c.in-Err.ensures

pub returns-in-Err-built : goal.returns-in-Err-built
returns-in-Err-built c =
    c.new_refusal.ensures c.args.old_text.now c.args.new_text.now c.args.table.now
    (meant c.args.old_text.now c.args.table.now c.in-Ok.schema c.in-Ok.ensures) c.in-Err-built.ensures

pub returns-in-Ok-None : goal.returns-in-Ok-None
returns-in-Ok-None c =
    answered c.meanings_of_texts_are_settled.ensures c.meanings_are_read_back.ensures
    c.the_first_lost_of_built_schemas_is_found.ensures c.the_first_lost_is_about_the_same.ensures
    c.args.old_text.now c.args.new_text.now c.args.table.now c.in-Ok.schema c.in-Ok-built.schema c.in-Ok.ensures
    c.in-Ok-built.ensures None (ap (option_map schema_value) (sym c.in-Ok-None.field-0-is) ∙ c.in-Ok-None.ensures)

pub returns-in-Ok-Some : goal.returns-in-Ok-Some
returns-in-Ok-Some c =
    answered c.meanings_of_texts_are_settled.ensures c.meanings_are_read_back.ensures
    c.the_first_lost_of_built_schemas_is_found.ensures c.the_first_lost_is_about_the_same.ensures
    c.args.old_text.now c.args.new_text.now c.args.table.now c.in-Ok.schema c.in-Ok-built.schema c.in-Ok.ensures
    c.in-Ok-built.ensures (Some (schema_value c.in-Ok-Some.value))
    (ap (option_map schema_value) (sym c.in-Ok-Some.field-0-is) ∙ c.in-Ok-Some.ensures)
