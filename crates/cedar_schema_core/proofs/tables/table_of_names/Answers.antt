use Rattle.cedar_schema_core.proofs.tables.table_of_names.Goals as goal

pub returns-in-Ok : goal.returns-in-Ok
returns-in-Ok c = record { of = c.in-Ok.ensures.ok; rise = c.see_order.ensures }
