use Rattle.std.proofs.Common.{sym, ap, ◌∙◌, ◌++◌, flat_map}
use Rattle.schema_convert_faults.specs.Shadowings.{by_id, builtin_shadowed}
use Rattle.schema_convert_faults.specs.NamesIn.{entity_names_in}
use Rattle.schema_convert_faults.proofs.Taken.{taken_alone}
use Rattle.schema_convert_faults.proofs.shadowing.push_taken.Goals as goal

pub returns : goal.returns
returns c =
    c.in_ok-push_entities.ensures
    ∙ ap (λ es. c.args.warnings.now.items ++ flat_map (λ e. builtin_shadowed c.args.table.now e.1) es)
    (c.in_ok-entities.ensures ∙ ap by_id c.in_ok-taken.ensures)
    ∙ ap (λ told. c.args.warnings.now.items ++ told)
    (sym (taken_alone c.args.table.now (entity_names_in c.args.decls.now)))
