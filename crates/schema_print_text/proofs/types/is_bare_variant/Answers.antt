use Rattle.std.proofs.Common.{◌∙◌, ap, length, ◌==◌}
use Rattle.schema_json.specs.declared.types.RecordType.{out-RecordType}
use Rattle.schema_json.specs.declared.types.TypeVariant.TheVariants.{Record}
use Rattle.laws_written.specs.Written.{rec}
use Rattle.schema_print_text.specs.PrintedTypes.{printed_entries}
use Rattle.schema_print_text.proofs.Layers.{bare, variant_record, entries_bare}
use Rattle.schema_print_text.proofs.types.is_bare_variant.Goals as goal

pub returns-in-Record : goal.returns-in-Record
returns-in-Record g c =
    let names = g.N.NameText.components in
    let r = c.in-Record.record in
    let es = (out-RecordType g.row.N.Denot r).attributes in
    bare g.row.N.Denot names c.args.ty.now (Record r) (rec (printed_entries names es)) _ c.in-Record.is
    (variant_record g.row.N.Denot names r)
    (c.is_empty.ensures ∙ (ap (λ xs. length xs == 0) c.as_slice.ensures.entries ∙ entries_bare g.row.N.Denot names es))
