use Rattle.std.proofs.Common.{rules, ◌≡◌, true}
use Rattle.schema_print_faithful.proofs.faithful_texts.faithful_text.Goals as goal

pub returns-clause-resolves : goal.returns-clause-resolves
returns-clause-resolves c =
    let told : c.is_printable.result ≡ true = search rules in
    c.printable_fragments_read_back.ensures.resolves c.args.fragment.now c.args.table.now
    (c.is_printable.ensures.0 told)
