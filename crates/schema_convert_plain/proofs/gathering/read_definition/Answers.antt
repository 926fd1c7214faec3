use Rattle.std.proofs.Common.{◌≡◌, true, rules}
use Rattle.std.proofs.lemmas.Option.{IfSome_then}
use Rattle.schema_convert_plain.proofs.ItemByItem.{read_as}
use Rattle.schema_convert_plain.proofs.gathering.read_definition.Goals as goal

pub returns-clause-found : goal.returns-clause-found
returns-clause-found c =
    let yes : c.in_ok-push_read.field-0 ≡ true = search rules in
    IfSome_then c.in_ok-definition.definition c.in_ok-definition.ensures
    (λ d own. read_as c.args.text.now c.args.table.now c.args.raws c.in_ok-entries.entries c.push_read.new.entries
    c.args.annotations d c.in_ok-entries.ensures.commons c.in_ok-entries.ensures.entities
    c.in_ok-entries.ensures.actions (c.in_ok-push_read.ensures.added yes) own)
