use Rattle.std.proofs.Common.{◌≡◌, sym, subst, true}
use Rattle.std.specs.Prelude.{IfErr}
use Rattle.std.proofs.lemmas.Result.{IfOk-weaker}
use Rattle.schema_syntax_parser.specs.Syntax.{IsItem}
use Rattle.schema_syntax_parser.specs.declared.syntax.ItemSyntax.TheVariants as syntax
use Rattle.schema_syntax_reader.specs.Placed.{IsScanned}
use Rattle.schema_syntax_reader.specs.Sites.{item_sites}
use Rattle.schema_syntax_reader.specs.Stops.{IsStopped}
use Rattle.schema_syntax_reader.proofs.Scanned.{item_parts}
use Rattle.schema_convert_plain.specs.Gathered.{AddsNamespace, AddsItem}
use Rattle.schema_convert_plain.proofs.ItemByItem.{namespace_added}
use Rattle.schema_convert_plain.proofs.reading.push_item.Goals as goal

pub push_namespace-requires : goal.push_namespace-requires
push_namespace-requires c =
    let read = c.in-Namespace in
    let parts = item_parts c.args.text.now (syntax.Namespace read.list read.name read.raws read.field-3)
    (subst (IsScanned IsItem c.args.text.now) read.is c.requires) in
    record { list = parts.0; name = parts.1; raws = parts.2 }

pub returns-in-Namespace-clause-added : goal.returns-in-Namespace-clause-added
returns-in-Namespace-clause-added c =
    let read = c.in-Namespace in
    IfOk-weaker c.push_namespace.result
    (λ plain. plain ≡ true → AddsNamespace c.args.text.now c.args.table.now read.list read.name read.raws
    c.args.gathered.now c.push_namespace.new.gathered)
    (λ plain. plain ≡ true → AddsItem c.args.text.now c.args.table.now c.args.raw c.args.gathered.now
    c.push_namespace.new.gathered)
    (λ plain adds yes. namespace_added c.args.text.now c.args.table.now c.args.gathered.now
    c.push_namespace.new.gathered c.args.raw read.list read.name read.raws read.field-3 read.is (adds yes))
    c.push_namespace.ensures.added

pub returns-in-Namespace-clause-fault : goal.returns-in-Namespace-clause-fault
returns-in-Namespace-clause-fault c =
    subst (λ i. IfErr c.push_namespace.result (IsStopped c.args.text.now (item_sites i))) (sym c.in-Namespace.is)
    c.push_namespace.ensures.fault
