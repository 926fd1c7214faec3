use Rattle.std.proofs.Common.{sym, ◌∙◌, rules}
use Rattle.std.specs.Vec.Iter.{into_iter_items}
use Rattle.std.proofs.lemmas.List.{nil_from_length}
use Rattle.std.proofs.lemmas.Result.{err_from_is_err_and}
use Rattle.schema_syntax_parser.specs.Syntax.{IsDeclared}
use Rattle.schema_syntax_reader.specs.Placed.{IsScanned}
use Rattle.schema_syntax_reader.specs.Sites.{declared_sites}
use Rattle.schema_syntax_reader.specs.Trees.{IsDeclaredOf}
use Rattle.schema_syntax_reader.proofs.Readings.{next_fits, stopped_at_part}
use Rattle.schema_convert_plain.proofs.ItemByItem.{none_added, one_more_added, all_added}
use Rattle.schema_convert_plain.proofs.gathering.push_read.Goals as goal

pub loop-raw-init : goal.loop-raw-init
loop-raw-init c =
    none_added c.args.text.now c.args.table.now c.args.raws _ c.args.entries.now (search rules)

pub declared-requires : goal.declared-requires
declared-requires c =
    next_fits c.args.text.now declared_sites (IsDeclaredOf c.args.text.now) c.args.raws
    (into_iter_items c.loop-raw.raw-iterator) c.in-Some.raw (into_iter_items c.next.new.self)
    c.in-Some.ensures.steps.0 c.loop-raw.invariant.decls c.loop-raw.invariant.read
    (IsScanned IsDeclared c.args.text.now) c.requires

pub returns-in_err-decl-clause-fault : goal.returns-in_err-decl-clause-fault
returns-in_err-decl-clause-fault c =
    let p = err_from_is_err_and c.from_residual.result c.from_residual.ensures.1 in
    rw (p.1, p.2) (stopped_at_part c.args.text.now declared_sites (IsDeclaredOf c.args.text.now) c.args.raws
    (into_iter_items c.loop-raw.raw-iterator) c.in-Some.raw (into_iter_items c.next.new.self)
    c.in-Some.ensures.steps.0 c.loop-raw.invariant.decls c.loop-raw.invariant.read c.in_err-decl.field-0.0
    c.in_err-decl.ensures)

pub loop-raw-preserved : goal.loop-raw-preserved
loop-raw-preserved c =
    one_more_added c.args.text.now c.args.table.now c.args.raws (into_iter_items c.loop-raw.raw-iterator) c.in-Some.raw
    (into_iter_items c.next.new.self) c.in-Some.ensures.steps.0 c.args.entries.now c.loop-raw.entries
    c.push_declared.new.entries c.in_ok-decl.decl c.loop-raw.invariant c.in_ok-decl.ensures.0 c.in_ok-decl.ensures.1
    c.in_ok-push_declared.ensures.commons c.in_ok-push_declared.ensures.entities c.in_ok-push_declared.ensures.actions
    (c.in_ok-is_plain.ensures (search rules))

pub returns-clause-added : goal.returns-clause-added
returns-clause-added c plain =
    all_added c.args.text.now c.args.table.now c.args.raws (into_iter_items c.loop-raw.raw-iterator) c.args.entries.now
    c.loop-raw.entries
    (nil_from_length _ (sym c.loop-raw.raw-iterator.rest.ok.0 ∙ c.in-None.ensures.steps.0)) c.loop-raw.invariant
