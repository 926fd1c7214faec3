use Rattle.std.proofs.Common.{[], sym, subst, arith, map, take, string_bytes}
use Rattle.cedar_schema_cli_inputs.proofs.Keeping.{keeps_all, keeps_on}
use Rattle.cedar_schema_cli_sheets.proofs.Getting.{gets_none}
use Rattle.cedar_schema_cli_check.specs.Checking.{AddsNamed, AddsAll}
use Rattle.cedar_schema_cli_check.specs.Checks.{none}
use Rattle.cedar_schema_cli_check.specs.Statuses.{joined_status}
use Rattle.cedar_schema_cli_check.proofs.Further.{further}
use Rattle.cedar_schema_cli_check.proofs.Names.{one_more}
use Rattle.cedar_schema_cli_check.proofs.check.check_all.Goals as goal

pub loop-name-init : goal.loop-name-init
loop-name-init g c = record {
  same = keeps_all (g.F.Files.files c.args.files.now);
  status = record { items = []; checked = none; gets = gets_none c.args.sheet.now };
}

pub loop-name-preserved : goal.loop-name-preserved
loop-name-preserved g c =
    let table = c.args.table.now in
    let standard = c.args.standard.now in
    let files = g.F.Files.files c.args.files.now in
    let mid = g.F.Files.files c.loop-name.files in
    let old = c.loop-name.sheet in
    let new = c.check_named.new.sheet in
    let names = map string_bytes (take c.loop-name.name-index c.args.names.now) in
    let named = subst (λ name. AddsNamed table mid standard name old new c.in_ok-next.next) c.as_str.ensures.value
    c.in_ok-next.ensures.status in
    let all = further table files mid standard names (string_bytes c.name-item.result) c.args.sheet.now old new
    c.loop-name.status c.in_ok-next.next c.loop-name.invariant.status c.loop-name.invariant.same named in
    let more = one_more c.args.names.now c.loop-name.name-index c.name-item.result c.loop-name-test.true
    c.name-item.is in
    record {
      same = keeps_on files mid (g.F.Files.files c.check_named.new.files) c.loop-name.invariant.same
          c.check_named.ensures.same;
      status = subst (AddsAll table files standard _ c.args.sheet.now new) (sym c.joined_status-status.ensures)
          (subst (λ ns. AddsAll table files standard ns c.args.sheet.now new
          (joined_status c.loop-name.status c.in_ok-next.next)) (sym more) all);
    }
