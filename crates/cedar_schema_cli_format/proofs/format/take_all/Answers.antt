use Rattle.std.proofs.Common.{sym, subst, map, take, string_bytes}
use Rattle.cedar_schema_cli_inputs.proofs.Keeping.{keeps_all, keeps_on}
use Rattle.cedar_schema_cli_check.proofs.Names as names
use Rattle.cedar_schema_cli_format.specs.Formatting.{TakesNamed, TakesAll}
use Rattle.cedar_schema_cli_format.specs.Plans.{empty_plan, none}
use Rattle.cedar_schema_cli_format.proofs.Taken.{one_more}
use Rattle.cedar_schema_cli_format.proofs.format.take_all.Goals as goal

pub loop-name-init : goal.loop-name-init
loop-name-init g c = record {
  same = keeps_all (g.F.Files.files c.args.files.now);
  takes = record { plan = empty_plan; planned = none; has = c.new-run.ensures };
}

pub loop-name-preserved : goal.loop-name-preserved
loop-name-preserved g c =
    let options = c.args.options.now in
    let standard = c.args.standard.now in
    let files = g.F.Files.files c.args.files.now in
    let mid = g.F.Files.files c.loop-name.files in
    let new = c.take_named.new.run in
    let before = map string_bytes (take c.loop-name.name-index c.args.names.now) in
    let named = subst (λ name. TakesNamed mid standard name c.loop-name.run new) c.as_str.ensures.value
    c.in_ok-take_named.ensures.takes in
    let more = names.one_more c.args.names.now c.loop-name.name-index c.name-item.result c.loop-name-test.true
    c.name-item.is in
    record {
      same = keeps_on files mid (g.F.Files.files c.take_named.new.files) c.loop-name.invariant.same
          c.take_named.ensures.same;
      takes = subst (λ ns. TakesAll options files standard ns new) (sym more)
          (one_more options files mid standard before (string_bytes c.name-item.result) c.loop-name.run new
          c.loop-name.invariant.takes c.loop-name.invariant.same named);
    }
