use Rattle.std.proofs.Common.{◌+◌, sym, subst, map, take, drop}
use Rattle.cedar_schema_cli_inputs.proofs.Keeping.{keeps_all}
use Rattle.cedar_schema_cli_format.specs.Formatting.{replacement_of}
use Rattle.cedar_schema_cli_format.specs.Replacing.{AreReplaced, none, then}
use Rattle.cedar_schema_cli_format.proofs.ChangeParts.{one_more, parts}
use Rattle.cedar_schema_cli_format.proofs.changes.replace_all.Goals as goal

pub loop-at-init : goal.loop-at-init
loop-at-init g c = none (keeps_all (g.F.Files.files c.args.files.now))

pub loop-at-preserved : goal.loop-at-preserved
loop-at-preserved g c =
    let files = g.F.Files.files in
    let more = one_more c.args.changes.now c.loop-at.at c.index-changes-at.result c.loop-at-test.true c.index-changes-at.is in
    subst (λ rs. AreReplaced (files c.args.files.now) rs (files c.replace_one.new.files)) (sym more)
    (then c.loop-at.invariant (replacement_of c.index-changes-at.result) c.in-Ok.ensures.ok)

pub returns-in_default : goal.returns-in_default
returns-in_default g c =
    let changes = c.args.changes.now in
    let at = c.loop-at.at in
    let within = c.loop-at-test.true in
    record {
      within = within;
      change = c.index-changes-at.result;
      here = c.index-changes-at.is;
      first = map replacement_of (take at changes);
      rest = map replacement_of (drop (at + 1) changes);
      parts = parts changes at c.index-changes-at.result within c.index-changes-at.is;
      mid = g.F.Files.files c.loop-at.files;
      replaced = c.loop-at.invariant;
      spared = c.in_default.ensures.err;
    }
