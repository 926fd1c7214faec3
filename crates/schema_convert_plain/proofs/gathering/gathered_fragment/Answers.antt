use Rattle.std.proofs.Common.{◌≤◌, length, arith}
use Rattle.schema_convert_plain.specs.Gathered.{AddsOwn}
use Rattle.schema_convert_plain.proofs.ItemByItem.{whole}
use Rattle.schema_convert_plain.proofs.gathering.gathered_fragment.Goals as goal

pub returns : goal.returns
returns c table tree so_far rising =
    let many : length c.in-Some.entries.items ≤ length c.in_ok-fragment.fragment.0 =
    omega (arith, c.as_slice.ensures.len, c.len-count.ensures, c.if-as_slice-count.false) in
    let adds : AddsOwn c.args.gathered.has_outside c.args.gathered.outside c.args.gathered.namespaces.items
    c.in-Some.entries.items = rw c.in-Some.is at c.in_ok-entries.ensures in
    whole table tree rising c.args.gathered c.in-Some.entries.items c.in_ok-fragment.fragment so_far
    adds c.in_ok-fragment.ensures many
