use Rattle.std.proofs.Common.{◌<◌, length, arith, rules}
use Rattle.schema_json_shapes.proofs.NamespaceOrder.{key_says}
use Rattle.schema_json_shapes.proofs.fragments.read_key.Goals as goal

pub returns : goal.returns
returns c =
    let h : 0 < length c.args.key.now = omega arith in
    key_says c.args.key.now c.in_ok-read_namespace_name.field-0 h c.in_ok-read_namespace_name.ensures.0
    c.in_ok-read_namespace_name.ensures.1

pub returns-in_err-read_namespace_name : goal.returns-in_err-read_namespace_name
returns-in_err-read_namespace_name c = search rules

pub returns-then-key-eq0 : goal.returns-then-key-eq0
returns-then-key-eq0 c = search rules
