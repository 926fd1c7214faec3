use Rattle.schema_build_text.proofs.Bytes.{pushed}
use Rattle.schema_build_text.proofs.pushing.push.Goals as goal

pub returns : goal.returns
returns c = pushed c.push_str.result c.args.text.now c.push_str.new.self c.args.more.now c.push_str.ensures.bytes
