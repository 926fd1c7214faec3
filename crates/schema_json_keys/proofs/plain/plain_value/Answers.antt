use Rattle.std.proofs.Common.{◌≡◌, [], rules}
use Rattle.serde_json.specs.View.{view}
use Rattle.schema_json_keys.proofs.Plainly.{whole_text}
use Rattle.schema_json_keys.proofs.plain.plain_value.Goals as goal

pub returns-in-Ok : goal.returns-in-Ok
returns-in-Ok c =
    let none : c.read_value.new.reader ≡ [] = search rules in
    whole_text c.args.text.now (view c.in-Ok.value) (rw (c.in_ok-reader.ensures.ok, none) at c.in-Ok.ensures.plain)
