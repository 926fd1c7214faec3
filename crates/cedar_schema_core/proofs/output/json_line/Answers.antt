use Rattle.cedar_schema_core.proofs.Answered.{json_written}
use Rattle.cedar_schema_core.proofs.output.json_line.Goals as goal

pub returns-in-Ok : goal.returns-in-Ok
returns-in-Ok c =
    json_written c.args.text.now c.args.table.now c.in_ok-json.json c.push_str.new.self c.new.result.items
    c.in_ok-json.ensures.written c.in-Ok.ensures.ok c.new.ensures.items
