use Rattle.std.proofs.Common.{ap, true, codes, string_bytes}
use Rattle.serde_json.specs.Data.{boolean}
use Rattle.schema_json_text.specs.Members.{flag_value}
use Rattle.schema_json_text.proofs.Slots.{adds_none, adds_whole}
use Rattle.schema_json_text.proofs.Presence.{external_whole}
use Rattle.schema_json_text.proofs.entity_types.push_external.Goals as goal

pub returns-then-external : goal.returns-then-external
returns-then-external c =
    adds_whole c.args.later (codes "external") (flag_value c.args.external true) (boolean true)
    (string_bytes c.args.out.now) (string_bytes c.push_later.new.out) _ (ap (λ b. flag_value b true) c.if-external.true)
    c.in_ok-push_later.ensures external_whole

pub returns : goal.returns
returns c =
    adds_none c.args.later (codes "external") (flag_value c.args.external true) (string_bytes c.args.out.now)
    (ap (λ b. flag_value b true) c.if-external.false)
