use Rattle.std.proofs.Common.{refl, ap, ◌∙◌, codes, None}
use Rattle.cedar_identifiers.specs.Words.{is_id}
use Rattle.cedar_identifiers.proofs.Same.{id_same}
use Rattle.schema_json.specs.Actions.{action_name}
use Rattle.cedar_data.proofs.Ascii.{chars-from_test}
use Rattle.schema_json.proofs.action_uid.action_name.Goals as goal

pub invariant_of-result : goal.invariant_of-result
invariant_of-result c = record { word = ap is_id (c.in_ok-text.ensures ∙ chars-from_test (codes "Action") refl) }

pub returns : goal.returns
returns c = λ i. record {
  first = id_same (record { text = c.in_ok-text.text; word = c.result-1.given.0 }) action_name.first
      (c.in_ok-text.ensures ∙ chars-from_test (codes "Action") refl) i;
  others = c.new.ensures i;
  loc = None;
}
