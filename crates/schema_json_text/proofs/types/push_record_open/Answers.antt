use Rattle.std.proofs.Common.{◌≡◌, ◌++◌, ◌∷◌, ap, sym, ◌∙◌, true, append_assoc, codes, string_bytes}
use Rattle.std.proofs.lemmas.Result.{on_ok_weaker}
use Rattle.json.specs.Print.{escape_byte}
use Rattle.schema_json_text.specs.Members.{ahead, annotations_value, flag_value}
use Rattle.schema_json_text.proofs.Presence.{bare_key}
use Rattle.schema_json_text.proofs.types.push_record_open.Goals as goal

pub returns : goal.returns
returns c =
    let old = string_bytes c.args.out.now in
    let rest = ahead (codes "annotations") (annotations_value c.args.annotations.now.0)
    ++ bare_key (codes "attributes") in
    on_ok_weaker c.push_open.result
    (λ e. e ∙ ap (λ b. old ++ 123 ∷ (ahead (codes "additionalAttributes") (flag_value b true) ++ rest))
    (sym c.if-is_open.false))
    c.push_open.ensures

pub returns-then-is_open : goal.returns-then-is_open
unfolding escape_byte
returns-then-is_open c =
    let old = string_bytes c.args.out.now in
    let notes = ahead (codes "annotations") (annotations_value c.args.annotations.now.0) in
    let start = 123 ∷ ahead (codes "additionalAttributes") (flag_value true true) in
    let n1 : string_bytes c.push.new.out ≡ old ++ start = c.in_ok-push.ensures in
    on_ok_weaker c.push-then-is_open.result
    (λ e. e ∙ ap (λ t. t ++ bare_key (codes "attributes")) (c.in_ok-push_annotations.ensures ∙ ap (λ t. t ++ notes) n1)
    ∙ append_assoc (old ++ start) notes (bare_key (codes "attributes"))
    ∙ append_assoc old start (notes ++ bare_key (codes "attributes"))
    ∙ ap (λ b. old ++ 123 ∷ (ahead (codes "additionalAttributes") (flag_value b true)
    ++ (notes ++ bare_key (codes "attributes")))) (sym c.if-is_open.true))
    c.push-then-is_open.ensures
