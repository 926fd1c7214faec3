use Rattle.std.proofs.Common.{Some, ◌++◌, ◌∙◌, ap, codes}
use Rattle.schema_build.proofs.text_errors.with_json_help.Goals as goal

pub returns-in_ok-push_text-in-Some-2 : goal.returns-in_ok-push_text-in-Some-2
returns-in_ok-push_text-in-Some-2 c =
    let help = c.in-Some.text in
    let start = ap (λ l. l ++ c.in_ok-json.json) c.in_ok-line-in-Some.ensures in
    let line = c.in_ok-push_text-in-Some.ensures.ok ∙ start ∙ ap (λ j. codes "\n" ++ j) c.in_ok-json.ensures in
    rw c.in-Some.is (ap Some (c.in_ok-push_text-in-Some-2.ensures.ok ∙ ap (λ l. help ++ l) line))
