use Rattle.std.proofs.Common.{◌≡◌, ◌++◌, ap, ◌∙◌, refl, codes, append_assoc}
use Rattle.std.specs.Str.{chars}
use Rattle.std.proofs.lemmas.Str.{chars-encodes}
use Rattle.schema_syntax_tokens.specs.Quotes.{quoted}
use Rattle.cedar_data.proofs.Ascii.{chars-from_test}
use Rattle.schema_json.proofs.action_type.ActionEntityUID.text.Goals as goal

pub returns : goal.returns
returns g c =
    let id = c.args.self.now.id in
    let spelled : chars c.as_str.result.now ≡ id = ap chars c.as_str.ensures.bytes
    ∙ chars-encodes id c.as_str.ensures.characters in
    let before : c.push_str.new.self ≡ c.in_ok-text.text ++ codes "::" = c.in_ok-push_str.ensures.ok
    ∙ ap (λ s. c.in_ok-text.text ++ s) (chars-from_test (codes "::") refl) in
    c.in_ok-push_quoted.ensures.ok ∙ (λ i. before i ++ chars (quoted (spelled i)))
    ∙ append_assoc c.in_ok-text.text (codes "::") (chars (quoted id))
    ∙ ap (λ t. t ++ (codes "::" ++ chars (quoted id))) c.in_ok-text.ensures
