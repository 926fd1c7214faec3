use Rattle.std.proofs.Common.{◌≡◌, ◌++◌, codes, ap, ◌∙◌, append_assoc, [], lit<}
use Rattle.std.specs.Str.{chars}
use Rattle.std.proofs.lemmas.Str.{chars-encodes, chars-IsAscii}
use Rattle.std.proofs.lemmas.Str.Ascii.{IsAscii-nil, IsAscii-cons}
use Rattle.schema_syntax_tokens.specs.Quotes.{quoted}
use Rattle.cedar_identifiers.specs.Names.{components_of, name_text}
use Rattle.cedar_names.proofs.entity_uid.EntityUID.text.Goals as goal

pub returns : goal.returns
returns c =
    let uid = c.args.self.now in
    let colons : chars (codes "::")
    ≡ codes "::" = chars-IsAscii (codes "::")
    (IsAscii-cons 58 (codes ":") (lit< tt) (IsAscii-cons 58 [] (lit< tt) IsAscii-nil)) in
    let id = chars (quoted (chars c.as_str.result.now)) in
    c.in_ok-push_quoted.ensures.ok
    ∙ ap (λ t. t ++ id) c.in_ok-push_str.ensures.ok
    ∙ ap (λ t. (c.in_ok-text.text ++ t) ++ id) colons
    ∙ append_assoc c.in_ok-text.text (codes "::") id
    ∙ ap (λ t. t ++ (codes "::" ++ id)) c.in_ok-text.ensures.text
    ∙ ap (λ v. name_text (components_of uid.ty.name) ++ (codes "::" ++ chars (quoted v)))
    (ap chars c.as_str.ensures.bytes ∙ chars-encodes uid.eid.0 c.as_str.ensures.characters)
