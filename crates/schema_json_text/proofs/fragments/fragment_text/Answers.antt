use Rattle.std.proofs.Common.{◌++◌, ◌∙◌, ap, map, string_bytes}
use Rattle.std.specs.Str.{encode_utf8_all}
use Rattle.std.proofs.lemmas.Str.{encodes-chars, IsUtf8-string_bytes}
use Rattle.serde_json.specs.Written.{compact_text}
use Rattle.schema_json_values.specs.TypeValues.{object_of}
use Rattle.schema_json_values.specs.FragmentValues.{namespace_entry}
use Rattle.schema_json_text.proofs.fragments.fragment_text.Goals as goal

pub returns : goal.returns
returns g c =
    let out = c.push_namespaces.new.out in
    let names = g.N.NameText.components in
    ap encode_utf8_all c.from_string.ensures ∙ encodes-chars (string_bytes out) (IsUtf8-string_bytes out)
    ∙ c.in_ok-push_namespaces.ensures
    ∙ (λ i. c.new-out.ensures.bytes i
    ++ compact_text (object_of (map (namespace_entry names) (c.as_slice.ensures.entries i))))
