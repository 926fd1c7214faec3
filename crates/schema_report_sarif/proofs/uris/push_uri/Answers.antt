use Rattle.std.proofs.Common.{ap, ◌∙◌, ◌++◌, string_bytes}
use Rattle.std.proofs.lemmas.Result.{on_ok_weaker}
use Rattle.json.specs.Print.{quoted}
use Rattle.percent_encoding.specs.Iter.{encoded_text}
use Rattle.schema_report_sarif.proofs.UriLemmas.{uri_encoded}
use Rattle.schema_report_sarif.proofs.uris.push_uri.Goals as goal

pub returns : goal.returns
returns c = on_ok_weaker c.push_quoted.result
    (λ e. e ∙ ap (λ uri. string_bytes c.args.out.now ++ quoted uri)
    (c.as_str.ensures.value ∙ c.in_ok-append_to.ensures.ok ∙ ap (λ front. front ++ encoded_text
    c.utf8_percent_encode.result) c.new-uri.ensures.bytes
    ∙ c.utf8_percent_encode.ensures.text ∙ uri_encoded _ _ c.path_escapes.ensures))
    c.push_quoted.ensures
