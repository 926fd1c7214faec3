use Rattle.std.proofs.Common.{◌∙◌, ap, sym, string_bytes}
use Rattle.std.specs.Str.{encode_utf8_all}
use Rattle.std.proofs.lemmas.List.{get_or_read}
use Rattle.std.proofs.lemmas.Str.{encodes-chars, IsUtf8-string_bytes}
use Rattle.cedar_runs.specs.declared.status.Status.TheVariants.{WriteFault}
use Rattle.cedar_schema_cli_format.proofs.format.stopped_reply.Goals as goal

pub returns : goal.returns
returns c = λ change here.
    let taken = c.swap_remove-path.result in
    let same = get_or_read c.args.changes.items c.args.at taken c.requires c.swap_remove-path.ensures.value change
    ∙ sym here in
    let told = ap encode_utf8_all c.from_string.ensures
    ∙ (encodes-chars _ (IsUtf8-string_bytes taken.told) ∙ ap (λ one. string_bytes one.told) same) in
    λ i. record { status = WriteFault; out = ap encode_utf8_all c.new.ensures i; err = told i }
