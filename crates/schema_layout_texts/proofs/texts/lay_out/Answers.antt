use Rattle.std.proofs.Common.{sym, ap, ◌∙◌, subst}
use Rattle.std.specs.Str.{encode_utf8_all}
use Rattle.std.proofs.lemmas.Str.{encodes-chars, IsUtf8-string_bytes}
use Rattle.schema_syntax.specs.ParseAnswers.{AreTokensOf}
use Rattle.schema_syntax_reader.specs.LawfulTrees.{IsStopOf}
use Rattle.schema_layout_pieces.specs.Writing.{IsWritten}
use Rattle.schema_layout_texts.proofs.Refusals.{layout_refusal}
use Rattle.schema_layout_texts.proofs.texts.lay_out.Goals as goal

pub returns-in-Err-clause-refused : goal.returns-in-Err-clause-refused
returns-in-Err-clause-refused c =
    layout_refusal c.args.text.now c.refused.result c.layout_error_of.result c.layout_error_of.ensures
    (c.refused.ensures c.args.text.now c.in-Err.ensures.fault)

pub returns-in-Err-check_items-clause-refused : goal.returns-in-Err-check_items-clause-refused
returns-in-Err-check_items-clause-refused c =
    let are : AreTokensOf c.args.text.now c.in-Ok.tokens.items = record
    { scans = c.in-Ok.ensures.scans; sentence = c.in-Ok.ensures.sentence } in
    layout_refusal c.args.text.now c.stopped.result c.layout_error_of-in-Err-check_items.result
    c.layout_error_of-in-Err-check_items.ensures
    (c.stopped.ensures c.args.text.now c.in-Ok.tokens.items are
    (subst (λ ts. IsStopOf c.args.text.now ts c.in-Err-check_items.why) c.deref.ensures.value
    c.in-Err-check_items.ensures.fault))

pub returns-clause-written : goal.returns-clause-written
returns-clause-written c =
    subst (λ t. IsWritten c.args.keeps c.args.text.now t)
    (sym (ap encode_utf8_all c.from_string.ensures ∙ encodes-chars _ (IsUtf8-string_bytes c.in_ok-out.out)))
    c.in_ok-out.ensures
