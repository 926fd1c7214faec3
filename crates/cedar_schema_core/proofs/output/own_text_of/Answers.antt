use Rattle.std.proofs.Common.{Some, sym, ap, ◌∙◌}
use Rattle.std.specs.Str.{encode_utf8_all}
use Rattle.std.proofs.lemmas.Str.{encodes-IsAscii}
use Rattle.schema_generate.specs.Generated.{generated}
use Rattle.cedar_schema_core.specs.Commands.{own_text}
use Rattle.cedar_schema_core.proofs.output.own_text_of.Goals as goal

pub returns-in_ok-generate_text-in-Generate : goal.returns-in_ok-generate_text-in-Generate
returns-in_ok-generate_text-in-Generate c =
    let made = c.in_ok-generate_text-in-Generate.ensures in
    ap Some (ap encode_utf8_all made.text ∙ encodes-IsAscii (generated c.in-Generate.size) made.ascii)
    ∙ ap own_text (sym c.in-Generate.is)
