use Rattle.std.proofs.Common.{ap, true, ◌++◌, ◌∙◌}
use Rattle.std.specs.Str.{encode_utf8_all}
use Rattle.schema_syntax_tokens.specs.Laid.{laid}
use Rattle.laws_written.specs.Written.{rec}
use Rattle.laws_written.specs.Printed.{type_pieces}
use Rattle.schema_json.specs.Shapes.{attributes_of}
use Rattle.schema_print_text.specs.Growing.{so}
use Rattle.schema_print_text.specs.PrintedTypes.{printed_entries}
use Rattle.schema_print.proofs.cedar_text.RecordTypeCedarText.indented_text.Goals as goal

pub returns : goal.returns
returns g c = record {
  text =
      (so c.in_ok-push_record.ensures
      (ap (λ es. laid (type_pieces true c.args.base (rec (printed_entries g.N.NameText.components es))))
      c.as_slice.ensures.entries)).grown
      ∙ ap (λ t. encode_utf8_all t ++ laid
      (type_pieces true c.args.base (rec (printed_entries g.N.NameText.components (attributes_of c.args.self.now)))))
      c.new-text.ensures;
}
