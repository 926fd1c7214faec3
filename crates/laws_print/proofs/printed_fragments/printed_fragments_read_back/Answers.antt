use Rattle.std.specs.List.{flat_map}
use Rattle.schema_syntax_tokens.specs.Laid.{laid}
use Rattle.schema_convert_plain.specs.Translation.{translated}
use Rattle.laws_written.specs.PrintedDecls.{group_items, schema_pieces}
use Rattle.laws_print.specs.Printed.CedarForm.{cedar_form}
use Rattle.laws_print.proofs.printed_fragments.printed_fragments_read_back.Goals as goal

pub returns : goal.returns
returns c = record {
  translated = λ closing f groups z textual.
      let proper = c.textual_fragments_may_be_printed.ensures f groups z textual in
      c.texts_that_read_back_are_translated.ensures (laid (schema_pieces closing groups)) (flat_map group_items groups)
      (c.laid_schemas_read_back.ensures closing groups proper) (c.proper_groups_are_named.ensures groups proper)
      (c.textual_fragments_can_be_translated.ensures f groups z textual);
  same = λ closing f groups z textual t.
      c.fragments_that_say_the_same.ensures (translated t.reads.tree) (cedar_form f)
      (flat_map group_items groups) t.says (c.fragments_are_printed_in_cedar_form.ensures f groups z textual);
}
