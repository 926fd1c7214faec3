use Rattle.std.proofs.Common.{subst, sym, rules}
use Rattle.schema_syntax_reader.proofs.Readings.{stops}
use Rattle.schema_syntax_reader.specs.Trees.{IsNameOf}
use Rattle.schema_syntax_reader.proofs.NameReads.{read_named, named_word, no_string_ident, word_stops, word_faultless}
use Rattle.schema_syntax_reader.proofs.names.name.Goals as goal

pub returns-then-eq : goal.returns-then-eq
returns-then-eq c =
    read_named c.args.text.now c.args.token.now (search rules) c.string_value.result c.string_value.ensures.value
    c.string_value.ensures.lawful c.string_value.ensures.escape

pub returns-in_err-id : goal.returns-in_err-id
returns-in_err-id c =
    let ident = no_string_ident c.args.text.now c.args.token.now c.requires
    (search rules) in
    stops c.args.text.now _ c.from_residual.result _ c.from_residual.ensures.1 _
    (word_stops c.args.text.now c.args.token.now ident c.in_err-id.field-0.0 c.in_err-id.ensures.reserved)

pub returns : goal.returns
returns c =
    let ident = no_string_ident c.args.text.now c.args.token.now c.requires
    (search rules) in (
      subst (IsNameOf c.args.text.now c.args.token.now.kind c.args.token.now) (sym c.from_id.ensures)
          (named_word c.args.text.now c.args.token.now _ ident c.in_ok-id.ensures.name),
      word_faultless c.args.text.now c.args.token.now ident c.in_ok-id.ensures.free,
    )
