use Rattle.std.proofs.Common.{◌≡◌, true, false, codes, refl, sym, ap, ◌∙◌}
use Rattle.cedar_identifiers.specs.Words.{is_cedar}
use Rattle.cedar_identifiers.specs.declared.id.Id.{Id}
use Rattle.cedar_names.specs.Meaning as plain
use Rattle.schema_build_scope.specs.FragmentScope.{table_scope}
use Rattle.schema_build_scope.proofs.BuiltinParts.{word_in_table, word_is_extension, table_word_free, not_text}
use Rattle.schema_build_scope.proofs.builtins.word_type.Goals as goal

pub unreachable-requires : goal.unreachable-requires
unreachable-requires c =
    let w = c.args.word.now.text in
    let v = c.as_str-text.result.now in
    let is = c.as_str-text.ensures in
    let there =
    word_in_table (table_scope c.args._table.now) w
    (not_text v w (codes "Bool") c.same_bytes.result is c.same_bytes.ensures c.if-same_bytes.false)
    (not_text v w (codes "Long") c.same_bytes-2.result is c.same_bytes-2.ensures c.if-same_bytes-2.false)
    (not_text v w (codes "String") c.same_bytes-3.result is c.same_bytes-3.ensures c.if-same_bytes-3.false)
    c.requires in
    let free : is_cedar w ≡ false = table_word_free c.args._table.now.names w there in
    let same : is_cedar w ≡ true = ap (λ (i : Id). is_cedar i.text) (sym c.in_ok-clone_in.ensures)
    ∙ c.in-None.ensures in
    let h : true ≡ false = sym same ∙ free in cc

pub returns : goal.returns
returns c =
    let w = c.args.word.now.text in
    let v = c.as_str-text.result.now in
    let is = c.as_str-text.ensures in (
      plain.Ext w,
      word_is_extension (table_scope c.args._table.now) w
          (not_text v w (codes "Bool") c.same_bytes.result is c.same_bytes.ensures c.if-same_bytes.false)
          (not_text v w (codes "Long") c.same_bytes-2.result is c.same_bytes-2.ensures c.if-same_bytes-2.false)
          (not_text v w (codes "String") c.same_bytes-3.result is c.same_bytes-3.ensures c.if-same_bytes-3.false)
          c.requires,
      (c.in-Some.name, refl, ap (λ (i : Id). i.text) (c.in-Some.ensures ∙ c.in_ok-clone_in.ensures)),
    )
