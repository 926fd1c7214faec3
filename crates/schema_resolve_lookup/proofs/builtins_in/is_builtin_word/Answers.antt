use Rattle.schema_resolve_lookup.proofs.Builtin.{is_builtin_word}
use Rattle.schema_resolve_lookup.proofs.Looked.{or_passed, or_next}
use Rattle.schema_resolve_lookup.proofs.builtins_in.is_builtin_word.Goals as goal

pub returns-then-is_primitive_word : goal.returns-then-is_primitive_word
returns-then-is_primitive_word c =
    or_passed _ _ _ _ c.if-is_primitive_word.true c.is_primitive_word.ensures
    (is_builtin_word c.args.table.now c.args.word.now)

pub returns-else-is_primitive_word : goal.returns-else-is_primitive_word
returns-else-is_primitive_word c =
    or_next _ _ _ _ _ c.if-is_primitive_word.false c.is_primitive_word.ensures c.has.ensures
    (is_builtin_word c.args.table.now c.args.word.now)
