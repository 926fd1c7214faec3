use Rattle.std.proofs.Common.{◌∙◌, rules}
use Rattle.std.proofs.lemmas.Result.{IfOk-weaker}
use Rattle.schema_build_scope.specs.FragmentScope.{table_scope}
use Rattle.schema_build_scope.proofs.BuiltinParts.{last_decides}
use Rattle.schema_build_scope.proofs.builtins.builtin_type.Goals as goal

pub returns-in-len1-up : goal.returns-in-len1-up
returns-in-len1-up c =
    let same =
    last_decides (table_scope c.args.table.now) c.args.name.now c.as_slice.result.now c.word-item.result
    c.as_slice.ensures
    c.in-len1-up.len_at_least c.word-item.is c.requires in
    IfOk-weaker c.word_type-in-len1-up.result _ _ (λ ty h. (h.0, same ∙ h.1, h.2)) c.word_type-in-len1-up.ensures

pub bounds-word-0 : goal.bounds-word-0
bounds-word-0 c = search rules

pub returns-in-empty : goal.returns-in-empty
returns-in-empty c = search rules
