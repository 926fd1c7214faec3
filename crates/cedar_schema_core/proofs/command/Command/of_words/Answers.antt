use Rattle.std.proofs.lemmas.Grind.{common_steps}
use Rattle.std.proofs.Common.{[], ◌∷◌, ap, ◌∙◌, arith}
use Rattle.std.specs.Prelude.{map}
use Rattle.std.proofs.lemmas.Result.{IfOk-weaker}
use Rattle.std.specs.String.{string_bytes}
use Rattle.cedar_schema_core.specs.Commands.{recover, check, to_json, from_json, from_deprecated}
use Rattle.cedar_schema_core.proofs.Words.{split_words, alone, named_command, sized_command}
use Rattle.cedar_schema_core.proofs.command.Command.of_words.Goals as goal

pub returns-then-is_empty : goal.returns-then-is_empty
returns-then-is_empty c =
    let words = alone c.args.words.now c.in-Some.names.now c.in-Some.first.now c.as_str.result.now c.is_empty.result
    c.in-Some.ensures.cases c.as_str.ensures.value c.is_empty.ensures c.if-is_empty.true in
    recover c.in_ok-all_available-in-recover.field-0 (words ∙ ap (λ w. w ∷ []) c.in-recover.is)
    c.in_ok-all_available-in-recover.ensures

pub returns-then-is_empty-2 : goal.returns-then-is_empty-2
returns-then-is_empty-2 c =
    let words = alone c.args.words.now c.in-Some.names.now c.in-Some.first.now c.as_str.result.now
    c.is_empty-in-check.result c.in-Some.ensures.cases c.as_str.ensures.value c.is_empty-in-check.ensures
    c.if-is_empty-2.true in
    check c.in_ok-all_available-in-check.field-0 (words ∙ ap (λ w. w ∷ []) c.in-check.is)
    c.in_ok-all_available-in-check.ensures

pub returns-then-is_empty-3 : goal.returns-then-is_empty-3
returns-then-is_empty-3 c =
    let words = alone c.args.words.now c.in-Some.names.now c.in-Some.first.now c.as_str.result.now
    c.is_empty-in-text.result c.in-Some.ensures.cases c.as_str.ensures.value c.is_empty-in-text.ensures
    c.if-is_empty-3.true in
    to_json c.in_ok-all_available-in-text.field-0 (words ∙ ap (λ w. w ∷ []) c.in-text.is)
    c.in_ok-all_available-in-text.ensures

pub returns-then-is_empty-4 : goal.returns-then-is_empty-4
returns-then-is_empty-4 c =
    let words = alone c.args.words.now c.in-Some.names.now c.in-Some.first.now c.as_str.result.now
    c.is_empty-in-text-2.result c.in-Some.ensures.cases c.as_str.ensures.value c.is_empty-in-text-2.ensures
    c.if-is_empty-4.true in
    from_json c.in_ok-table-in-text-2.table (words ∙ ap (λ w. w ∷ []) c.in-text-2.is)
    c.in_ok-table-in-text-2.ensures

pub returns-then-is_empty-5 : goal.returns-then-is_empty-5
returns-then-is_empty-5 c =
    let words = alone c.args.words.now c.in-Some.names.now c.in-Some.first.now c.as_str.result.now
    c.is_empty-in-text-3.result c.in-Some.ensures.cases c.as_str.ensures.value c.is_empty-in-text-3.ensures
    c.if-is_empty-5.true in
    from_deprecated c.in_ok-table-in-text-3.table (words ∙ ap (λ w. w ∷ []) c.in-text-3.is)
    c.in_ok-table-in-text-3.ensures

pub returns-in-text-4 : goal.returns-in-text-4
returns-in-text-4 c =
    IfOk-weaker c.recover_with.result _ _ (λ found h.
    named_command (map string_bytes c.args.words.now) (map string_bytes c.in-Some.names.now) found
    (split_words c.args.words.now c.in-Some.names.now c.in-Some.first.now c.as_str.result.now c.in-Some.ensures.cases
    c.as_str.ensures.value ∙ ap (λ w. w ∷ map string_bytes c.in-Some.names.now) c.in-text-4.is) h)
    c.recover_with.ensures

pub returns-in-generate : goal.returns-in-generate
returns-in-generate c =
    IfOk-weaker c.generate.result _ _ (λ found h.
    sized_command (map string_bytes c.args.words.now) (map string_bytes c.in-Some.names.now) found
    (split_words c.args.words.now c.in-Some.names.now c.in-Some.first.now c.as_str.result.now c.in-Some.ensures.cases
    c.as_str.ensures.value ∙ ap (λ w. w ∷ map string_bytes c.in-Some.names.now) c.in-generate.is) h)
    c.generate.ensures

pub returns-else-is_empty : goal.returns-else-is_empty
returns-else-is_empty c = grind (arith, common_steps)

pub returns-else-is_empty-2 : goal.returns-else-is_empty-2
returns-else-is_empty-2 c = grind (arith, common_steps)

pub returns-else-is_empty-3 : goal.returns-else-is_empty-3
returns-else-is_empty-3 c = grind (arith, common_steps)

pub returns-else-is_empty-4 : goal.returns-else-is_empty-4
returns-else-is_empty-4 c = grind (arith, common_steps)

pub returns-else-is_empty-5 : goal.returns-else-is_empty-5
returns-else-is_empty-5 c = grind (arith, common_steps)

pub returns-in_default : goal.returns-in_default
returns-in_default c = grind (arith, common_steps)
