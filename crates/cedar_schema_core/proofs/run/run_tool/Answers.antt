use Rattle.std.proofs.Common.{true}
use Rattle.cedar_schema_core.proofs.Headline.{recovers}
use Rattle.cedar_schema_core.proofs.Kept.{kept}
use Rattle.cedar_schema_core.proofs.OnePlan.{one_command}
use Rattle.cedar_schema_core.proofs.Ran.{completed}
use Rattle.cedar_schema_core.proofs.run.run_tool.Goals as goal

pub returns-clause-completed : goal.returns-clause-completed
returns-clause-completed g c = λ d. completed _ _ _ _ c.run_program.result c.run_program.ensures.run d

pub returns-clause-recovers : goal.returns-clause-recovers
returns-clause-recovers g c = λ d.
    kept c.canonical_texts_mean_the_same.ensures c.texts_of_json_mean_the_same.ensures _ _ _ _
    (completed _ _ _ _ c.run_program.result c.run_program.ensures.run d)

pub returns-clause-headline : goal.returns-clause-headline
returns-clause-headline g c = λ table bytes taken asks left tells none.
    recovers _ table (one_command _) asks (c.one_plan.ensures _)
    (λ text m h. c.canonical_texts_mean_the_same.ensures true text table m h)
    (λ text other m n h k. (c.canonical_texts_tell_meanings_apart.ensures text other table m n h k).0)
    _ _ _ bytes taken left tells c.run_program.result c.run_program.ensures.run none
