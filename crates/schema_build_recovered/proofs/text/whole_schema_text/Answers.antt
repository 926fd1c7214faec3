use Rattle.std.proofs.Common.{ap, sym, subst, ◌∙◌}
use Rattle.schema_build_types.specs.Lacks.{schema_lacks}
use Rattle.schema_build_text.specs.Captured.{IsTextRefusal}
use Rattle.schema_build_recovered.proofs.NoLack.{built_whole}
use Rattle.schema_build_recovered.proofs.text.whole_schema_text.Goals as goal

pub returns-in-Err-clause-refusal : goal.returns-in-Err-clause-refusal
returns-in-Err-clause-refusal c m stands =
    subst (IsTextRefusal m) (sym (c.in-Err.ensures.memory (ap schema_lacks stands ∙ built_whole m))) tt
