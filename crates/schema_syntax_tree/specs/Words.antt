-- The words of what an action may be applied to.
use Rattle.std.specs.Prelude.{ℕ, List, codes}
use Rattle.schema_syntax_tree.specs.declared.pr.PR.{PR}
use Rattle.schema_syntax_tree.specs.declared.pr.PR.TheVariants.{Principal, Resource}

-- the word of a schema text for principals, or for resources
abbrev pub pr_text : PR → List ℕ
pr_text Principal = codes "principal"
pr_text Resource = codes "resource"
