use Rattle.std.proofs.lemmas.Grind.{common_steps}
use Rattle.std.proofs.Common.{sym, ◌∙◌, arith}
use Rattle.cedar_names.specs.Orders.{id_text_order}
use Rattle.cedar_names.proofs.Ahead.{longer}
use Rattle.cedar_names.proofs.sought.compare_last.Goals as goal

pub returns-in-Equal : goal.returns-in-Equal
returns-in-Equal c = longer id_text_order c.args.words.now c.args.last.now c.own-item-2.result
    c.in-len1-up.len_at_least c.own-item-2.is (sym c.cmp-in-len1-up.ensures ∙ c.in-Equal.is)

pub returns-in-Greater : goal.returns-in-Greater
returns-in-Greater c = grind (arith, common_steps)

pub returns-in-Less : goal.returns-in-Less
returns-in-Less c = grind (arith, common_steps)

pub returns-in-empty : goal.returns-in-empty
returns-in-empty c = grind (arith, common_steps)

pub returns-in-len1 : goal.returns-in-len1
returns-in-len1 c = grind (arith, common_steps)
