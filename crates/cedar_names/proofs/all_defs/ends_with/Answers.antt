use Rattle.std.proofs.Common.{◌∙◌, sym, arith}
use Rattle.cedar_names.proofs.Defined.{name_at}
use Rattle.cedar_names.proofs.all_defs.ends_with.Goals as goal

pub returns-in-Equal : goal.returns-in-Equal
returns-in-Equal c = λ yes. name_at c.args.types.now _ c.last-item.result c.args.ty.now (omega arith) c.last-item.is
    (sym c.cmp.ensures ∙ c.in-Equal.is)
