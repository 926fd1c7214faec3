use Rattle.std.proofs.Common.{sym, ap, ◌∙◌, arith}
use Rattle.cedar_names.specs.Orders.{names_in_order}
use Rattle.schema_inclusion_check.proofs.Typed.{types_until}
use Rattle.schema_inclusion_check.proofs.ids_between.first_of_type.Goals as goal

pub loop-low-preserved-in-Less : goal.loop-low-preserved-in-Less
loop-low-preserved-in-Less c = record {
  ordered = omega arith;
  within = omega arith;
  below = types_until c.args.actions.now _ c.index-actions-middle.result c.args.ty.now c.requires (omega arith)
      c.index-actions-middle.is
      (ap (λ u. names_in_order u.ty.name c.args.ty.now.name) (sym (ap (λ e. e.0) c.action.view_is))
      ∙ (sym c.cmp.ensures ∙ c.in-Less.is));
}
