use Rattle.std.proofs.Common.{Some, refl, sym, ap, ◌∙◌, length, subst}
use Rattle.std.proofs.lemmas.Option.{slice_get_read}
use Rattle.std.proofs.lemmas.Result.{IfOk-weaker}
use Rattle.cedar_identifiers.specs.declared.internal_name.InternalName.{InternalName}
use Rattle.schema_build_scope.specs.LentCommons.{NamesCycleAt}
use Rattle.schema_build_scope.specs.declared.lent_commons.LentType.{LentType}
use Rattle.schema_build_scope.proofs.expansions.common_cycle.Goals as goal

pub returns : goal.returns
returns c =
    let e = c.index-entries-rank.result in
    let Names = NamesCycleAt c.args.entries.now c.args.rank in
    IfOk-weaker c.new.result _ Names
    (λ told same. subst Names (sym same) (
      e.1,
      slice_get_read c.args.entries.now (length c.args.entries.now) c.args.rank e refl c.requires
          c.index-entries-rank.is
          ∙ ap (λ (n : InternalName). let x : InternalName × LentType = (n, e.1) in Some x)
          (ap (λ (x : InternalName × LentType). x.0) c.index-entries-rank.is ∙ sym c.in_ok-ty.ensures),
    )) c.new.ensures
