use Rattle.std.proofs.Common.{refl, ap, ◌∷◌}
use Rattle.std.proofs.lemmas.Result.{IfOk-weaker}
use Rattle.cedar_identifiers.specs.Names.{texts_of, components_of}
use Rattle.cedar_identifiers.specs.declared.name.Name.{Name}
use Rattle.schema_build_hierarchy.specs.Rows.{IsUnderEnum}
use Rattle.schema_build_hierarchy.proofs.external.external_under.Goals as goal

pub returns : goal.returns
returns c =
    IfOk-weaker c.new.result _ (IsUnderEnum c.args.external.now.name (components_of c.args.above.now.name))
    (λ told same. (
      _,
      same,
      ap (λ (n : Name). n.name) c.in_ok-external_type.ensures,
      (λ i. texts_of (c.in_ok-clone_in.ensures i ∷ c.in_ok-clone_in-2.ensures i)),
      refl,
    )) c.new.ensures
