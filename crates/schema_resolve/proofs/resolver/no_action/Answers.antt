use Rattle.std.proofs.Common.{Some, ap, ◌∙◌}
use Rattle.std.specs.Option.{option_copied}
use Rattle.cedar_identifiers.specs.declared.reference_type.ReferenceType.TheVariants.{Entity}
use Rattle.schema_resolve_targets.specs.Qualified.{in_namespace}
use Rattle.schema_resolve.proofs.resolver.no_action.Goals as goal

pub returns : goal.returns
returns c = (
  c.with_type.result,
  c.new.ensures,
  c.with_type.ensures.id ∙ c.in_ok-id.ensures,
  c.with_type.ensures.ty
      ∙ ap Some (c.in_ok-ty-2.ensures ∙ ap (λ n. in_namespace (option_copied c.args.ns) Entity n) c.in_ok-ty.ensures),
)
