use Rattle.std.proofs.lemmas.Grind.{common_steps}
use Rattle.std.proofs.Common.{◌∙◌, sym, ap, map, arith}
use Rattle.cedar_identifiers.specs.Names.{components_of}
use Rattle.cedar_names.specs.Definitions.{among}
use Rattle.cedar_names.proofs.Defined.{name_there}
use Rattle.cedar_names.proofs.all_defs.add_type.Goals as goal

pub returns-then-ends_with : goal.returns-then-ends_with
returns-then-ends_with c =
    let ty = components_of c.args.ty.now in
    name_there (map components_of c.args.types.now.items) ty
    (ap (λ l. among (map components_of l) ty) (sym c.as_slice.ensures.value) ∙ c.ends_with.ensures c.if-ends_with.true)

pub returns : goal.returns
returns c = grind (arith, common_steps)
