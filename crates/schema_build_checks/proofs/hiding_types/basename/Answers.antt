use Rattle.std.proofs.Common.{◌∷◌, ◌++◌, [], ap, sym, ◌∙◌}
use Rattle.cedar_names.specs.Orders.{ids_of}
use Rattle.schema_build_checks.proofs.hiding_types.basename.Goals as goal

pub returns-in_ok-clone_in-in-Some : goal.returns-in_ok-clone_in-in-Some
returns-in_ok-clone_in-in-Some c =
    let first = c.args.name.now.first in
    let rest = c.in-Some.field-0-1.now in
    let copied = c.in_ok-clone_in-in-Some.ensures in
    record {
      namespace = first ∷ rest;
      last =
          ap (λ l. first ∷ l) (sym c.as_slice.ensures ∙ c.in-Some.ensures.cases.0)
          ∙ ap (λ i. first ∷ (rest ++ i ∷ [])) (sym copied)
          ∙ ap (λ w. first ∷ (rest ++ ids_of w)) (sym c.alone.ensures);
      alone = ap (λ w. w.others) c.alone.ensures;
      placeless = ap (λ w. w.loc) c.alone.ensures;
    }
