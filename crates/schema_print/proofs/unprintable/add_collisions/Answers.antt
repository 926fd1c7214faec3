use Rattle.std.proofs.Common.{map, ap, sym, ◌∙◌, ◌++◌}
use Rattle.std.proofs.lemmas.List.{append-nil}
use Rattle.std.proofs.lemmas.Result.{on_ok_weaker}
use Rattle.cedar_identifiers.specs.Names.{components_of}
use Rattle.schema_print.specs.Collisions.{repeated_in, collisions_in}
use Rattle.schema_print.proofs.unprintable.add_collisions.Goals as goal

pub returns-in-None : goal.returns-in-None
returns-in-None g c =
    let old = map components_of c.args.names.now.items in
    sym (append-nil old) ∙ ap (λ o. old ++ collisions_in o c.args.namespace.now) (sym c.in-None.is)

pub returns-in-Some : goal.returns-in-Some
returns-in-Some g c =
    let old = map components_of c.args.names.now.items in
    let n = c.args.namespace.now in
    on_ok_weaker c.add_repeated.result
    (λ e. e ∙ (ap (λ o. old ++ repeated_in o n) c.in-Some.is ∙ ap (λ o. old ++ collisions_in o n) (sym c.in-Some.is)))
    c.add_repeated.ensures
