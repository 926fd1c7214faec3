use Rattle.std.proofs.Common.{sym, ◌∙◌, map, ap, subst}
use Rattle.std.specs.Cmp.Lexicographic.{slice_cmp}
use Rattle.cedar_identifiers.specs.Names.{components_of}
use Rattle.cedar_names.specs.Definitions.{among}
use Rattle.cedar_names.specs.Orders.{ids_of, names_total, id_text_order}
use Rattle.cedar_names.specs.Searches.{StandsWithin}
use Rattle.cedar_names.proofs.Halved.{hit}
use Rattle.cedar_names.proofs.Risen.{stays_sorted}
use Rattle.cedar_names.proofs.Defined.{name_sought, name_there, name_put_in}
use Rattle.cedar_names.proofs.all_defs.add_name.Goals as goal

pub returns-in-Ok-clause-added : goal.returns-in-Ok-clause-added
returns-in-Ok-clause-added c =
    let name = c.args.name in
    let there = sym (name_sought (ids_of name) c.as_slice.result.now)
    ∙ hit (λ x. slice_cmp id_text_order (ids_of x) (ids_of name)) c.as_slice.result.now _ c.in-Ok.ensures.found in
    name_there _ _ (ap (λ l. among (map components_of l) (components_of name)) (sym c.as_slice.ensures.value) ∙ there)

pub returns-in_ok-insert-in-Err-clause-sorted : goal.returns-in_ok-insert-in-Err-clause-sorted
returns-in_ok-insert-in-Err-clause-sorted c =
    let within = subst (λ l. StandsWithin (λ x. slice_cmp id_text_order (ids_of x) (ids_of c.args.name)) l c.in-Err.at
    c.in-Err.at) c.as_slice.ensures.value c.in-Err.ensures.absent in
    rw c.in_ok-insert-in-Err.ensures.items
    (stays_sorted names_total c.args.name c.args.names.now.items c.in-Err.at c.requires within.in_range within.below
    within.above)

pub returns-in_ok-insert-in-Err-clause-added : goal.returns-in_ok-insert-in-Err-clause-added
returns-in_ok-insert-in-Err-clause-added c = λ n.
    ap (λ l. among (map components_of l) n) c.in_ok-insert-in-Err.ensures.items
    ∙ name_put_in c.args.names.now.items c.in-Err.at c.args.name n
