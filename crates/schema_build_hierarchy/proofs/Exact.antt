-- Names and actions that their orders do not tell apart.
use Rattle.std.proofs.Common.{◌≡◌, ℕ, List, sym, ap, ◌∙◌}
use Rattle.std.specs.declared.cmp.Ordering.TheVariants.{Equal}
use Rattle.std.specs.Ordering.{ordering_then}
use Rattle.std.specs.Cmp.{IsTotalOrder}
use Rattle.std.proofs.lemmas.Cmp.{tied_itself, on_total}
use Rattle.cedar_data.specs.Text.{text_cmp}
use Rattle.cedar_data.proofs.Orders.{then_equal, text_total, text_exact}
use Rattle.cedar_identifiers.specs.declared.id.Id.{Id}
use Rattle.cedar_names.specs.Orders.{ids_of, names_in_order, keys_total}
use Rattle.schema_build_checks.specs.DeclaredAt.{ActionAt, actions_at_in_order}
use Rattle.schema_build_checks.proofs.Names.{names_exact, names_tied}
use Rattle.schema_build_hierarchy.specs.Declarations.{named_action}

pub actions_exact : (x y : ActionAt) → actions_at_in_order x y ≡ Equal → named_action x ≡ named_action y
actions_exact x y e =
    let both = then_equal (names_in_order x.ty y.ty) (text_cmp x.id y.id) e in
    (λ i. (names_exact x.ty y.ty both.0 i, text_exact x.id y.id both.1 i))

pub actions_tied : (x y : ActionAt) → named_action x ≡ named_action y → actions_at_in_order x y ≡ Equal
actions_tied x y e =
    ap (λ z. ordering_then z (text_cmp x.id y.id)) (names_tied x.ty y.ty (ap (λ p. p.0) e))
    ∙ ap (text_cmp x.id) (sym (ap (λ p. p.1) e)) ∙ tied_itself text_total x.id

pub actions_total : IsTotalOrder actions_at_in_order
actions_total = on_total (λ (a : ActionAt). let k : List Id × List ℕ = (ids_of a.ty, a.id) in k) keys_total
