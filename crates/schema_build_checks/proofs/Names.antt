-- The order of names, by their components.
use Rattle.std.specs.declared.cmp.Ordering.TheVariants.{Equal}
use Rattle.std.specs.Cmp.Lexicographic.{slice_cmp}
use Rattle.std.proofs.Common.{◌≡◌, refl, sym, ap, ◌∙◌}
use Rattle.std.proofs.lemmas.Cmp.{tied_itself}
use Rattle.cedar_data.specs.Text.{text_cmp}
use Rattle.cedar_data.proofs.Orders.{texts_total, texts_exact}
use Rattle.cedar_identifiers.specs.Names.{components_of}
use Rattle.cedar_identifiers.specs.declared.internal_name.InternalName.{InternalName}
use Rattle.cedar_identifiers.proofs.Ordered.{ids_cmp}
use Rattle.cedar_names.specs.Orders.{id_text_order, ids_of, names_in_order}

pub names_by_components : (x y : InternalName)
    → names_in_order x y ≡ slice_cmp text_cmp (components_of x) (components_of y)
names_by_components x y = ids_cmp id_text_order (λ i j. refl) (ids_of x) (ids_of y)

-- names that the order does not tell apart have the same components, and the other way round
pub names_exact : (x y : InternalName) → names_in_order x y ≡ Equal → components_of x ≡ components_of y
names_exact x y e = texts_exact (components_of x) (components_of y) (sym (names_by_components x y) ∙ e)

pub names_tied : (x y : InternalName) → components_of x ≡ components_of y → names_in_order x y ≡ Equal
names_tied x y e = names_by_components x y
    ∙ (ap (slice_cmp text_cmp (components_of x)) (sym e) ∙ tied_itself texts_total (components_of x))
