-- The derived order of namespaces goes by the components of their names.
use Rattle.std.proofs.Common.{◌≡◌, List, Option, Some, None, refl, sym, ap, ◌∙◌}
use Rattle.std.specs.Cmp.Lexicographic.{slice_cmp}
use Rattle.std.specs.Cmp.Derive.Mapped.{lex_map}
use Rattle.std.specs.Option.{option_cmp}
use Rattle.std.specs.Ordering.{ordering_then}
use Rattle.std.specs.declared.cmp.Ordering.{Ordering}
use Rattle.cedar_data.specs.Maps.{map_of}
use Rattle.cedar_data.specs.Text.{text_cmp}
use Rattle.cedar_identifiers.specs.Names.{components_of}
use Rattle.cedar_identifiers.specs.declared.id.Id.{Id}
use Rattle.cedar_identifiers.specs.declared.name.Name.{Name}
use Rattle.schema_json.specs.Orders.{namespace_cmp}

pub names_order : (a b : Name)
    → ordering_then (text_cmp a.name.first.text b.name.first.text)
    (slice_cmp (λ (x y : Id). text_cmp x.text y.text) a.name.others b.name.others)
    ≡ slice_cmp text_cmp (components_of a.name) (components_of b.name)
names_order a b = ap (ordering_then (text_cmp a.name.first.text b.name.first.text))
    (sym (lex_map (λ (j : Id). j.text) text_cmp a.name.others b.name.others))

module _ (D : Name → Name → Ordering)
    (is : (a b : Name) → D a b ≡ slice_cmp text_cmp (components_of a.name) (components_of b.name)) where
  pub namespaces_order : (a b : Option Name) → option_cmp D a b ≡ namespace_cmp a b
  namespaces_order None None = refl
  namespaces_order None (Some b) = refl
  namespaces_order (Some a) None = refl
  namespaces_order (Some a) (Some b) = is a b

  pub map_made : {X : Type 0} (entries made : List (Option Name × X)) → made ≡ map_of (option_cmp D) entries
      → made ≡ map_of namespace_cmp entries
  map_made entries made h = h ∙ (λ i. map_of (λ a b. namespaces_order a b i) entries)
