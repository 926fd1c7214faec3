-- The openings of each name, as they are gathered.
use Rattle.std.proofs.Common.{◌≡◌, List, [], ◌∷◌, map, refl, ap, ◌∙◌}
use Rattle.std.specs.Option.{option_cmp}
use Rattle.schema_syntax_tree.specs.declared.annotated.Annotated.{Annotated}
use Rattle.schema_syntax_tree.specs.declared.namespace.Namespace.{Namespace}
use Rattle.schema_convert_openings.specs.declared.openings.Openings.{Openings}
use Rattle.schema_convert_openings.specs.Joined.{path_cmp, first_openings, openings_of, opened_as, joined_by_name}
use Rattle.schema_convert_openings.proofs.Ranked.{with_all}

-- the first opening, and all of them
abbrev pub opened : Openings → Annotated Namespace × List (Annotated Namespace)
opened g = (g.first, g.first ∷ g.others.items)

abbrev pub joined_groups : List Openings → List (Annotated Namespace)
joined_groups groups = map (λ g. opened_as g.first (g.first ∷ g.others.items)) groups

abbrev pub whole : Annotated Namespace × List (Annotated Namespace) → Annotated Namespace
whole p = opened_as p.0 p.1

as_pairs : (groups : List Openings) → joined_groups groups ≡ map whole (map opened groups)
as_pairs [] = refl
as_pairs (g ∷ groups) = ap (λ l. opened_as g.first (g.first ∷ g.others.items) ∷ l) (as_pairs groups)

by_firsts : (namespaces firsts : List (Annotated Namespace))
    → map whole (map (with_all (λ (n : Annotated Namespace). n.item.name) (option_cmp path_cmp) namespaces) firsts)
    ≡ map (λ n. opened_as n (openings_of n namespaces)) firsts
by_firsts namespaces [] = refl
by_firsts namespaces (n ∷ firsts) = ap (λ l. opened_as n (openings_of n namespaces) ∷ l) (by_firsts namespaces firsts)

pub all_joined : (namespaces : List (Annotated Namespace)) (groups : List Openings)
    → map opened groups ≡ map (with_all (λ (n : Annotated Namespace). n.item.name) (option_cmp path_cmp) namespaces)
    (first_openings namespaces)
    → joined_groups groups ≡ joined_by_name namespaces
all_joined namespaces groups h = as_pairs groups ∙ (ap (map whole) h ∙ by_firsts namespaces (first_openings namespaces))
