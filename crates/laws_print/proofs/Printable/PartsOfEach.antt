-- What holds of each part of a fragment holds of each part of each namespace.
use Rattle.std.proofs.Common.{List, [], ◌∷◌, Option, subst}
use Rattle.std.specs.List.{flat_map, AllByRecursion}
use Rattle.cedar_data.proofs.Every.{All-weaker}
use Rattle.cedar_data.proofs.Every.{all_front, all_back}
use Rattle.cedar_identifiers.specs.declared.name.Name.{Name}
use Rattle.cedar_identifiers.specs.declared.raw_name.RawName.{RawName}
use Rattle.schema_json_walk.specs.Parts.{Part}
use Rattle.schema_json_walk.specs.Walk.{itself, of_namespace}
use Rattle.schema_json_walk.proofs.ByParts.{namespace_by_parts}
use Rattle.laws_print.specs.Printed.CedarForm.{Block}

-- what the items give, item by item
pub all_given : {A B : Type 0} (P : B → Type 0) (give : A → List B) (xs : List A)
    → AllByRecursion P (flat_map give xs) → AllByRecursion (λ x. AllByRecursion P (give x)) xs
all_given P give [] h = tt
all_given P give (x ∷ xs) h =
    (all_front P (give x) (flat_map give xs) h, all_given P give xs (all_back P (give x) (flat_map give xs) h))

module _ (P : Option Name → Part RawName → Type 0) where
  abbrev Placed : Option Name × Part RawName → Type 0
  Placed e = P e.0 e.1

  abbrev placed : Option Name → Part RawName → List (Option Name × Part RawName)
  placed ns part = (ns, part) ∷ []

  unplaced : (ns : Option Name) (parts : List (Part RawName)) → AllByRecursion Placed (flat_map (placed ns) parts)
      → AllByRecursion (P ns) parts
  unplaced ns [] h = tt
  unplaced ns (p ∷ ps) (h, hs) = (h, unplaced ns ps hs)

  -- of each part with its namespace
  pub in_each : (es : List Block)
      → AllByRecursion Placed (flat_map (λ e. of_namespace (placed e.0) e.1) es)
      → AllByRecursion (λ e. AllByRecursion (P e.0) (of_namespace itself e.1)) es
  in_each es h =
      All-weaker (λ e. AllByRecursion Placed (of_namespace (placed e.0) e.1))
      (λ e. AllByRecursion (P e.0) (of_namespace itself e.1))
      (λ e k. unplaced e.0 (of_namespace itself e.1)
      (subst (AllByRecursion Placed) (namespace_by_parts (placed e.0) e.1) k)) es
      (all_given Placed (λ (e : Block). of_namespace (placed e.0) e.1) es h)
