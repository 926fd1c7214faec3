-- What is looked up at a name.
use Rattle.std.proofs.Common.{◌≡◌, ℕ, Bool, true, false, cond, List, [], ◌∷◌, Option, Some, None, refl, sym, ap, ◌∙◌}
use Rattle.std.specs.declared.cmp.Ordering.{Ordering}
use Rattle.std.specs.Ordering.{is_eq}
use Rattle.std.specs.Cmp.Lexicographic.{slice_cmp}
use Rattle.std.specs.BTreeMap.{is_at}
use Rattle.std.specs.Map.{lookup}
use Rattle.std.specs.Option.{option_map}
use Rattle.cedar_data.specs.Text.{text_cmp}
use Rattle.cedar_identifiers.specs.Names.{components_of}
use Rattle.cedar_identifiers.specs.declared.name.Name.{Name}
use Rattle.cedar_names.specs.Definitions.{same_name}
use Rattle.schema_inclusion_types.specs.declared.ids.TypeIds.{TypeIds}
use Rattle.schema_inclusion_types.specs.Ids.{id_in, lost_in}
use Rattle.schema_inclusion_types.proofs.Ties.{names_tie}

abbrev pub id_at : Option TypeIds → List ℕ
id_at None = []
id_at (Some ids) = ids.id

abbrev pub lost_at : Option TypeIds → Option (List ℕ)
lost_at None = None
lost_at (Some ids) = ids.lost

id_or : (b : Bool) (x : TypeIds) (o : Option TypeIds) → id_at (cond b (Some x) o) ≡ cond b x.id (id_at o)
id_or true x o = refl
id_or false x o = refl

lost_or : (b : Bool) (x : TypeIds) (o : Option TypeIds) → lost_at (cond b (Some x) o) ≡ cond b x.lost (lost_at o)
lost_or true x o = refl
lost_or false x o = refl

module _ (C : Name → Name → Ordering)
    (same : (a b : Name) → C a b ≡ slice_cmp text_cmp (components_of a.name) (components_of b.name)) (name : Name) where
  at_name : (k : Name) → is_at (C name) k ≡ same_name (components_of name.name) (components_of k.name)
  at_name k = ap is_eq (same name k) ∙ names_tie (components_of name.name) (components_of k.name)

  pub id_looked : (rows : List (Name × TypeIds))
      → id_at (lookup (is_at (C name)) rows) ≡ id_in rows (components_of name.name)
  id_looked [] = refl
  id_looked (r ∷ rows) = id_or (is_at (C name) r.0) r.1 (lookup (is_at (C name)) rows)
      ∙ (λ i. cond (at_name r.0 i) r.1.id (id_looked rows i))

  pub lost_looked : (rows : List (Name × TypeIds))
      → lost_at (lookup (is_at (C name)) rows) ≡ lost_in rows (components_of name.name)
  lost_looked [] = refl
  lost_looked (r ∷ rows) = lost_or (is_at (C name) r.0) r.1 (lookup (is_at (C name)) rows)
      ∙ (λ i. cond (at_name r.0 i) r.1.lost (lost_looked rows i))
