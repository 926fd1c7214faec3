-- The parts of a type, by its outermost layer.
use Rattle.std.proofs.Common.{◌≡◌, ℕ, zero, suc, ◌<◌, Bool, true, false, List, [], ◌∷◌, ◌++◌, length, get_or, refl}
use Rattle.std.proofs.Common.{◌∙◌, subst, arith, All}
use Rattle.std.proofs.lemmas.List.Elements.{All-head}
use Rattle.cedar_data.proofs.Lists.{All-front, All-back}
use Rattle.schema_json.specs.Shapes.{attributes_of, is_open}
use Rattle.schema_json.specs.declared.types.TypeVariant.TheVariants.{Record}
use Rattle.schema_json.specs.declared.types.RecordType.{RecordType}
use Rattle.schema_json.specs.declared.types.TypeOfAttribute.{TypeOfAttribute, out-TypeOfAttribute}
use Rattle.schema_json_walk.specs.Parts.{Part, open_record}
use Rattle.schema_json_walk.specs.Walk.{itself, visit_where, parts}
use Rattle.schema_json_walk.specs.Walk.{of_variant, of_attribute, of_entries}
use Rattle.schema_json_walk.proofs.Layers.{record_walked, variant_walked, attribute_walked}

module _ (N : Type 0) where
  pub record_parts : (r : RecordType N)
      → of_variant itself (Record r) ≡ visit_where itself (is_open r) open_record ++ of_entries itself
      (attributes_of r)
  record_parts r = variant_walked itself r ∙ record_walked itself r

  module _ (P : Part N → Type 0) where
    -- what holds of all parts holds of those of an attribute
    pub all_entry : (entries : List (List ℕ × TypeOfAttribute N)) (i : ℕ) (d : List ℕ × TypeOfAttribute N)
        → i < length entries → All P (of_entries itself entries)
        → All P (parts (out-TypeOfAttribute N (get_or entries i d).1).ty)
    all_entry [] i d h all = absurd (omega arith)
    all_entry (e ∷ entries) zero d h all =
        subst (All P) (attribute_walked itself e.1)
        (All-front P (of_attribute itself e.1) (of_entries itself entries) all)
    all_entry (e ∷ entries) (suc i) d h all =
        all_entry entries i d (omega arith) (All-back P (of_attribute itself e.1) (of_entries itself entries) all)

    -- where no open record may stand, the record is closed
    closed_by : (b : Bool) (xs : List (Part N)) → (P open_record → ⊥) → All P (visit_where itself b open_record ++ xs)
        → (b ≡ false) × All P xs
    closed_by true xs no_open all = absurd (no_open (All-head P open_record xs all))
    closed_by false xs no_open all = (refl, all)

    pub all_record : (r : RecordType N) → (P open_record → ⊥) → All P (of_variant itself (Record r))
        → (is_open r ≡ false) × All P (of_entries itself (attributes_of r))
    all_record r no_open all =
        closed_by (is_open r) (of_entries itself (attributes_of r)) no_open (subst (All P) (record_parts r) all)
