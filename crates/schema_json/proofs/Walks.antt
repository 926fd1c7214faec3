-- The equations of the walks.
use Rattle.std.proofs.Common.{◌≡◌, ℕ, Bool, ◌||◌, List, [], ◌∷◌, ◌++◌, map, refl, ap, sym, ◌∙◌, suc, ◌+◌}
use Rattle.std.proofs.Common.{◌<◌, length, get_or, drop, drop-cons, add-one, Option, Some, None}
use Rattle.std.proofs.Math.Bool.{or_assoc}
use Rattle.std.specs.List.{flat_map}
use Rattle.schema_json.specs.Walk.{type_refs, variant_refs, record_refs, attribute_refs, references, variant_references}
use Rattle.schema_json.specs.Walk.{record_references, attribute_references, entry_references, either, any_extension}
use Rattle.schema_json.specs.Walk.{type_answer, variant_answer, record_answer, attribute_answer, is_extension}
use Rattle.schema_json.specs.Walk.{is_extension_variant, is_extension_record, is_extension_attribute}
use Rattle.schema_json.specs.Walk.{is_extension_among}
use Rattle.schema_json.specs.declared.types.RecordType.{RecordType, out-RecordType, fold_out-RecordType}
use Rattle.schema_json.specs.declared.types.TypeOfAttribute.{TypeOfAttribute, out-TypeOfAttribute}
use Rattle.schema_json.specs.declared.types.TypeOfAttribute.{fold_out-TypeOfAttribute}
use Rattle.schema_json.specs.declared.types.TypeVariant.TheVariants.{Record, EntityOrCommon}
use Rattle.schema_json.proofs.Layers.{record_made, either_made}

-- the values of entries, each made anew
pub values_made : {A R : Type 0} (f : A → R) (entries : List (List ℕ × A))
    → map (λ p. p.1) (map (λ p. let q : List ℕ × R = (p.0, f p.1) in q) entries) ≡ map (λ p. f p.1) entries
values_made f [] = refl
values_made f (p ∷ ps) = ap (λ made. f p.1 ∷ made) (values_made f ps)

-- what the values give, each made anew
pub values_walked : {A U : Type 0} (f : A → List U) (entries : List (List ℕ × A))
    → flat_map (λ p. p.1) (map (λ p. let q : List ℕ × List U = (p.0, f p.1) in q) entries)
    ≡ flat_map (λ p. f p.1) entries
values_walked f [] = refl
values_walked f (p ∷ ps) = ap (λ made. f p.1 ++ made) (values_walked f ps)

pub either_more : (a b : Bool) (answer : Option Bool)
    → either (Some a) (either (Some b) answer) ≡ either (Some (a || b)) answer
either_more a b None = refl
either_more a b (Some c) = ap Some (sym (or_assoc a b c))

-- the next answer, and the answer of those after it
pub one_answer : (a : Bool) (answer known rest all : Option Bool) → answer ≡ known → all ≡ either known rest
    → either (Some a) (either answer rest) ≡ either (Some a) all
one_answer a answer known rest all same step = ap (λ x. either (Some a) (either x rest)) same
    ∙ ap (either (Some a)) (sym step)

module _ (N : Type 0) where
  record_out : (r : RecordType N) → record_references r ≡ entry_references (out-RecordType N r).attributes
  record_out r = fold_out-RecordType N (List N) (List N) (List N) (List N) type_refs variant_refs record_refs
      attribute_refs r ∙ values_walked attribute_references (out-RecordType N r).attributes

  attribute_out : (a : TypeOfAttribute N) → attribute_references a ≡ references (out-TypeOfAttribute N a).ty
  attribute_out a = fold_out-TypeOfAttribute N (List N) (List N) (List N) (List N) type_refs variant_refs record_refs
      attribute_refs a

  pub variant_record : (r : RecordType N)
      → variant_references (Record r) ≡ entry_references (out-RecordType N r).attributes
  variant_record r = record_made N type_refs variant_refs record_refs attribute_refs r ∙ record_out r

  pub variant_common : (n : N) → variant_references (EntityOrCommon n) ≡ n ∷ []
  variant_common n = either_made N type_refs variant_refs record_refs attribute_refs n

  -- one more entry
  pub entries_step : (entries : List (List ℕ × TypeOfAttribute N)) (i : ℕ) (d : List ℕ × TypeOfAttribute N)
      → i < length entries → d ≡ get_or entries i d
      → entry_references (drop i entries) ≡ references (out-TypeOfAttribute N d.1).ty
      ++ entry_references (drop (i + 1) entries)
  entries_step entries i d h e =
      rw (add-one, drop-cons entries i d)
      (ap (λ x. attribute_references x.1 ++ entry_references (drop (suc i) entries)) (sym e)
      ∙ ap (λ names. names ++ entry_references (drop (suc i) entries)) (attribute_out d.1))

  record_answered : (r : RecordType N) → is_extension_record r ≡ is_extension_among (out-RecordType N r).attributes
  record_answered r = fold_out-RecordType N (Option Bool) (Option Bool) (Option Bool) (Option Bool) type_answer
      variant_answer record_answer attribute_answer r
      ∙ ap any_extension (values_made is_extension_attribute (out-RecordType N r).attributes)

  attribute_answered : (a : TypeOfAttribute N) → is_extension_attribute a ≡ is_extension (out-TypeOfAttribute N a).ty
  attribute_answered a = fold_out-TypeOfAttribute N (Option Bool) (Option Bool) (Option Bool) (Option Bool)
      type_answer variant_answer record_answer attribute_answer a

  pub variant_answered : (r : RecordType N)
      → is_extension_variant (Record r) ≡ is_extension_among (out-RecordType N r).attributes
  variant_answered r = record_made N type_answer variant_answer record_answer attribute_answer r ∙ record_answered r

  pub answers_step : (entries : List (List ℕ × TypeOfAttribute N)) (i : ℕ) (d : List ℕ × TypeOfAttribute N)
      → i < length entries → d ≡ get_or entries i d
      → is_extension_among (drop i entries)
      ≡ either (is_extension (out-TypeOfAttribute N d.1).ty) (is_extension_among (drop (i + 1) entries))
  answers_step entries i d h e =
      rw (add-one, drop-cons entries i d)
      (ap (λ x. either (is_extension_attribute x.1) (is_extension_among (drop (suc i) entries))) (sym e)
      ∙ ap (λ answer. either answer (is_extension_among (drop (suc i) entries))) (attribute_answered d.1))
