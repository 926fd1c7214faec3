-- Entity types whose choices are listed.
use Rattle.std.proofs.Common.{◌≡◌, ◌↔◌, Bool, true, false, List, map, ap, sym, ◌∙◌, Some, None}
use Rattle.cedar_identifiers.specs.declared.eid.Eid.{Eid}
use Rattle.schema_build_types.specs.Content.{none}
use Rattle.schema_build_types.specs.declared.entity_type.ValidatorEntityTypeKind.{ValidatorEntityTypeKind}
use Rattle.schema_build_types.specs.declared.entity_type.ValidatorEntityTypeKind.TheVariants as kind
use Rattle.schema_build_equal.specs.Declared.{entity_kind}

-- such entity types say the same where their choices are equal in turn
pub choices_same : (a b : ValidatorEntityTypeKind) (xs ys : List Eid) (e : Bool) → a ≡ kind.Enum xs → b ≡ kind.Enum ys
    → (e ≡ true) ↔ (map (λ c. c.0) xs ≡ map (λ c. c.0) ys) → (e ≡ true) ↔ (entity_kind a ≡ entity_kind b)
choices_same a b xs ys e p q f =
    let left : entity_kind a ≡ entity_kind (kind.Enum xs) = ap entity_kind p in
    let right : entity_kind b ≡ entity_kind (kind.Enum ys) = ap entity_kind q in (
      λ h. let all = f.0 h in
          left ∙ ((λ i. record {
            is_external = false;
            attributes = none;
            more = false;
            tags = None;
            choices = Some (all i);
          }) ∙ sym right),
      λ h. f.1 (
          let some : Some (map (λ (c : Eid). c.0) xs) ≡ Some (map (λ (c : Eid). c.0) ys) = ap (λ k. k.choices)
          (sym left ∙ (h ∙ right)) in
          cc),
    )
