-- What is recovered of an entity type, and what it lacks, by what is declared of it.
use Rattle.std.proofs.Common.{◌≡◌, ℕ, Bool, true, List, ◌++◌, refl, sym, subst}
use Rattle.std.proofs.Common.{Option}
use Rattle.std.specs.Option.{option_map}
use Rattle.cedar_identifiers.specs.declared.name.Name.{Name}
use Rattle.schema_build_errors.specs.declared.recovery_error.RecoveryError.TheVariants as error
use Rattle.schema_build_types.specs.declared.entity_type.ValidatorEntityType.{ValidatorEntityType}
use Rattle.schema_build_types.specs.declared.entity_type.ValidatorEntityTypeKind.{ValidatorEntityTypeKind}
use Rattle.schema_build_types.specs.declared.entity_type.ValidatorEntityTypeKind.TheVariants as kind
use Rattle.schema_build_types.specs.declared.types.Type.{«Type»}
use Rattle.schema_build_types.specs.Content.{EntityContent, entity_content, attributes_content, type_content}
use Rattle.schema_build_types.specs.Lacks.{attribute_lacks, entity_lacks, tag_lacks}
use Rattle.schema_build_recovered_types.specs.FirstLacks.{IsFirstLack}

-- what holds of what an entity type says
pub kind_so : (P : EntityContent → Type 0) (e : Name × ValidatorEntityType) (k : ValidatorEntityTypeKind)
    → e.1.kind ≡ k → P (entity_content (e.0, record { ancestors = e.1.ancestors; kind = k })) → P (entity_content e)
kind_so P e k h p =
    subst (λ x. P (entity_content (e.0, record { ancestors = e.1.ancestors; kind = x }))) (sym h) p

module _ (e : Name × ValidatorEntityType) (attributes : List (List ℕ × («Type» × Bool))) (more : Bool)
    (tags : Option «Type») (is : e.1.kind ≡ kind.Standard attributes more tags) where
  pub open_lacking : more ≡ true → IsFirstLack (entity_lacks (entity_content e)) error.Unsupported
  open_lacking open' =
      kind_so (λ s. IsFirstLack (entity_lacks s) error.Unsupported) e (kind.Standard attributes more tags) is
      (subst (λ m. IsFirstLack (entity_lacks (entity_content
      (e.0, record { ancestors = e.1.ancestors; kind = kind.Standard attributes m tags }))) error.Unsupported)
      (sym open')
      (attribute_lacks (attributes_content attributes) ++ tag_lacks (option_map type_content tags), refl))
