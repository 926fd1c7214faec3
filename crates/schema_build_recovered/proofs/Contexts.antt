-- What is recovered of a context, and what it lacks.
use Rattle.std.proofs.Common.{◌≡◌, ℕ, Bool, true, List, [], ◌∷◌, refl, sym, subst, Some, inl, inr}
use Rattle.std.specs.Prelude.{◌⊎◌}
use Rattle.schema_build_errors.specs.declared.recovery_error.RecoveryError.TheVariants as error
use Rattle.schema_build_types.specs.declared.types.Type.{«Type»}
use Rattle.schema_build_types.specs.declared.types.Type.TheVariants as built
use Rattle.schema_build_types.specs.Content.{TypeContent, type_content, attributes_content}
use Rattle.schema_build_types.specs.Content as said
use Rattle.schema_build_types.specs.Lacks.{type_lacks, attribute_lacks, context_lacks}
use Rattle.schema_build_types.specs.Lacks as lack
use Rattle.schema_build_types.proofs.Contents.{record_says, set_says, never_says, any_bool_says, true_says, false_says}
use Rattle.schema_build_types.proofs.Contents.{long_says, string_says, any_entity_says}
use Rattle.schema_build_recovered_types.specs.FirstLacks.{IsFirstLack}
use Rattle.schema_build_recovered_types.proofs.Variants.{says_so}

-- the context is a record
module _ (t : «Type») (attrs : List (List ℕ × («Type» × Bool))) (more : Bool) (is : t ≡ built.Record attrs more) where
  of_record : (P : TypeContent → Type 0) → P (said.Rec (attributes_content attrs) more) → P (type_content t)
  of_record P h = says_so P t (built.Record attrs more) (said.Rec (attributes_content attrs) more) is
      (record_says attrs more) h

  pub open_lacking : more ≡ true → IsFirstLack (context_lacks (type_content t)) error.Unsupported
  open_lacking open' = of_record (λ s. IsFirstLack (context_lacks s) error.Unsupported)
      (subst (λ m. IsFirstLack (type_lacks (said.Rec (attributes_content attrs) m)) error.Unsupported) (sym open')
      (attribute_lacks (attributes_content attrs), refl))

pub set_lacking : (t e : «Type») → t ≡ built.Set (Some e)
    → IsFirstLack (context_lacks (type_content t)) error.Unsupported
set_lacking t e is =
    says_so (λ s. IsFirstLack (context_lacks s) error.Unsupported) t (built.Set (Some e)) (said.Set (type_content e)) is
    (set_says e) (type_lacks (type_content e), refl)

simple : (t v : «Type») (s : TypeContent) → t ≡ v → type_content v ≡ s → IsFirstLack (context_lacks s) error.Unsupported
    → IsFirstLack (context_lacks (type_content t)) error.Unsupported
simple t v s e f h = says_so (λ x. IsFirstLack (context_lacks x) error.Unsupported) t v s e f h

-- the types of one layer
pub simple_lacking : (t : «Type») → (t ≡ built.Never) ⊎ ((t ≡ built.AnyBool) ⊎ ((t ≡ built.True) ⊎ ((t ≡ built.False)
    ⊎ ((t ≡ built.Long) ⊎ ((t ≡ built.String) ⊎ (t ≡ built.AnyEntity))))))
    → IsFirstLack (context_lacks (type_content t)) error.Unsupported
simple_lacking t (inl e) = simple t built.Never said.Never e never_says (lack.Unsupported ∷ [], refl)
simple_lacking t (inr (inl e)) = simple t built.AnyBool said.AnyBool e any_bool_says ([], refl)
simple_lacking t (inr (inr (inl e))) = simple t built.True said.True e true_says (lack.Unsupported ∷ [], refl)
simple_lacking t (inr (inr (inr (inl e)))) = simple t built.False said.False e false_says (lack.Unsupported ∷ [], refl)
simple_lacking t (inr (inr (inr (inr (inl e))))) = simple t built.Long said.Long e long_says ([], refl)
simple_lacking t (inr (inr (inr (inr (inr (inl e)))))) = simple t built.String said.String e string_says ([], refl)
simple_lacking t (inr (inr (inr (inr (inr (inr e)))))) =
    simple t built.AnyEntity said.AnyEntity e any_entity_says (lack.Unsupported ∷ [], refl)
