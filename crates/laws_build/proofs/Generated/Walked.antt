-- What a walk gives of types that say records of names.
use Rattle.std.proofs.Common.{◌≡◌, ℕ, Bool, true, false, List, [], Some}
use Rattle.std.proofs.Common.{sym, ap, ◌∙◌, subst}
use Rattle.std.proofs.lemmas.Option.{same_Some, none-some}
use Rattle.cedar_data.specs.Text.{text_cmp}
use Rattle.cedar_data.proofs.Orders.{text_total}
use Rattle.cedar_identifiers.specs.Names.{components_of}
use Rattle.cedar_identifiers.specs.declared.raw_name.RawName.{RawName}
use Rattle.cedar_identifiers.specs.declared.reference_type.ReferenceType.TheVariants.{CommonOrEntity}
use Rattle.schema_json.specs.Shapes.{attributes_of}
use Rattle.schema_json.specs.declared.types.Type.{«Type»}
use Rattle.schema_json.specs.declared.types.TypeVariant.TheVariants as variant
use Rattle.schema_json.specs.declared.types.TypeOfAttribute.{TypeOfAttribute, out-TypeOfAttribute}
use Rattle.schema_json.specs.declared.entity_type.AttributesOrContext.{AttributesOrContext}
use Rattle.laws_written.specs.Written.{WrittenAttributes, path, set, rec, no_more, attribute}
use Rattle.laws_translate.specs.TypesSay.{TypeSays, AttributeSays, ByTest, is_last_attribute}
use Rattle.schema_json_walk.specs.Parts.{Part, type_reference}
use Rattle.schema_json_walk.specs.Walk.{of_type}
use Rattle.schema_json_walk.specs.Walk.{of_variant, of_attribute, of_entries, of_context}
use Rattle.schema_json_walk.proofs.Layers.{attribute_walked, type_walked, either_walked}
use Rattle.laws_build.proofs.Said.Members.{flat_nothing, found_there}
use Rattle.laws_build.proofs.Said.Walking.{closed_walked, context_walked}

-- each type is a name of which this holds
abbrev pub AreNames : (List (List ℕ) → Type 0) → WrittenAttributes → Type 0
AreNames Q no_more = Unit {0}
AreNames Q (attribute ns n r (path p) xs) = Q p × AreNames Q xs
AreNames Q (attribute ns n r (set t) xs) = ⊥
AreNames Q (attribute ns n r (rec ys) xs) = ⊥

-- the type says a name of which this holds
abbrev pub SaysName : (List (List ℕ) → Type 0) → «Type» RawName → Type 0
SaysName Q t = (p : List (List ℕ)) × Q p × TypeSays t (path p)

module _ (Q : List (List ℕ) → Type 0) where
  -- what an attribute says is one of the names
  pub said_name : (k : List ℕ) (a : TypeOfAttribute RawName) (xs : WrittenAttributes) → AreNames Q xs
      → AttributeSays k (Some a) xs → SaysName Q (out-TypeOfAttribute RawName a).ty
  said_name k a no_more q h = absurd (none-some a (sym h))
  said_name k a (attribute ns n r (set t) xs) q h = absurd q
  said_name k a (attribute ns n r (rec ys) xs) q h = absurd q
  said_name k a (attribute ns n r (path p) xs) q h =
      by (is_last_attribute k n xs) h (λ s. said_name k a xs q.1 s)
    where
      by : (b : Bool) → ByTest b
          ((c : TypeOfAttribute RawName) × (Some a ≡ Some c) × TypeSays (out-TypeOfAttribute RawName c).ty (path p)
          × ((out-TypeOfAttribute RawName c).annotations.0 ≡ ns)
          × ((out-TypeOfAttribute RawName c).required ≡ r)) (AttributeSays k (Some a) xs)
          → (AttributeSays k (Some a) xs → SaysName Q (out-TypeOfAttribute RawName a).ty)
          → SaysName Q (out-TypeOfAttribute RawName a).ty
      by true s r = (
        p,
        q.0,
        subst (λ c. TypeSays (out-TypeOfAttribute RawName c).ty (path p))
            (sym (same_Some a s.0 s.1)) s.2,
      )
      by false s r = r s

module _ {U : Type 0} (visit : Part RawName → List U) where
  -- a name of which nothing is given
  abbrev pub IsQuiet : List (List ℕ) → Type 0
  IsQuiet p = (n : RawName) → components_of n.name ≡ p → visit (type_reference CommonOrEntity n) ≡ []

  name_gives : (t : «Type» RawName) → SaysName IsQuiet t → of_type visit t ≡ []
  name_gives t (p, quiet, (n, loc, e, same)) =
      ap (of_type visit) e
      ∙ (type_walked visit (variant.EntityOrCommon n) loc ∙ (either_walked visit n ∙ quiet n same))

  entries_give : (t : «Type» RawName) (xs : WrittenAttributes) → AreNames IsQuiet xs → (s : TypeSays t (rec xs))
      → of_entries visit (attributes_of s.0) ≡ []
  entries_give t xs q (r, loc, e, closed, up, each) =
      flat_nothing (λ x. of_attribute visit x.1) (attributes_of r) (λ x h.
      let there = found_there text_cmp text_total (λ (k : List ℕ). k) (attributes_of r) x up h in
      attribute_walked visit x.1
      ∙ name_gives (out-TypeOfAttribute RawName x.1).ty
      (said_name IsQuiet x.0 x.1 xs q (subst (λ o. AttributeSays x.0 o xs) there (each x.0))))

  closed_gives : (t : «Type» RawName) (xs : WrittenAttributes) → AreNames IsQuiet xs → (s : TypeSays t (rec xs))
      → of_variant visit (variant.Record s.0) ≡ []
  closed_gives t xs q s = closed_walked visit s.0 s.3 (entries_give t xs q s)

  pub record_gives : (t : «Type» RawName) (xs : WrittenAttributes) → AreNames IsQuiet xs → TypeSays t (rec xs)
      → of_type visit t ≡ []
  record_gives t xs q s =
      ap (of_type visit) s.2 ∙ (type_walked visit (variant.Record s.0) s.1 ∙ closed_gives t xs q s)

  pub context_gives : (c : AttributesOrContext RawName) (xs : WrittenAttributes) → AreNames IsQuiet xs
      → TypeSays c.0 (rec xs) → of_context visit c ≡ []
  context_gives c xs q s = context_walked visit c (variant.Record s.0) s.1 s.2 ∙ closed_gives c.0 xs q s
