-- A reference means the same either way exactly where its test passes.
use Rattle.std.proofs.Common.{◌≡◌, ◌↔◌, Bool, true, false, not, ◌||◌, List, [], ◌∷◌, Option, Some, None, cond}
use Rattle.std.proofs.Common.{refl, sym, ap, ◌∙◌}
use Rattle.std.specs.Prelude.{if◌then◌else◌}
use Rattle.std.specs.Option.{option_map}
use Rattle.std.proofs.lemmas.Option.{same_Some}
use Rattle.cedar_data.specs.declared.loc.Loc.{Loc}
use Rattle.cedar_identifiers.specs.Candidates.{behind}
use Rattle.cedar_identifiers.specs.Names.{components_of}
use Rattle.cedar_identifiers.specs.declared.id.Id.{Id}
use Rattle.cedar_identifiers.specs.declared.internal_name.InternalName.{InternalName}
use Rattle.cedar_identifiers.specs.declared.raw_name.RawName.{RawName}
use Rattle.cedar_identifiers.specs.declared.reference_type.ReferenceType.{ReferenceType}
use Rattle.cedar_identifiers.specs.declared.reference_type.ReferenceType.TheVariants.{Common, Entity, CommonOrEntity}
use Rattle.schema_resolve_definitions.specs.Tests.{Tests}
use Rattle.schema_resolve_targets.specs.Meanings.{means, kind_there}
use Rattle.schema_resolve_targets.proofs.Candidates.{behind_parts}
use Rattle.schema_print.specs.PrintableTests.{agrees, agrees_in}

-- what is found alike is of one kind
pub same_kind : {N : Type 0} (m n : N × ReferenceType) → Some m ≡ Some n → m.1 ≡ n.1
same_kind m n h = ap (λ found. found.1) (same_Some m n h)

-- what is found among two candidates, by what each of them is
module _ {N : Type 0} (told : N → ReferenceType) where
  abbrev as_kind : ReferenceType → Option N → Option (N × ReferenceType)
  as_kind kind o = option_map (λ n. (n, kind)) o

  abbrev as_told : Option N → Option (N × ReferenceType)
  as_told o = option_map (λ n. (n, told n)) o

  module _ (p : N) where
    common_alone : (c d : Bool) → told p ≡ (if c then Common else Entity)
        → ((c || not d) ≡ true) ↔ (as_kind Common (cond c (Some p) None) ≡ as_told (cond (c || d) (Some p) None))
    common_alone true d f = (λ h. cc, λ h. refl)
    common_alone false true f = (λ h. cc, λ h. cc)
    common_alone false false f = (λ h. refl, λ h. refl)

    entity_alone : (c d : Bool) → told p ≡ (if c then Common else Entity)
        → (not c ≡ true) ↔ (as_kind Entity (cond d (Some p) None) ≡ as_told (cond (c || d) (Some p) None))
    entity_alone true true f = (λ h. cc, λ h. (let k : Entity ≡ told p = same_kind (p, Entity) (p, told p) h in cc))
    entity_alone true false f = (λ h. cc, λ h. cc)
    entity_alone false true f = (λ h. cc, λ h. refl)
    entity_alone false false f = (λ h. refl, λ h. refl)

    module _ (o : N) where
      common_agrees : (a b c d : Bool) → told o ≡ (if a then Common else Entity)
          → told p ≡ (if c then Common else Entity)
          → (agrees Common a b c d ≡ true)
          ↔ (as_kind Common (cond a (Some o) (cond c (Some p) None))
          ≡ as_told (cond (a || b) (Some o) (cond (c || d) (Some p) None)))
      common_agrees true b c d e f = (λ h. cc, λ h. refl)
      common_agrees false true true d e f =
          (λ h. cc, λ h. (let k : Common ≡ told o = same_kind (p, Common) (o, told o) h in cc))
      common_agrees false true false d e f = (λ h. cc, λ h. cc)
      common_agrees false false c d e f = common_alone c d f

      entity_agrees : (a b c d : Bool) → told o ≡ (if a then Common else Entity)
          → told p ≡ (if c then Common else Entity)
          → (agrees Entity a b c d ≡ true)
          ↔ (as_kind Entity (cond b (Some o) (cond d (Some p) None))
          ≡ as_told (cond (a || b) (Some o) (cond (c || d) (Some p) None)))
      entity_agrees true true c d e f =
          (λ h. cc, λ h. (let k : Entity ≡ told o = same_kind (o, Entity) (o, told o) h in cc))
      entity_agrees true false c true e f =
          (λ h. cc, λ h. (let k : Entity ≡ told o = same_kind (p, Entity) (o, told o) h in cc))
      entity_agrees true false c false e f = (λ h. cc, λ h. cc)
      entity_agrees false true c d e f = (λ h. cc, λ h. refl)
      entity_agrees false false c d e f = entity_alone c d f

module _ (t : Tests) where
  abbrev told_in : InternalName → ReferenceType
  told_in n = kind_there t CommonOrEntity n

  abbrev AgreesAsMeant : Option InternalName → ReferenceType → InternalName → Type 0
  AgreesAsMeant ns kind name = (agrees_in t ns kind name ≡ true)
      ↔ (means t ns kind (record { name = name }) ≡ means t ns CommonOrEntity (record { name = name }))

  alone_in : (kind : ReferenceType) (name : InternalName) → AgreesAsMeant None kind name
  alone_in Common name =
      common_alone told_in name (t.is_common (components_of name)) (t.is_entity (components_of name)) refl
  alone_in Entity name =
      entity_alone told_in name (t.is_common (components_of name)) (t.is_entity (components_of name)) refl
  alone_in CommonOrEntity name = (λ h. refl, λ h. refl)

  module _ (ns : InternalName) (first : Id) (loc : Option Loc) where
    abbrev plain : InternalName
    plain = record { first = first; others = []; loc = loc }

    moved : (kind : ReferenceType) → agrees_in t (Some ns) kind plain
        ≡ agrees kind (t.is_common (components_of (behind ns plain))) (t.is_entity (components_of (behind ns plain)))
        (t.is_common (components_of plain)) (t.is_entity (components_of plain))
    moved kind =
        ap (λ w. agrees kind (t.is_common w) (t.is_entity w) (t.is_common (components_of plain))
        (t.is_entity (components_of plain)))
        (sym (behind_parts ns first loc))

    behind_in : (kind : ReferenceType) → AgreesAsMeant (Some ns) kind plain
    behind_in Common =
        let own = behind ns plain in
        let told = common_agrees told_in plain own (t.is_common (components_of own)) (t.is_entity (components_of own))
        (t.is_common (components_of plain)) (t.is_entity (components_of plain)) refl refl in
        (λ h. told.0 (sym (moved Common) ∙ h), λ h. moved Common ∙ told.1 h)
    behind_in Entity =
        let own = behind ns plain in
        let told = entity_agrees told_in plain own (t.is_common (components_of own)) (t.is_entity (components_of own))
        (t.is_common (components_of plain)) (t.is_entity (components_of plain)) refl refl in
        (λ h. told.0 (sym (moved Entity) ∙ h), λ h. moved Entity ∙ told.1 h)
    behind_in CommonOrEntity = (λ h. refl, λ h. refl)

  qualified_in : (ns : InternalName) (kind : ReferenceType) (first next : Id) (others : List Id) (loc : Option Loc)
      → AgreesAsMeant (Some ns) kind (record { first = first; others = next ∷ others; loc = loc })
  qualified_in ns Common first next others loc =
      let name : InternalName = record { first = first; others = next ∷ others; loc = loc } in
      common_alone told_in name (t.is_common (components_of name)) (t.is_entity (components_of name)) refl
  qualified_in ns Entity first next others loc =
      let name : InternalName = record { first = first; others = next ∷ others; loc = loc } in
      entity_alone told_in name (t.is_common (components_of name)) (t.is_entity (components_of name)) refl
  qualified_in ns CommonOrEntity first next others loc = (λ h. refl, λ h. refl)

  by_words : (ns : InternalName) (kind : ReferenceType) (first : Id) (others : List Id) (loc : Option Loc)
      → AgreesAsMeant (Some ns) kind (record { first = first; others = others; loc = loc })
  by_words ns kind first [] loc = behind_in ns first loc kind
  by_words ns kind first (next ∷ others) loc = qualified_in ns kind first next others loc

  -- the test of a reference tells whether it means the same either way
  pub agrees_as_meant : (ns : Option InternalName) (kind : ReferenceType) (name : RawName)
      → (agrees_in t ns kind name.name ≡ true) ↔ (means t ns kind name ≡ means t ns CommonOrEntity name)
  agrees_as_meant None kind name = alone_in kind name.name
  agrees_as_meant (Some ns) kind name = by_words ns kind name.name.first name.name.others name.name.loc
