-- Types, layer by layer: what a fold makes of each layer, and what holds of each.
use Rattle.std.proofs.Common.{◌≡◌, ℕ, List, [], ◌∷◌, map, Option, ap, sym, ◌∙◌, subst}
use Rattle.std.specs.List.{AllByRecursion}
use Rattle.cedar_data.specs.declared.loc.Loc.{Loc}
use Rattle.cedar_identifiers.specs.declared.unreserved_id.UnreservedId.{UnreservedId}
use Rattle.schema_json.specs.declared.types.Type.{«Type», roll-Type}
use Rattle.schema_json.specs.declared.types.Type.TheVariants as outer
use Rattle.schema_json.specs.declared.types.TypeVariant.{TypeVariant, roll-TypeVariant}
use Rattle.schema_json.specs.declared.types.TypeVariant.TheVariants as shape
use Rattle.schema_json.specs.declared.types.RecordType.{RecordType, roll-RecordType, out-RecordType}
use Rattle.schema_json.specs.declared.types.RecordType.{out-roll-RecordType}
use Rattle.schema_json.specs.declared.types.TypeOfAttribute.{TypeOfAttribute, roll-TypeOfAttribute}
use Rattle.schema_json.specs.declared.types.TypeOfAttribute.{out-TypeOfAttribute, out-roll-TypeOfAttribute}
use Rattle.schema_json.specs.declared.types.Type.TheOpen.{Type-F, TypeVariant-F, RecordType-F, TypeOfAttribute-F}
use Rattle.schema_json.specs.declared.types.Type.TheFolds.{map-Type, map-TypeVariant, map-RecordType}
use Rattle.schema_json.specs.declared.types.Type.TheFolds.{map-TypeOfAttribute, fold-Type, fold-TypeVariant}
use Rattle.schema_json.specs.declared.types.Type.TheFolds.{fold-RecordType, fold-TypeOfAttribute, fold-roll-Type}
use Rattle.schema_json.specs.declared.types.Type.TheFolds.{fold-roll-TypeVariant, ind-Type, ind-TypeVariant}
use Rattle.schema_json.specs.declared.types.Type.TheFolds.{ind-RecordType, ind-TypeOfAttribute}

module _ (N : Type 0) where
  -- what a fold makes of each kind of type
  module _ {A B C D : Type 0} (f : Type-F N A B C D → A) (g : TypeVariant-F N A B C D → B)
      (h : RecordType-F N A B C D → C) (k : TypeOfAttribute-F N A B C D → D) where
    abbrev on_type : «Type» N → A
    on_type = fold-Type N A B C D f g h k

    abbrev on_variant : TypeVariant N → B
    on_variant = fold-TypeVariant N A B C D f g h k

    abbrev on_record : RecordType N → C
    on_record = fold-RecordType N A B C D f g h k

    pub variant_made : (v : TypeVariant N) (loc : Option Loc)
        → on_type (outer.Variant v loc) ≡ f (Type-F.Variant (on_variant v) loc)
    variant_made v loc =
        ap on_type (sym (outer.rolls-Variant v loc)) ∙ fold-roll-Type N A B C D f g h k (Type-F.Variant v loc)

    pub reference_made : (n : N) (loc : Option Loc)
        → on_type (outer.CommonTypeRef n loc) ≡ f (Type-F.CommonTypeRef n loc)
    reference_made n loc =
        ap on_type (sym (outer.rolls-CommonTypeRef n loc))
        ∙ fold-roll-Type N A B C D f g h k (Type-F.CommonTypeRef n loc)

    variant_rolled : (x : TypeVariant-F N («Type» N) (TypeVariant N) (RecordType N) (TypeOfAttribute N))
        (v : TypeVariant N) → roll-TypeVariant N x ≡ v
        → on_variant v ≡ g (map-TypeVariant N _ _ _ _ _ _ _ _ on_type on_variant on_record
        (fold-TypeOfAttribute N A B C D f g h k) x)
    variant_rolled x v e = ap on_variant (sym e) ∙ fold-roll-TypeVariant N A B C D f g h k x

    pub string_made : on_variant shape.String ≡ g TypeVariant-F.String
    string_made = variant_rolled TypeVariant-F.String _ shape.rolls-String

    pub long_made : on_variant shape.Long ≡ g TypeVariant-F.Long
    long_made = variant_rolled TypeVariant-F.Long _ shape.rolls-Long

    pub boolean_made : on_variant shape.Boolean ≡ g TypeVariant-F.Boolean
    boolean_made = variant_rolled TypeVariant-F.Boolean _ shape.rolls-Boolean

    pub set_made : (t : «Type» N) → on_variant (shape.Set t) ≡ g (TypeVariant-F.Set (on_type t))
    set_made t = variant_rolled (TypeVariant-F.Set t) _ (shape.rolls-Set t)

    pub record_made : (r : RecordType N) → on_variant (shape.Record r) ≡ g (TypeVariant-F.Record (on_record r))
    record_made r = variant_rolled (TypeVariant-F.Record r) _ (shape.rolls-Record r)

    pub entity_made : (n : N) → on_variant (shape.Entity n) ≡ g (TypeVariant-F.Entity n)
    entity_made n = variant_rolled (TypeVariant-F.Entity n) _ (shape.rolls-Entity n)

    pub either_made : (n : N) → on_variant (shape.EntityOrCommon n) ≡ g (TypeVariant-F.EntityOrCommon n)
    either_made n = variant_rolled (TypeVariant-F.EntityOrCommon n) _ (shape.rolls-EntityOrCommon n)

    pub extension_made : (id : UnreservedId) → on_variant (shape.Extension id) ≡ g (TypeVariant-F.Extension id)
    extension_made id = variant_rolled (TypeVariant-F.Extension id) _ (shape.rolls-Extension id)

  -- what holds of each layer if it holds of its parts, holds of each type
  module _ (P : «Type» N → Type 0) (Q : TypeVariant N → Type 0) (R : RecordType N → Type 0)
      (S : TypeOfAttribute N → Type 0) where
    pub record Layers : Type 0 where
      pub variant : (v : TypeVariant N) (loc : Option Loc) → Q v → P (outer.Variant v loc)
      pub reference : (n : N) (loc : Option Loc) → P (outer.CommonTypeRef n loc)
      pub string : Q shape.String
      pub long : Q shape.Long
      pub boolean : Q shape.Boolean
      pub set : (t : «Type» N) → P t → Q (shape.Set t)
      pub fields : (r : RecordType N) → R r → Q (shape.Record r)
      pub entity : (n : N) → Q (shape.Entity n)
      pub either : (n : N) → Q (shape.EntityOrCommon n)
      pub extension : (id : UnreservedId) → Q (shape.Extension id)
      pub entries : (r : RecordType N) → AllByRecursion (λ e. S e.1) (out-RecordType N r).attributes → R r
      pub attribute : (a : TypeOfAttribute N) → P (out-TypeOfAttribute N a).ty → S a

    module _ (layers : Layers) where
      abbrev T' : Type 0
      T' = (t : «Type» N) × P t

      abbrev V' : Type 0
      V' = (v : TypeVariant N) × Q v

      abbrev R' : Type 0
      R' = (r : RecordType N) × R r

      abbrev A' : Type 0
      A' = (a : TypeOfAttribute N) × S a

      on_outer : (y : Type-F N T' V' R' A')
          → P (roll-Type N (map-Type N T' V' R' A' _ _ _ _ (λ e. e.0) (λ e. e.0) (λ e. e.0) (λ e. e.0) y))
      on_outer (Type-F.Variant v loc) = subst P (sym (outer.rolls-Variant v.0 loc)) (layers.variant v.0 loc v.1)
      on_outer (Type-F.CommonTypeRef n loc) =
          subst P (sym (outer.rolls-CommonTypeRef n loc)) (layers.reference n loc)

      on_shape : (y : TypeVariant-F N T' V' R' A') → Q (roll-TypeVariant N
          (map-TypeVariant N T' V' R' A' _ _ _ _ (λ e. e.0) (λ e. e.0) (λ e. e.0) (λ e. e.0) y))
      on_shape TypeVariant-F.String = subst Q (sym shape.rolls-String) layers.string
      on_shape TypeVariant-F.Long = subst Q (sym shape.rolls-Long) layers.long
      on_shape TypeVariant-F.Boolean = subst Q (sym shape.rolls-Boolean) layers.boolean
      on_shape (TypeVariant-F.Set t) = subst Q (sym (shape.rolls-Set t.0)) (layers.set t.0 t.1)
      on_shape (TypeVariant-F.Record r) = subst Q (sym (shape.rolls-Record r.0)) (layers.fields r.0 r.1)
      on_shape (TypeVariant-F.Entity n) = subst Q (sym (shape.rolls-Entity n)) (layers.entity n)
      on_shape (TypeVariant-F.EntityOrCommon n) = subst Q (sym (shape.rolls-EntityOrCommon n)) (layers.either n)
      on_shape (TypeVariant-F.Extension id) = subst Q (sym (shape.rolls-Extension id)) (layers.extension id)

      each_entry : (es : List (List ℕ × A'))
          → AllByRecursion (λ e. S e.1) (map (λ p. let q : List ℕ × TypeOfAttribute N = (p.0, p.1.0) in q) es)
      each_entry [] = tt
      each_entry (e ∷ es) = (e.1.1, each_entry es)

      on_fields : (y : RecordType-F N T' V' R' A') → R (roll-RecordType N
          (map-RecordType N T' V' R' A' _ _ _ _ (λ e. e.0) (λ e. e.0) (λ e. e.0) (λ e. e.0) y))
      on_fields y =
          layers.entries _ (subst (λ z. AllByRecursion (λ e. S e.1) z.attributes) (sym (out-roll-RecordType N _))
          (each_entry y.attributes))

      on_field : (y : TypeOfAttribute-F N T' V' R' A') → S (roll-TypeOfAttribute N
          (map-TypeOfAttribute N T' V' R' A' _ _ _ _ (λ e. e.0) (λ e. e.0) (λ e. e.0) (λ e. e.0) y))
      on_field y =
          let a : TypeOfAttribute-F N («Type» N) (TypeVariant N) (RecordType N) (TypeOfAttribute N) =
          record { ty = y.ty.0; annotations = y.annotations; required = y.required } in
          layers.attribute (roll-TypeOfAttribute N a)
          (subst (λ z. P z.ty) (sym (out-roll-TypeOfAttribute N a)) y.ty.1)

      pub each_type : (t : «Type» N) → P t
      each_type = ind-Type N P Q R S
          (λ x y is. subst (λ z. P (roll-Type N z)) is (on_outer y))
          (λ x y is. subst (λ z. Q (roll-TypeVariant N z)) is (on_shape y))
          (λ x y is. subst (λ z. R (roll-RecordType N z)) is (on_fields y))
          (λ x y is. subst (λ z. S (roll-TypeOfAttribute N z)) is (on_field y))

      pub each_variant : (v : TypeVariant N) → Q v
      each_variant = ind-TypeVariant N P Q R S
          (λ x y is. subst (λ z. P (roll-Type N z)) is (on_outer y))
          (λ x y is. subst (λ z. Q (roll-TypeVariant N z)) is (on_shape y))
          (λ x y is. subst (λ z. R (roll-RecordType N z)) is (on_fields y))
          (λ x y is. subst (λ z. S (roll-TypeOfAttribute N z)) is (on_field y))

      pub each_record : (r : RecordType N) → R r
      each_record = ind-RecordType N P Q R S
          (λ x y is. subst (λ z. P (roll-Type N z)) is (on_outer y))
          (λ x y is. subst (λ z. Q (roll-TypeVariant N z)) is (on_shape y))
          (λ x y is. subst (λ z. R (roll-RecordType N z)) is (on_fields y))
          (λ x y is. subst (λ z. S (roll-TypeOfAttribute N z)) is (on_field y))

      pub each_attribute : (a : TypeOfAttribute N) → S a
      each_attribute = ind-TypeOfAttribute N P Q R S
          (λ x y is. subst (λ z. P (roll-Type N z)) is (on_outer y))
          (λ x y is. subst (λ z. Q (roll-TypeVariant N z)) is (on_shape y))
          (λ x y is. subst (λ z. R (roll-RecordType N z)) is (on_fields y))
          (λ x y is. subst (λ z. S (roll-TypeOfAttribute N z)) is (on_field y))
