-- What a type stands for, by cases on its outermost layer.
use Rattle.std.specs.Prelude.{◌≡◌, ℕ, true, false, List, [], ◌∷◌, Option, Some}
use Rattle.cedar_identifiers.specs.declared.internal_name.InternalName.{InternalName}
use Rattle.cedar_identifiers.specs.declared.reference_type.ReferenceType.{ReferenceType}
use Rattle.cedar_identifiers.specs.declared.reference_type.ReferenceType.TheVariants.{Common, Entity}
use Rattle.cedar_names.specs.Meaning.{PlainType, Attributes, no_more, attribute}
use Rattle.cedar_names.specs.Meaning as plain
use Rattle.schema_json.specs.declared.types.Type.{«Type»}
use Rattle.schema_json.specs.declared.types.TypeOfAttribute.{TypeOfAttribute, out-TypeOfAttribute}
use Rattle.schema_build_expand.specs.View.{View, boolean_layer, long_layer, string_layer, set_layer, record_layer}
use Rattle.schema_build_expand.specs.View.{reference_layer, extension_layer, view}
use Rattle.schema_build_expand.specs.Scope.{Scope, DeclaredType, Declares, IsUndeclared, in_table, builtin}

mutual
  -- a type that is written in the namespace stands for the plain type
  pub data Expands (N : Type 0) (s : Scope N) : Option InternalName → «Type» N → PlainType → Type 0 where
    by_layer : (ns : Option InternalName) (t : «Type» N) (p : PlainType) → LayerExpands N s ns (view t) p
        → Expands N s ns t p

  -- a type of this outermost layer
  pub data LayerExpands (N : Type 0) (s : Scope N) : Option InternalName → View N → PlainType → Type 0 where
    to_bool : (ns : Option InternalName) → LayerExpands N s ns boolean_layer plain.Bool
    to_long : (ns : Option InternalName) → LayerExpands N s ns long_layer plain.Long
    to_string : (ns : Option InternalName) → LayerExpands N s ns string_layer plain.String
    to_set : (ns : Option InternalName) (element : «Type» N) (p : PlainType) → Expands N s ns element p
        → LayerExpands N s ns (set_layer element) (plain.Set p)
    -- a closed record
    to_record : (ns : Option InternalName) (entries : List (List ℕ × TypeOfAttribute N)) (ps : Attributes)
        → ExpandAll N s ns entries ps → LayerExpands N s ns (record_layer false entries) (plain.Rec ps)
    to_extension : (ns : Option InternalName) (word : List ℕ) → in_table s word ≡ true
        → LayerExpands N s ns (extension_layer word) (plain.Ext word)
    to_entity : (ns : Option InternalName) (kind : ReferenceType) (name : N) (target : List (List ℕ))
        → s.means ns kind name ≡ Some (target, Entity)
        → LayerExpands N s ns (reference_layer kind name) (plain.Entity target)
    -- a builtin, where no common type of the name is declared
    to_builtin : (ns : Option InternalName) (kind : ReferenceType) (name : N) (target : List (List ℕ)) (p : PlainType)
        → s.means ns kind name ≡ Some (target, Common) → IsUndeclared s target → builtin s target ≡ Some p
        → LayerExpands N s ns (reference_layer kind name) p
    -- what the declaration's type stands for in the namespace of the declaration
    to_declared : (ns : Option InternalName) (kind : ReferenceType) (name : N) (d : DeclaredType N) (p : PlainType)
        → s.means ns kind name ≡ Some (d.name, Common) → Declares s d.name d → Expands N s d.place d.ty p
        → LayerExpands N s ns (reference_layer kind name) p

  -- attributes, in order
  pub data ExpandAll (N : Type 0) (s : Scope N)
      : Option InternalName → List (List ℕ × TypeOfAttribute N) → Attributes → Type 0 where
    to_no_attributes : (ns : Option InternalName) → ExpandAll N s ns [] no_more
    to_attribute : (ns : Option InternalName) (name : List ℕ) (a : TypeOfAttribute N)
        (entries : List (List ℕ × TypeOfAttribute N)) (p : PlainType) (ps : Attributes)
        → Expands N s ns (out-TypeOfAttribute N a).ty p → ExpandAll N s ns entries ps
        → ExpandAll N s ns ((name, a) ∷ entries) (attribute name (out-TypeOfAttribute N a).required p ps)

module _ {N : Type 0} where
  -- a type stands for one plain type at most
  abbrev pub ExpandsOnce : Scope N → Type 0
  ExpandsOnce s = (ns : Option InternalName) (t : «Type» N) (p q : PlainType)
      → Expands N s ns t p → Expands N s ns t q → p ≡ q

  -- attributes stand for one list at most
  abbrev pub AttributesExpandOnce : Scope N → Type 0
  AttributesExpandOnce s = (ns : Option InternalName) (entries : List (List ℕ × TypeOfAttribute N))
      (ps qs : Attributes) → ExpandAll N s ns entries ps → ExpandAll N s ns entries qs → ps ≡ qs
