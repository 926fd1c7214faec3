-- What a type stands for does not depend on places.
use Rattle.std.proofs.Common.{◌≡◌, ℕ, Bool, true, false, List, [], ◌∷◌, map, Option, Some, refl, sym, ap, ◌∙◌, subst}
use Rattle.cedar_identifiers.specs.declared.internal_name.InternalName.{InternalName}
use Rattle.cedar_identifiers.specs.declared.raw_name.RawName.{RawName}
use Rattle.cedar_identifiers.specs.declared.reference_type.ReferenceType.{ReferenceType}
use Rattle.cedar_identifiers.specs.declared.reference_type.ReferenceType.TheVariants.{Common}
use Rattle.cedar_names.specs.Meaning.{PlainType, Attributes, attribute}
use Rattle.cedar_names.specs.Meaning as meant
use Rattle.schema_json.specs.declared.types.Type.{«Type»}
use Rattle.laws_translate.specs.Bare.{bare_name, bare, bare_of_attribute}
use Rattle.laws_translate.proofs.BareTypes.{bare_entry}
use Rattle.schema_build_expand.specs.Expands.{Expands, by_layer, LayerExpands, to_bool, to_long, to_string, to_set}
use Rattle.schema_build_expand.specs.Expands.{to_record, to_extension, to_entity, to_builtin, to_declared, ExpandAll}
use Rattle.schema_build_expand.specs.Expands.{to_no_attributes, to_attribute}
use Rattle.schema_build_expand.specs.Scope.{Scope, DeclaredType, Declares, IsUndeclared, in_table, builtin}
use Rattle.schema_build_expand.specs.View.{View, boolean_layer, long_layer, string_layer, set_layer, record_layer}
use Rattle.schema_build_expand.specs.View.{reference_layer, extension_layer, view}
use Rattle.laws_build.specs.Orders.Alike.{bare_place}
use Rattle.laws_build.proofs.Orders.Layers.{Entry, type_in, is_required, type_in_bare, required_bare}
use Rattle.laws_build.proofs.Orders.Layers.{bare_view, view_bare}

abbrev pub Common' : Type 0
Common' = DeclaredType RawName

-- what a declared common type is without places
abbrev pub bare_common_type : Common' → Common'
bare_common_type d = record { name = d.name; place = bare_place d.place; ty = bare d.ty }

-- In both scopes names mean the same, places aside, and the same common types are declared.
pub record AreScopesAlike (s r : Scope RawName) : Type 0 where
  pub means : (ns ms : Option InternalName) (kind : ReferenceType) (n m : RawName) → bare_place ns ≡ bare_place ms
      → bare_name n ≡ bare_name m → s.means ns kind n ≡ r.means ms kind m
  pub there : (name : List (List ℕ)) (d : Common') → Declares s name d
      → (e : Common') × Declares r name e × (bare_common_type d ≡ bare_common_type e)
  pub back : (name : List (List ℕ)) (d : Common') → Declares r name d → (e : Common') × Declares s name e
  pub words : s.words ≡ r.words

-- a layer that is seen as one of these is one
set_back : (v : View RawName) (t : «Type» RawName) → set_layer (bare t) ≡ bare_view v
    → (x : «Type» RawName) × (v ≡ set_layer x) × (bare t ≡ bare x)
set_back (set_layer x) t e = (x, refl, cc)
set_back (record_layer more es) t e = absurd (cc)
set_back (reference_layer kind name) t e = absurd (cc)
set_back boolean_layer t e = absurd (cc)
set_back long_layer t e = absurd (cc)
set_back string_layer t e = absurd (cc)
set_back (extension_layer word) t e = absurd (cc)

record_back : (v : View RawName) (more : Bool) (es : List Entry)
    → record_layer more (map bare_entry es) ≡ bare_view v
    → (fs : List Entry) × (v ≡ record_layer more fs) × (map bare_entry es ≡ map bare_entry fs)
record_back (record_layer also fs) more es e =
    let same : more ≡ also = cc in
    (fs, ap (λ b. record_layer b fs) (sym same), cc)
record_back (set_layer x) more es e = absurd (cc)
record_back (reference_layer kind name) more es e = absurd (cc)
record_back boolean_layer more es e = absurd (cc)
record_back long_layer more es e = absurd (cc)
record_back string_layer more es e = absurd (cc)
record_back (extension_layer word) more es e = absurd (cc)

reference_back : (v : View RawName) (kind : ReferenceType) (n : RawName)
    → reference_layer kind (bare_name n) ≡ bare_view v
    → (m : RawName) × (v ≡ reference_layer kind m) × (bare_name n ≡ bare_name m)
reference_back (reference_layer also m) kind n e =
    let same : kind ≡ also = cc in
    (m, ap (λ k. reference_layer k m) (sym same), cc)
reference_back (set_layer x) kind n e = absurd (cc)
reference_back (record_layer more es) kind n e = absurd (cc)
reference_back boolean_layer kind n e = absurd (cc)
reference_back long_layer kind n e = absurd (cc)
reference_back string_layer kind n e = absurd (cc)
reference_back (extension_layer word) kind n e = absurd (cc)

-- the other layers have nothing in them that has a place
boolean_back : (v : View RawName) → boolean_layer ≡ bare_view v → v ≡ boolean_layer
boolean_back boolean_layer e = refl
boolean_back (set_layer x) e = absurd (cc)
boolean_back (record_layer more es) e = absurd (cc)
boolean_back (reference_layer kind name) e = absurd (cc)
boolean_back long_layer e = absurd (cc)
boolean_back string_layer e = absurd (cc)
boolean_back (extension_layer word) e = absurd (cc)

long_back : (v : View RawName) → long_layer ≡ bare_view v → v ≡ long_layer
long_back long_layer e = refl
long_back (set_layer x) e = absurd (cc)
long_back (record_layer more es) e = absurd (cc)
long_back (reference_layer kind name) e = absurd (cc)
long_back boolean_layer e = absurd (cc)
long_back string_layer e = absurd (cc)
long_back (extension_layer word) e = absurd (cc)

string_back : (v : View RawName) → string_layer ≡ bare_view v → v ≡ string_layer
string_back string_layer e = refl
string_back (set_layer x) e = absurd (cc)
string_back (record_layer more es) e = absurd (cc)
string_back (reference_layer kind name) e = absurd (cc)
string_back boolean_layer e = absurd (cc)
string_back long_layer e = absurd (cc)
string_back (extension_layer word) e = absurd (cc)

extension_back : (v : View RawName) (word : List ℕ) → extension_layer word ≡ bare_view v → v ≡ extension_layer word
extension_back (extension_layer also) word e = sym e
extension_back (set_layer x) word e = absurd (cc)
extension_back (record_layer more es) word e = absurd (cc)
extension_back (reference_layer kind name) word e = absurd (cc)
extension_back boolean_layer word e = absurd (cc)
extension_back long_layer word e = absurd (cc)
extension_back string_layer word e = absurd (cc)

module _ (s r : Scope RawName) (alike : AreScopesAlike s r) where
  undeclared_too : (name : List (List ℕ)) → IsUndeclared s name → IsUndeclared r name
  undeclared_too name none d h = let (e, k) = alike.back name d h in none e k

  builtin_too : (name : List (List ℕ)) → builtin s name ≡ builtin r name
  builtin_too name = ap (λ ws. builtin
      (let x : Scope RawName = record { means = s.means; commons = s.commons; words = ws } in x) name) alike.words
      ∙ same_words name
    where
      same_words : (name : List (List ℕ))
          → builtin (let x : Scope RawName = record { means = s.means; commons = s.commons; words = r.words } in x) name
          ≡ builtin r name
      same_words [] = refl
      same_words (word ∷ []) = refl
      same_words (first ∷ word ∷ []) = refl
      same_words (first ∷ word ∷ third ∷ more) = refl

  mutual
    -- where the places of the types and of their namespaces alone differ, the types stand for the same
    pub expands_too : (ns ms : Option InternalName) (t u : «Type» RawName) (p : PlainType)
        → bare_place ns ≡ bare_place ms → bare t ≡ bare u → Expands RawName s ns t p → Expands RawName r ms u p
    expands_too ns ms t u p places same (by_layer _ _ _ l) =
        by_layer ms u p (layer_too ns ms _ (view u) p places (sym (view_bare t) ∙ (ap view same ∙ view_bare u)) l)

    layer_too : (ns ms : Option InternalName) (v w : View RawName) (p : PlainType)
        → bare_place ns ≡ bare_place ms → bare_view v ≡ bare_view w → LayerExpands RawName s ns v p
        → LayerExpands RawName r ms w p
    layer_too ns ms v w p places same (to_bool _) =
        subst (λ x. LayerExpands RawName r ms x meant.Bool) (sym (boolean_back w same)) (to_bool ms)
    layer_too ns ms v w p places same (to_long _) =
        subst (λ x. LayerExpands RawName r ms x meant.Long) (sym (long_back w same)) (to_long ms)
    layer_too ns ms v w p places same (to_string _) =
        subst (λ x. LayerExpands RawName r ms x meant.String) (sym (string_back w same)) (to_string ms)
    layer_too ns ms v w p places same (to_set _ t q h) =
        let (x, is, also) = set_back w t same in
        subst (λ y. LayerExpands RawName r ms y (meant.Set q)) (sym is)
        (to_set ms x q (expands_too ns ms t x q places also h))
    layer_too ns ms v w p places same (to_record _ es ps h) =
        let (fs, is, also) = record_back w false es same in
        subst (λ y. LayerExpands RawName r ms y (meant.Rec ps)) (sym is)
        (to_record ms fs ps (all_too ns ms es fs ps places also h))
    layer_too ns ms v w p places same (to_extension _ word h) =
        subst (λ y. LayerExpands RawName r ms y (meant.Ext word)) (sym (extension_back w word same))
        (to_extension ms word (subst (λ ws. in_table
        (let x : Scope RawName = record { means = r.means; commons = r.commons; words = ws } in x) word ≡ true)
        alike.words h))
    layer_too ns ms v w p places same (to_entity _ kind n to h) =
        let (m, is, also) = reference_back w kind n same in
        subst (λ y. LayerExpands RawName r ms y (meant.Entity to)) (sym is)
        (to_entity ms kind m to (sym (alike.means ns ms kind n m places also) ∙ h))
    layer_too ns ms v w p places same (to_builtin _ kind n to q h none b) =
        let (m, is, also) = reference_back w kind n same in
        subst (λ y. LayerExpands RawName r ms y q) (sym is)
        (to_builtin ms kind m to q (sym (alike.means ns ms kind n m places also) ∙ h) (undeclared_too to none)
        (sym (builtin_too to) ∙ b))
    layer_too ns ms v w p places same (to_declared _ kind n d q h c k) =
        let (m, is, also) = reference_back w kind n same in
        let (e, there, seen) = alike.there d.name d c in
        let named : d.name ≡ e.name = ap (λ (x : Common'). x.name) seen in
        let deep : Expands RawName r e.place e.ty q =
        expands_too d.place e.place d.ty e.ty q (ap (λ (x : Common'). x.place) seen) (ap (λ (x : Common'). x.ty) seen)
        k in
        subst (λ y. LayerExpands RawName r ms y q) (sym is)
        (to_declared ms kind m e q
        (sym (alike.means ns ms kind n m places also) ∙ (h ∙ ap (λ x. Some (x, Common)) named))
        (subst (λ x. Declares r x e) named there) deep)

    all_too : (ns ms : Option InternalName) (es fs : List Entry) (ps : Attributes) → bare_place ns ≡ bare_place ms
        → map bare_entry es ≡ map bare_entry fs → ExpandAll RawName s ns es ps → ExpandAll RawName r ms fs ps
    all_too ns ms es [] ps places same (to_no_attributes _) = to_no_attributes ms
    all_too ns ms es (f ∷ fs) ps places same (to_no_attributes _) = absurd (cc)
    all_too ns ms es [] ps places same (to_attribute _ name a rest p qs h hs) = absurd (cc)
    all_too ns ms es ((other, b) ∷ fs) ps places same (to_attribute _ name a rest p qs h hs) =
        let heads : bare_entry (name, a) ≡ bare_entry (other, b) = cc in
        let tails : map bare_entry rest ≡ map bare_entry fs = cc in
        let named : name ≡ other = ap (λ (x : Entry). x.0) heads in
        let attributes : bare_of_attribute a ≡ bare_of_attribute b = ap (λ (x : Entry). x.1) heads in
        let types : bare (type_in a) ≡ bare (type_in b) =
        sym (type_in_bare a) ∙ (ap type_in attributes ∙ type_in_bare b) in
        let required : is_required a ≡ is_required b =
        sym (required_bare a) ∙ (ap is_required attributes ∙ required_bare b) in
        subst (λ x. ExpandAll RawName r ms ((other, b) ∷ fs) x)
        (λ i. attribute (sym named i) (sym required i) p qs)
        (to_attribute ms other b fs p qs (expands_too ns ms (type_in a) (type_in b) p places types h)
        (all_too ns ms rest fs qs places tails hs))
