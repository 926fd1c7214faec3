-- What a type says, by its outermost layer.
use Rattle.std.proofs.Common.{◌≡◌, ℕ, Bool, false, List, [], ◌∷◌, Some, None, ap, sym, ◌∙◌}
use Rattle.cedar_identifiers.specs.declared.name.Name.{Name}
use Rattle.cedar_identifiers.specs.declared.unreserved_id.UnreservedId.{UnreservedId}
use Rattle.cedar_names.specs.Meaning.{PlainType, Attributes, no_more, attribute}
use Rattle.cedar_names.specs.Meaning as plain
use Rattle.schema_build_types.specs.declared.types.Type.{«Type», Type-F, fold-roll-Type}
use Rattle.schema_build_types.specs.declared.types.Type.TheVariants as built
use Rattle.schema_build_types.specs.Content.{TypeContent, first}
use Rattle.schema_build_types.specs.Content.{attributes_content, layer_content, type_content, names_content}
use Rattle.schema_build_types.specs.Content as said
use Rattle.schema_build_types.specs.Standing.{IsBuilt, AreBuilt, as_built, attributes_as_built}

-- what each kind of type says
pub never_says : type_content built.Never ≡ said.Never
never_says = ap type_content (sym built.rolls-Never) ∙ fold-roll-Type TypeContent layer_content Type-F.Never

pub any_bool_says : type_content built.AnyBool ≡ said.AnyBool
any_bool_says = ap type_content (sym built.rolls-AnyBool) ∙ fold-roll-Type TypeContent layer_content Type-F.AnyBool

pub true_says : type_content built.True ≡ said.True
true_says = ap type_content (sym built.rolls-True) ∙ fold-roll-Type TypeContent layer_content Type-F.True

pub false_says : type_content built.False ≡ said.False
false_says = ap type_content (sym built.rolls-False) ∙ fold-roll-Type TypeContent layer_content Type-F.False

pub long_says : type_content built.Long ≡ said.Long
long_says = ap type_content (sym built.rolls-Long) ∙ fold-roll-Type TypeContent layer_content Type-F.Long

pub string_says : type_content built.String ≡ said.String
string_says = ap type_content (sym built.rolls-String) ∙ fold-roll-Type TypeContent layer_content Type-F.String

pub any_entity_says : type_content built.AnyEntity ≡ said.AnyEntity
any_entity_says = ap type_content (sym built.rolls-AnyEntity)
    ∙ fold-roll-Type TypeContent layer_content Type-F.AnyEntity

pub unknown_says : type_content (built.Set None) ≡ said.SetOfUnknown
unknown_says = ap type_content (sym (built.rolls-Set None)) ∙ fold-roll-Type TypeContent layer_content (Type-F.Set None)

pub set_says : (t : «Type») → type_content (built.Set (Some t)) ≡ said.Set (type_content t)
set_says t = ap type_content (sym (built.rolls-Set (Some t)))
    ∙ fold-roll-Type TypeContent layer_content (Type-F.Set (Some t))

pub record_says : (attrs : List (List ℕ × («Type» × Bool))) (more : Bool)
    → type_content (built.Record attrs more) ≡ said.Rec (attributes_content attrs) more
record_says attrs more = ap type_content (sym (built.rolls-Record attrs more))
    ∙ fold-roll-Type TypeContent layer_content (Type-F.Record attrs more)

pub entity_says : (names : List Name) → type_content (built.Entity names) ≡ said.Entity (names_content names)
entity_says names = ap type_content (sym (built.rolls-Entity names))
    ∙ fold-roll-Type TypeContent layer_content (Type-F.Entity names)

pub extension_says : (name : UnreservedId) → type_content (built.Extension name) ≡ said.Ext name.id.text
extension_says name = ap type_content (sym (built.rolls-Extension name))
    ∙ fold-roll-Type TypeContent layer_content (Type-F.Extension name)

mutual
  pub built_says : (p : PlainType) (t : «Type») → IsBuilt p t → type_content t ≡ as_built p
  built_says plain.Bool t b = ap type_content b ∙ any_bool_says
  built_says plain.Long t b = ap type_content b ∙ long_says
  built_says plain.String t b = ap type_content b ∙ string_says
  built_says (plain.Set p) t b = ap type_content b.1 ∙ set_says b.0 ∙ ap said.Set (built_says p b.0 b.2)
  built_says (plain.Rec ps) t b = ap type_content b.1 ∙ record_says b.0 false
      ∙ ap (λ a. said.Rec a false) (built_say ps b.0 b.2)
  built_says (plain.Entity n) t b = ap type_content b.1 ∙ entity_says (b.0 ∷ [])
      ∙ ap (λ m. said.Entity (m ∷ [])) b.2
  built_says (plain.Ext w) t b = ap type_content b.1 ∙ extension_says b.0 ∙ ap said.Ext b.2

  pub built_say : (ps : Attributes) (attrs : List (List ℕ × («Type» × Bool))) → AreBuilt ps attrs
      → attributes_content attrs ≡ attributes_as_built ps
  built_say no_more attrs b = ap attributes_content b
  built_say (attribute name required p ps) attrs b = ap attributes_content b.2
      ∙ ap (λ t. first name required t (attributes_content b.1)) (built_says p b.0 b.3)
      ∙ ap (first name required (as_built p)) (built_say ps b.1 b.4)
