-- Which items of a built schema are captured: a type of theirs holds the type `Action` of the empty namespace, and
-- their own namespace has a name and an action, so that there the text `Action` means the type of its own actions.
use Rattle.std.specs.Prelude.{◌≡◌, ℕ, Bool, false, ◌||◌, List, [], ◌∷◌, codes, filter, Option, None, Some}
use Rattle.std.specs.Prelude.{if◌then◌else◌}
use Rattle.std.specs.List.{flat_map, list_any}
use Rattle.cedar_identifiers.specs.Names.{components_of}
use Rattle.cedar_names.specs.CanonicalText.{basename, namespace}
use Rattle.cedar_names.specs.Definitions.{same_name, among}
use Rattle.cedar_names.specs.Meaning.{SchemaMeaning}
use Rattle.schema_build_errors.specs.declared.captured.CapturedItem.{CapturedItem}
use Rattle.schema_build_errors.specs.declared.captured.CapturedItem.TheVariants as item
use Rattle.schema_build_errors.specs.declared.captured.ReferenceCaptured.{ReferenceCaptured}
use Rattle.schema_build_errors.specs.declared.recovery_error.ToTextError.{ToTextError}
use Rattle.schema_build_errors.specs.declared.recovery_error.ToTextError.TheVariants as refusal
use Rattle.schema_build_types.specs.Content.{TypeContent, AttributeContents, none, first}
use Rattle.schema_build_types.specs.Content.{SchemaContent}
use Rattle.schema_build_types.specs.Content as said
use Rattle.schema_build_types.specs.Standing.{schema_as_built}
use Rattle.schema_build_text.specs.Walk.{ItemContent, entity_type, action, namespace_of, items_in, namespaces_of}

-- the type `Action` of the empty namespace
abbrev pub plain_action : List (List ℕ)
plain_action = codes "Action" ∷ []

abbrev mutual
  -- the type holds that one
  pub holds_plain_action : TypeContent → Bool
  holds_plain_action (said.Set element) = holds_plain_action element
  holds_plain_action (said.Rec attributes more) = some_hold attributes
  holds_plain_action (said.Entity names) = among names plain_action
  holds_plain_action said.Never = false
  holds_plain_action said.AnyBool = false
  holds_plain_action said.True = false
  holds_plain_action said.False = false
  holds_plain_action said.Long = false
  holds_plain_action said.String = false
  holds_plain_action said.SetOfUnknown = false
  holds_plain_action said.AnyEntity = false
  holds_plain_action (said.Ext name) = false

  -- the type of one of the attributes holds it
  pub some_hold : AttributeContents → Bool
  some_hold none = false
  some_hold (first name required ty more) = holds_plain_action ty || some_hold more

-- the type of the tags, where there are tags, holds it
abbrev pub tags_hold : Option TypeContent → Bool
tags_hold None = false
tags_hold (Some ty) = holds_plain_action ty

-- an attribute or the tags of the entity type, or the context of the action
abbrev pub item_holds : ItemContent → Bool
item_holds (entity_type e) = some_hold e.attributes || tags_hold e.tags
item_holds (action a) = holds_plain_action a.context

-- the namespace has an action, be it external or not
abbrev pub has_action : SchemaContent → List (List ℕ) → Bool
has_action c n = list_any (λ a. same_name n (namespace a.ty)) c.actions

-- the items of a namespace that are captured
abbrev pub captured_in : SchemaContent → List (List ℕ) → List ItemContent
captured_in c [] = []
captured_in c (n ∷ ns) = if has_action c (n ∷ ns) then filter item_holds (items_in c (n ∷ ns)) else []

-- all that are captured, in the order of the walk
abbrev pub captured_items : SchemaContent → List ItemContent
captured_items c = flat_map (captured_in c) (namespaces_of c)

-- nothing of what the meaning has is captured
abbrev pub IsUncaptured : SchemaMeaning → Type 0
IsUncaptured m = captured_items (schema_as_built m) ≡ []

-- the first of the items, where there is one
abbrev pub first_item : List ItemContent → Option ItemContent
first_item [] = None
first_item (x ∷ others) = Some x

-- this is the last word of the entity type's name, or the id of the action
abbrev pub IsCapturedItem : ItemContent → CapturedItem → Type 0
IsCapturedItem (entity_type e) (item.EntityType word) = word.id.text ≡ basename e.name
IsCapturedItem (entity_type e) (item.Action id) = ⊥
IsCapturedItem (action a) (item.EntityType word) = ⊥
IsCapturedItem (action a) (item.Action id) = id ≡ a.id

-- the error names the namespace of the item, and the item
abbrev pub IsAbout : ItemContent → ReferenceCaptured → Type 0
IsAbout x captured = (components_of captured.namespace.name ≡ namespace_of x) × IsCapturedItem x captured.item

-- the error is about the first of the items, of which there is one
abbrev pub IsFirstOf : List ItemContent → ReferenceCaptured → Type 0
IsFirstOf [] captured = ⊥
IsFirstOf (x ∷ others) captured = IsAbout x captured

-- the error is about the first of what the meaning has that is captured
abbrev pub IsFirstCaptured : SchemaMeaning → ReferenceCaptured → Type 0
IsFirstCaptured m captured = IsFirstOf (captured_items (schema_as_built m)) captured

-- why a schema that stands for the meaning has no text: something is captured, or memory is out
abbrev pub IsTextRefusal : SchemaMeaning → ToTextError → Type 0
IsTextRefusal m (refusal.Recovery e) = ⊥
IsTextRefusal m (refusal.Captured captured) = IsFirstCaptured m captured
IsTextRefusal m refusal.Memory = Unit {0}
