-- Annotations with their places, and the same of an item, where no key stands twice.
use Rattle.std.specs.Prelude.{◌≡◌, ◌≢◌, ℕ, List, ◌∷◌, ◌++◌, Option, map}
use Rattle.std.specs.List.{AllPairs}
use Rattle.std.specs.List.Sorted.{IsStrictlySortedBy, IsPermutation}
use Rattle.std.specs.Option.{option_map}
use Rattle.cedar_data.specs.Span.{Span}
use Rattle.cedar_data.specs.Text.{text_cmp}
use Rattle.cedar_data.specs.declared.node.Node.{Node}
use Rattle.cedar_identifiers.specs.declared.any_id.AnyId.{AnyId}
use Rattle.schema_syntax_errors.specs.declared.user_error.UserError.{UserError}
use Rattle.schema_syntax_errors.specs.declared.user_error.UserError.TheVariants.{DuplicateAnnotations}
use Rattle.schema_syntax_errors.specs.declared.annotation_error.AnnotationError.{AnnotationError}
use Rattle.schema_syntax_errors.specs.declared.annotation_error.AnnotationError.TheVariants.{User, Memory}
use Rattle.schema_syntax_tree.specs.declared.src_annotations.SrcAnnotation.{SrcAnnotation}
use Rattle.schema_syntax_reader.specs.Leaves.{Notes}

-- a key and the value that stands behind it, where one does
abbrev pub Placed : Type 0
Placed = Node SrcAnnotation

abbrev pub placed_key : Placed → AnyId
placed_key a = a.node.key.node

abbrev pub key_place : Placed → Option Span
key_place a = a.node.key.loc

abbrev pub value_of : Placed → Option (List ℕ)
value_of a = option_map (λ v. v.node) a.node.value

-- without the places
abbrev pub note_of : Placed → AnyId × Option (List ℕ)
note_of a = (placed_key a, value_of a)

abbrev pub HaveOtherKeys : Placed → Placed → Type 0
HaveOtherKeys a b = placed_key a ≢ placed_key b

-- no key stands twice, and the notes are the keys and values by rising keys
pub record AreKept (annotations : List Placed) (notes : Notes) : Type 0 where
  pub apart : AllPairs HaveOtherKeys annotations
  pub same : IsPermutation (map note_of annotations) notes
  pub rising : IsStrictlySortedBy text_cmp (map (λ note. note.0.text) notes)

-- the key of one annotation is that of one before it, and up to there no key stands twice
pub record IsTwice (annotations : List Placed) (fault : UserError) : Type 0 where
  pub front : List Placed
  pub old : Placed
  pub middle : List Placed
  pub new : Placed
  pub back : List Placed
  pub split : annotations ≡ (front ++ old ∷ middle) ++ new ∷ back
  pub apart : AllPairs HaveOtherKeys (front ++ old ∷ middle)
  pub again : placed_key new ≡ placed_key old
  pub told : fault ≡ DuplicateAnnotations (placed_key new) (record { node = tt; loc = key_place old })
      (record { node = tt; loc = key_place new })

-- why annotations are refused: a key stands twice, or memory is out
abbrev pub AreRefused : List Placed → AnnotationError → Type 0
AreRefused annotations Memory = Unit {0}
AreRefused annotations (User fault) = IsTwice annotations fault
