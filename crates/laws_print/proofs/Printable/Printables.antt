-- A printable fragment that is orderly is textual.
use Rattle.std.proofs.Common.{◌≡◌, Bool, true, false, List, [], ◌∷◌, ◌++◌, Option, Some, None, refl}
use Rattle.std.specs.List.{AllByRecursion}
use Rattle.cedar_data.proofs.Every.{All-weaker}
use Rattle.cedar_data.proofs.Every.{all_front, all_back}
use Rattle.cedar_identifiers.specs.declared.annotations.Annotations.{Annotations}
use Rattle.cedar_identifiers.specs.declared.name.Name.{Name}
use Rattle.cedar_identifiers.specs.declared.raw_name.RawName.{RawName}
use Rattle.cedar_names.specs.declared.extension_table.ExtensionTable.{ExtensionTable}
use Rattle.schema_json.specs.declared.fragment.Fragment.{Fragment}
use Rattle.schema_json.specs.AsWritten.{as_written}
use Rattle.laws_written.specs.Printed.{AreProperNotes}
use Rattle.schema_json_walk.specs.Parts.{Part}
use Rattle.schema_json_walk.specs.Walk.{itself, each_value, of_common, of_entity, of_action, of_namespace}
use Rattle.schema_print.specs.Printable.{IsClosedPart, IsBare, IsWithoutAttributes, is_annotated_where_named}
use Rattle.schema_print.specs.Printable.{IsPrintable}
use Rattle.laws_print.specs.Printed.CedarForm.{Block}
use Rattle.laws_print.specs.Printed.Textual.{IsAnnotatedWhereNamed, IsTextualBlock, IsTextualFragment}
use Rattle.laws_print.specs.Printable.Orderly.{IsOrderlyType, IsOrderlyKind, HasOrderlyContext, IsOrderlyNamespace}
use Rattle.laws_print.specs.Printable.Orderly.{IsOrderly}
use Rattle.laws_print.proofs.Printable.Blocks.{IsPrintableBlock, printable_blocks}
use Rattle.laws_print.proofs.Printable.TextualItems.{commons_textual, entities_textual, actions_textual}

abbrev is_empty : {A : Type 0} → List A → Bool
is_empty [] = true
is_empty (x ∷ xs) = false

none_there : {A : Type 0} (xs : List A) → is_empty xs ≡ true → xs ≡ []
none_there [] h = refl
none_there (x ∷ xs) h = absurd (cc)

annotated_textual : (ns : Option Name) (notes : Annotations) → is_annotated_where_named ns notes ≡ true
    → IsAnnotatedWhereNamed ns notes
annotated_textual (Some name) notes h = tt
annotated_textual None notes h = none_there notes.0 h

-- the parts of the common types, of the entity types and of the actions
module _ (P : Part RawName → Type 0) (e : Block) (h : AllByRecursion P (of_namespace itself e.1)) where
  abbrev commons : List (Part RawName)
  commons = each_value (of_common itself) e.1.common_types

  abbrev entities : List (Part RawName)
  entities = each_value (of_entity itself) e.1.entity_types

  abbrev actions : List (Part RawName)
  actions = each_value (of_action itself) e.1.actions

  in_commons : AllByRecursion P commons
  in_commons = all_front P commons (entities ++ actions) h

  in_entities : AllByRecursion P entities
  in_entities = all_front P entities actions (all_back P commons (entities ++ actions) h)

  in_actions : AllByRecursion P actions
  in_actions = all_back P entities actions (all_back P commons (entities ++ actions) h)

namespace_textual : (e : Block) → IsPrintableBlock e → IsOrderlyNamespace e.1 → IsTextualBlock e
namespace_textual e p o = record {
  annotated = annotated_textual e.0 e.1.annotations p.annotated;
  keys_rise = o.notes;
  commons_rise = o.commons_rise;
  entities_rise = o.entities_rise;
  actions_rise = o.actions_rise;
  commons_open = p.words;
  common_notes = All-weaker (λ c. AreProperNotes c.1.annotations.0 × IsOrderlyType c.1.ty)
      (λ c. AreProperNotes c.1.annotations.0) (λ c h. h.0) e.1.common_types o.commons;
  entity_notes = All-weaker (λ d. AreProperNotes d.1.annotations.0 × IsOrderlyKind d.1.kind)
      (λ d. AreProperNotes d.1.annotations.0) (λ d h. h.0) e.1.entity_types o.entities;
  action_notes = All-weaker (λ a. AreProperNotes a.1.annotations.0 × HasOrderlyContext a.1.applies_to)
      (λ a. AreProperNotes a.1.annotations.0) (λ a h. h.0) e.1.actions o.actions;
  commons = commons_textual e.1.common_types (in_commons IsClosedPart e p.closed) o.commons;
  entities = entities_textual e.1.entity_types (in_entities IsClosedPart e p.closed) (in_entities IsBare e p.bare)
      o.entities;
  actions = actions_textual e.1.actions (in_actions IsClosedPart e p.closed) (in_actions IsBare e p.bare)
      (in_actions IsWithoutAttributes e p.without) p.contexts p.targets o.actions;
}

namespaces_textual : (es : List Block) → AllByRecursion IsPrintableBlock es
    → AllByRecursion (λ e. IsOrderlyNamespace e.1) es → AllByRecursion IsTextualBlock es
namespaces_textual [] p o = tt
namespaces_textual (e ∷ es) (p, ps) (o, os) = (namespace_textual e p o, namespaces_textual es ps os)

pub printable_textual : (f : Fragment RawName as_written) (table : ExtensionTable) → IsPrintable f table → IsOrderly f
    → IsTextualFragment f
printable_textual f table p o =
    record { names_rise = o.names_rise; each = namespaces_textual f.0 (printable_blocks f table p) o.each }
