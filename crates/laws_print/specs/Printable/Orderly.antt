-- What a fragment has besides being printable, as each fragment in memory has it: its maps rise by their keys, and its
-- enums have a choice.
use Rattle.std.specs.Prelude.{map, Option, Some, None}
use Rattle.std.specs.List.{AllByRecursion}
use Rattle.std.specs.List.Sorted.{IsStrictlySortedBy}
use Rattle.cedar_data.specs.Text.{text_cmp}
use Rattle.cedar_identifiers.specs.declared.raw_name.RawName.{RawName}
use Rattle.schema_json.specs.declared.types.Type.{«Type»}
use Rattle.schema_json.specs.declared.entity_type.EntityTypeKind.{EntityTypeKind}
use Rattle.schema_json.specs.declared.entity_type.EntityTypeKind.TheVariants.{Standard, Enum}
use Rattle.schema_json.specs.declared.action_type.ApplySpec.{ApplySpec}
use Rattle.schema_json.specs.declared.fragment.Fragment.{Fragment}
use Rattle.schema_json.specs.declared.fragment.NamespaceDefinition.{NamespaceDefinition}
use Rattle.schema_json.specs.AsWritten.{as_written}
use Rattle.laws_written.specs.Printed.{AreProperNotes}
use Rattle.laws_written.specs.PrintedDecls.{IsSome}
use Rattle.laws_translate.specs.FragmentsSay.{namespace_order, name_components}
use Rattle.schema_print_text.specs.PrintedTypes.{printed_type}
use Rattle.laws_print.specs.Printed.Textual.{components_written, IsRisingType}

-- the attributes of each record in the type rise by their names, and the annotations of each attribute by their keys
abbrev pub IsOrderlyType : «Type» RawName → Type 0
IsOrderlyType s = IsRisingType (printed_type components_written s)

abbrev pub AreOrderlyTags : Option («Type» RawName) → Type 0
AreOrderlyTags None = Unit {0}
AreOrderlyTags (Some s) = IsOrderlyType s

-- the types of an entity type are orderly, and an enum has a choice
abbrev pub IsOrderlyKind : EntityTypeKind RawName → Type 0
IsOrderlyKind (Standard e) = IsOrderlyType e.shape.0 × AreOrderlyTags e.tags
IsOrderlyKind (Enum choices) = IsSome choices

-- the context of an action is orderly, where one is written
abbrev pub HasOrderlyContext : Option (ApplySpec RawName) → Type 0
HasOrderlyContext None = Unit {0}
HasOrderlyContext (Some spec) = IsOrderlyType spec.context.0

-- the annotations of the namespace rise by their keys, and so do those of each item; items rise by their names
pub record IsOrderlyNamespace (n : NamespaceDefinition RawName as_written) : Type 0 where
  pub notes : AreProperNotes n.annotations.0
  pub commons_rise : IsStrictlySortedBy text_cmp (map (λ e. e.0.id.id.text) n.common_types)
  pub entities_rise : IsStrictlySortedBy text_cmp (map (λ e. e.0.id.text) n.entity_types)
  pub actions_rise : IsStrictlySortedBy text_cmp (map (λ e. e.0) n.actions)
  pub commons : AllByRecursion (λ e. AreProperNotes e.1.annotations.0 × IsOrderlyType e.1.ty) n.common_types
  pub entities : AllByRecursion (λ e. AreProperNotes e.1.annotations.0 × IsOrderlyKind e.1.kind) n.entity_types
  pub actions : AllByRecursion (λ e. AreProperNotes e.1.annotations.0 × HasOrderlyContext e.1.applies_to) n.actions

-- Each map of the fragment rises by its keys: its namespaces, their items, the attributes of every record and the
-- annotations of each of these; and each enum has a choice.
pub record IsOrderly (f : Fragment RawName as_written) : Type 0 where
  pub names_rise : IsStrictlySortedBy namespace_order (map (λ e. name_components e.0) f.0)
  pub each : AllByRecursion (λ e. IsOrderlyNamespace e.1) f.0
