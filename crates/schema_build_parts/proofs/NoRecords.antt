-- Where each shape is a record, the row on shapes does not hold; and so of contexts.
use Rattle.cedar_identifiers.specs.declared.name_text.NameText as named
use Rattle.cedar_identifiers.specs.declared.raw_name.RawName.{RawName}
use Rattle.cedar_names.specs.declared.extension_table.ExtensionTable.{ExtensionTable}
use Rattle.schema_json.specs.declared.fragment.Fragment.{Fragment}
use Rattle.schema_build_errors.specs.declared.schema_error.SchemaError.TheVariants as error
use Rattle.schema_build_errors.specs.declared.shape_errors.ContextOrShape.{ContextOrShape}
use Rattle.schema_build_errors.specs.declared.shape_errors.ContextOrShape.TheVariants.{ActionContext, EntityTypeShape}
use Rattle.schema_build_checks.specs.Rows.{Never}
use Rattle.schema_build_expand.specs.Scope.{Scope}
use Rattle.schema_build_scope.specs.FragmentScope.{fragment_scope}
use Rattle.schema_build_items.specs.NoRecord.{AreShapesRecords, IsLeastShape, HasNoRecordShape}
use Rattle.schema_build_items.specs.NoRecord.{AreContextsRecords, IsLeastContext, HasNoRecordContext}

module _ {G : named.Ghosts RawName} where
  no_least_shape : (s : Scope RawName) (f : Fragment RawName G) (x : ContextOrShape) → AreShapesRecords s f
      → IsLeastShape s f x → ⊥
  no_least_shape s f (EntityTypeShape name) all h = all h.0 h.2.among h.2.passes_too
  no_least_shape s f (ActionContext uid) all h = h

  no_least_context : (s : Scope RawName) (f : Fragment RawName G) (x : ContextOrShape) → AreContextsRecords s f
      → IsLeastContext s f x → ⊥
  no_least_context s f (EntityTypeShape name) all h = h
  no_least_context s f (ActionContext uid) all h = all h.0 h.2.among h.2.passes_too

  pub no_shape : (f : Fragment RawName G) (table : ExtensionTable) → AreShapesRecords (fragment_scope f table) f
      → Never (HasNoRecordShape f table)
  no_shape f table all (error.ContextOrShapeNotRecord e) h =
      no_least_shape (fragment_scope f table) f e.ctx_or_shape all h
  no_shape f table all _ h = absurd h

  pub no_context : (f : Fragment RawName G) (table : ExtensionTable) → AreContextsRecords (fragment_scope f table) f
      → Never (HasNoRecordContext f table)
  no_context f table all (error.ContextOrShapeNotRecord e) h =
      no_least_context (fragment_scope f table) f e.ctx_or_shape all h
  no_context f table all _ h = absurd h
