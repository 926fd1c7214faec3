-- A common type that reaches itself by references: the error names the least.
use Rattle.std.specs.Prelude.{◌≡◌, false, Contains}
use Rattle.std.specs.Map.{keys_of}
use Rattle.std.specs.Ordering.{is_lt}
use Rattle.cedar_identifiers.specs.Names.{components_of}
use Rattle.cedar_identifiers.specs.declared.internal_name.InternalName.{InternalName}
use Rattle.cedar_identifiers.specs.declared.name_text.NameText as named
use Rattle.cedar_identifiers.specs.declared.raw_name.RawName.{RawName}
use Rattle.cedar_names.specs.Orders.{names_in_order}
use Rattle.cedar_names.specs.declared.extension_table.ExtensionTable.{ExtensionTable}
use Rattle.schema_json.specs.declared.fragment.Fragment.{Fragment}
use Rattle.schema_build_errors.specs.declared.schema_error.SchemaError.{SchemaError}
use Rattle.schema_build_errors.specs.declared.schema_error.SchemaError.TheVariants.{CycleInCommonTypeReferences}
use Rattle.schema_build_expand.specs.Scope.{Scope}
use Rattle.schema_build_scope.specs.Commons.{declared_commons}
use Rattle.schema_build_scope.specs.FragmentScope.{fragment_scope}
use Rattle.schema_build_scope.specs.TypeReaches.{TypeReaches}

module _ {N : Type 0} where
  -- the common type of this name reaches itself
  abbrev pub ReachesItself : Scope N → InternalName → Type 0
  ReachesItself s name = TypeReaches s (components_of name) (components_of name)

module _ {G : named.Ghosts RawName} where
  -- the name is that of a declared common type, at the place of its declaration; it reaches itself, and no lesser does
  pub record IsLeastRoundName (f : Fragment RawName G) (table : ExtensionTable) (name : InternalName) : Type 0 where
    pub declared : Contains (keys_of (declared_commons f)) name
    pub round : ReachesItself (fragment_scope f table) name
    pub least : (other : InternalName) → ReachesItself (fragment_scope f table) other
        → is_lt (names_in_order other name) ≡ false

  -- a common type reaches itself by references: the error names the least
  abbrev pub HasCommonCycle : Fragment RawName G → ExtensionTable → SchemaError → Type 0
  HasCommonCycle f table (CycleInCommonTypeReferences e) = IsLeastRoundName f table e.ty
  HasCommonCycle f table _ = ⊥
