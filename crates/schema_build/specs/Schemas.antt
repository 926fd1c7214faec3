-- What a built schema holds, and what it stands for.
use Rattle.std.specs.Prelude.{List}
use Rattle.cedar_identifiers.specs.declared.name.Name.{Name}
use Rattle.cedar_identifiers.specs.declared.name_text.NameText as named
use Rattle.cedar_identifiers.specs.declared.raw_name.RawName.{RawName}
use Rattle.cedar_names.specs.Meaning.{SchemaMeaning}
use Rattle.cedar_names.specs.declared.entity_uid.EntityUID.{EntityUID}
use Rattle.cedar_names.specs.declared.extension_table.ExtensionTable.{ExtensionTable}
use Rattle.schema_json.specs.declared.fragment.Fragment.{Fragment}
use Rattle.schema_build_types.specs.Standing.{SchemaStandsFor}
use Rattle.schema_build_types.specs.declared.action.ValidatorActionId.{ValidatorActionId}
use Rattle.schema_build_types.specs.declared.entity_type.ValidatorEntityType.{ValidatorEntityType}
use Rattle.schema_build.specs.Meaning.{FragmentMeaning}

-- the entity types by name, and the actions by type and id
pub record SchemaLists : Type 0 where
  pub entity_types : List (Name × ValidatorEntityType)
  pub actions : List (EntityUID × ValidatorActionId)

-- the schema says what the meaning says
abbrev pub StandsFor : SchemaLists → SchemaMeaning → Type 0
StandsFor s m = SchemaStandsFor s.entity_types s.actions m

module _ {G : named.Ghosts RawName} where
  -- the schema stands for the meaning of the fragment
  abbrev pub Builds : Fragment RawName G → ExtensionTable → SchemaLists → Type 0
  Builds f table s = (m : SchemaMeaning) × FragmentMeaning f table m × StandsFor s m
