-- Where each reference to a type means something, each parent of a declared entity type means an entity type.
use Rattle.std.proofs.Common.{◌≡◌, All, Contains, Option, refl, subst}
use Rattle.std.proofs.lemmas.List.Elements.{All-nil}
use Rattle.cedar_data.proofs.Lists.{all_of, contains_flat, contains_unmap}
use Rattle.cedar_identifiers.specs.declared.name.Name.{Name}
use Rattle.cedar_identifiers.specs.declared.name_text.NameText as named
use Rattle.cedar_identifiers.specs.declared.raw_name.RawName.{RawName}
use Rattle.cedar_identifiers.specs.declared.unreserved_id.UnreservedId.{UnreservedId}
use Rattle.cedar_names.specs.declared.extension_table.ExtensionTable.{ExtensionTable}
use Rattle.schema_json.specs.declared.entity_type.EntityType.{EntityType}
use Rattle.schema_json.specs.declared.entity_type.EntityTypeKind.{EntityTypeKind}
use Rattle.schema_json.specs.declared.entity_type.EntityTypeKind.TheVariants.{Standard, Enum}
use Rattle.schema_json.specs.declared.fragment.Fragment.{Fragment}
use Rattle.schema_json.specs.declared.fragment.NamespaceDefinition.{NamespaceDefinition}
use Rattle.schema_resolve_definitions.specs.Defined.{defined}
use Rattle.schema_resolve_definitions.specs.Tests.{Tests, tests_of}
use Rattle.schema_build_scope.specs.Parts.{IsAllKnown}
use Rattle.schema_build_scope.proofs.Known.{parents_meant}
use Rattle.schema_build_hierarchy.specs.Declarations.{entity_in, entities_of, declared_entities}
use Rattle.schema_build_hierarchy.specs.Parents.{AreMeantIn, AreParentsMeant, written_parents}

module _ {G : named.Ghosts RawName} (f : Fragment RawName G) (table : ExtensionTable) (known : IsAllKnown f table) where
  abbrev t : Tests
  t = tests_of (defined f table)

  of_declared : (e : Option Name × NamespaceDefinition RawName G) (x : UnreservedId × EntityType RawName)
      → Contains f.0 e → Contains e.1.entity_types x → AreParentsMeant t (entity_in e.0 x)
  of_declared e x in_f in_n = go x.1.kind refl
    where
      go : (k : EntityTypeKind RawName) → x.1.kind ≡ k → AreMeantIn t e.0 (written_parents k)
      go (Standard s) is = parents_meant f table known e.0 e.1 x s in_f in_n is
      go (Enum choices) is = All-nil _

  pub all_parents_meant : All (AreParentsMeant t) (declared_entities f)
  all_parents_meant = all_of (AreParentsMeant t) (declared_entities f) (λ d there.
      let (e, in_f, of) = contains_flat entities_of f.0 d there in
      let (x, in_n, same) = contains_unmap (entity_in e.0) e.1.entity_types d of in
      subst (AreParentsMeant t) same (of_declared e x in_f in_n))
