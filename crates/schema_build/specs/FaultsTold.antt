-- What is told of a fault of building, and fragments of which that is one.
use Rattle.std.specs.Prelude.{◌≡◌, All}
use Rattle.std.specs.List.Sorted.{IsStrictlySortedBy}
use Rattle.std.specs.Map.{keys_of}
use Rattle.std.specs.Option.{option_cmp}
use Rattle.cedar_data.specs.Text.{text_cmp}
use Rattle.cedar_identifiers.specs.declared.name.Name.{Name}
use Rattle.cedar_identifiers.specs.declared.name_text.NameText as named
use Rattle.cedar_identifiers.specs.declared.raw_name.RawName.{RawName}
use Rattle.cedar_names.specs.Orders.{names_in_order}
use Rattle.schema_json.specs.declared.fragment.Fragment.{Fragment}
use Rattle.schema_build_errors.specs.SchemaErrorTexts.{schema_error_text, schema_error_help, schema_error_labels}
use Rattle.schema_build_errors.specs.declared.schema_error.SchemaError.{SchemaError}

-- both errors are told alike: what they say, what they advise, and where they point to
pub record AreToldAlike (e other : SchemaError) : Type 0 where
  pub text : schema_error_text e ≡ schema_error_text other
  pub help : schema_error_help e ≡ schema_error_help other
  pub labels : schema_error_labels e ≡ schema_error_labels other

module _ {G : named.Ghosts RawName} where
  -- the namespaces, and what each of them declares, stand in the order of their names
  pub record IsInOrder (f : Fragment RawName G) : Type 0 where
    pub namespaces : IsStrictlySortedBy (option_cmp (λ (x y : Name). names_in_order x.name y.name)) (keys_of f.0)
    pub commons : All (λ e. IsStrictlySortedBy (λ x y. text_cmp x.id.id.text y.id.id.text) (keys_of e.1.common_types))
        f.0
    pub entities : All (λ e. IsStrictlySortedBy (λ x y. text_cmp x.id.text y.id.text) (keys_of e.1.entity_types)) f.0
    pub actions : All (λ e. IsStrictlySortedBy text_cmp (keys_of e.1.actions)) f.0
