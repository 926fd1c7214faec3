-- What the faults of translation advise, and where they point to.
use Rattle.std.specs.Prelude.{ℕ, List, [], ◌∷◌, ◌++◌, Option, Some, None, codes}
use Rattle.cedar_data.specs.Span.{Span}
use Rattle.cedar_data.specs.declared.label.Label.{Label}
use Rattle.schema_syntax_tree.specs.Words.{pr_text}
use Rattle.schema_syntax_tree.specs.declared.pr.PR.{PR}
use Rattle.schema_syntax_errors.specs.FaultHelps.{first_error_help}
use Rattle.schema_syntax_errors.specs.FaultLabels.{unnamed_label, first_error_labels}
use Rattle.schema_convert_errors.specs.ErrorTexts.{naming}
use Rattle.schema_convert_errors.specs.declared.errors.MissingOrEmpty.{MissingOrEmpty}
use Rattle.schema_convert_errors.specs.declared.errors.MissingOrEmpty.TheVariants.{Missing, Empty}
use Rattle.schema_convert_errors.specs.declared.errors.ToJsonSchemaError.{ToJsonSchemaError}
use Rattle.schema_convert_errors.specs.declared.errors.ToJsonSchemaError.TheVariants as fault
use Rattle.schema_convert_errors.specs.declared.error_list.ToJsonSchemaFailure.{ToJsonSchemaFailure}
use Rattle.schema_convert_errors.specs.declared.error_list.ToJsonSchemaFailure.TheVariants as failure
use Rattle.schema_convert_errors.specs.declared.error_list.CedarSchemaParseErrors.{CedarSchemaParseErrors}
use Rattle.schema_convert_errors.specs.declared.error_list.CedarSchemaParseErrors.TheVariants.{SyntaxError, JsonError}
use Rattle.schema_convert_errors.specs.declared.error_list.CedarSchemaParseErrors.TheVariants.{Memory}

-- how two contexts are mended
abbrev pub second_context_help : List ℕ
second_context_help = codes "Try either deleting one of the declarations, or merging into a single declaration"

-- how a second list of principals or of resources is mended
abbrev pub second_targets_help : PR → List ℕ
second_targets_help kind =
    codes "Actions may only have a single "
    ++ (pr_text kind ++ (codes " declaration, but a " ++ (pr_text kind
    ++ (codes " declaration may specify a list of entity types like `" ++ (pr_text kind ++ codes ": [X, Y, Z]`")))))

-- what every action must have
abbrev pub no_targets_help : List ℕ
no_targets_help =
    codes "Every action must define both `principal` and `resource` targets, and the `principal` and `resource` lists must not be `[]`."

-- what a name may be that means nothing
abbrev pub unknown_name_help : List ℕ → List ℕ
unknown_name_help name = naming (codes "Did you mean to define ") name (codes " as an entity type or common type?")

-- which names are reserved
abbrev pub reserved_name_help : List ℕ
reserved_name_help =
    codes "Names containing `__cedar` (for example: `__cedar::A`, `A::__cedar`, or `A::__cedar::B`) are reserved"

-- which words name no common type
abbrev pub keyword_help : List ℕ
keyword_help = codes "Keywords such as `entity`, `extension`, `set` and `record` cannot be used as common type names"

-- the advice of a fault of translation, if it gives any
abbrev pub translation_fault_help : ToJsonSchemaError → Option (List ℕ)
translation_fault_help (fault.DuplicateDeclarations e) = None
translation_fault_help (fault.DuplicateContext e) = Some second_context_help
translation_fault_help (fault.DuplicatePrincipalOrResource e) = Some (second_targets_help e.kind)
translation_fault_help (fault.NoPrincipalOrResource e) = Some no_targets_help
translation_fault_help (fault.DuplicateNamespaces e) = None
translation_fault_help (fault.UnknownTypeName e) = Some (unknown_name_help e.name)
translation_fault_help (fault.ReservedName e) = Some reserved_name_help
translation_fault_help (fault.ReservedSchemaKeyword e) = Some keyword_help

-- a label that says this, where there is a place
abbrev pub saying_label : List ℕ → Option Span → List Label
saying_label text None = []
saying_label text (Some span) = record { span = span; text = Some text } ∷ []

-- the place of an action's name, and that of its empty list
abbrev pub missing_labels : MissingOrEmpty → Option Span → List Label
missing_labels Missing name = unnamed_label name
missing_labels (Empty loc) name =
    saying_label (codes "for this action") name ++ saying_label (codes "must not be `[]`") loc

-- the places that a fault of translation points to, with what it says there
abbrev pub translation_fault_labels : ToJsonSchemaError → List Label
translation_fault_labels (fault.DuplicateDeclarations e) = unnamed_label e.loc1 ++ unnamed_label e.loc2
translation_fault_labels (fault.DuplicateContext e) = unnamed_label e.loc1 ++ unnamed_label e.loc2
translation_fault_labels (fault.DuplicatePrincipalOrResource e) = unnamed_label e.loc1 ++ unnamed_label e.loc2
translation_fault_labels (fault.NoPrincipalOrResource e) = missing_labels e.missing_or_empty e.name_loc
translation_fault_labels (fault.DuplicateNamespaces e) = unnamed_label e.loc1 ++ unnamed_label e.loc2
translation_fault_labels (fault.UnknownTypeName e) = unnamed_label e.loc
translation_fault_labels (fault.ReservedName e) = unnamed_label e.loc
translation_fault_labels (fault.ReservedSchemaKeyword e) = unnamed_label e.loc

-- the advice of the first of the faults of translation
abbrev pub first_fault_help : List ToJsonSchemaError → Option (List ℕ)
first_fault_help [] = None
first_fault_help (first ∷ others) = translation_fault_help first

-- where the first of the faults of translation points to
abbrev pub first_fault_labels : List ToJsonSchemaError → List Label
first_fault_labels [] = []
first_fault_labels (first ∷ others) = translation_fault_labels first

-- the advice where a tree is no fragment
abbrev pub failure_help : ToJsonSchemaFailure → Option (List ℕ)
failure_help (failure.Errors e) = first_fault_help e.errors
failure_help failure.Memory = None

-- the places that are pointed to where a tree is no fragment
abbrev pub failure_labels : ToJsonSchemaFailure → List Label
failure_labels (failure.Errors e) = first_fault_labels e.errors
failure_labels failure.Memory = []

-- the advice where a text is no fragment
abbrev pub text_failure_help : CedarSchemaParseErrors → List ℕ → Option (List ℕ)
text_failure_help (SyntaxError e) source = first_error_help e.errors source
text_failure_help (JsonError e) source = first_fault_help e.errors
text_failure_help Memory source = None

-- the places that are pointed to where a text is no fragment
abbrev pub text_failure_labels : CedarSchemaParseErrors → List Label
text_failure_labels (SyntaxError e) = first_error_labels e.errors
text_failure_labels (JsonError e) = first_fault_labels e.errors
text_failure_labels Memory = []
