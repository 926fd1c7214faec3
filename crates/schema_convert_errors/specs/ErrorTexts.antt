-- What the faults of translation say.
use Rattle.std.specs.Prelude.{ℕ, List, [], ◌∷◌, ◌++◌, codes}
use Rattle.schema_syntax_tree.specs.Words.{pr_text}
use Rattle.schema_syntax_tree.specs.declared.pr.PR.{PR}
use Rattle.schema_syntax_errors.specs.FaultTexts.{first_error_text}
use Rattle.schema_convert_errors.specs.declared.errors.DuplicateDeclarations.{DuplicateDeclarations}
use Rattle.schema_convert_errors.specs.declared.errors.DuplicateContext.{DuplicateContext}
use Rattle.schema_convert_errors.specs.declared.errors.DuplicatePrincipalOrResource.{DuplicatePrincipalOrResource}
use Rattle.schema_convert_errors.specs.declared.errors.MissingOrEmpty.{MissingOrEmpty}
use Rattle.schema_convert_errors.specs.declared.errors.MissingOrEmpty.TheVariants.{Missing, Empty}
use Rattle.schema_convert_errors.specs.declared.errors.NoPrincipalOrResource.{NoPrincipalOrResource}
use Rattle.schema_convert_errors.specs.declared.errors.DuplicateNamespace.{DuplicateNamespace}
use Rattle.schema_convert_errors.specs.declared.errors.UnknownTypeName.{UnknownTypeName}
use Rattle.schema_convert_errors.specs.declared.errors.ReservedName.{ReservedName}
use Rattle.schema_convert_errors.specs.declared.errors.ReservedSchemaKeyword.{ReservedSchemaKeyword}
use Rattle.schema_convert_errors.specs.declared.errors.ToJsonSchemaError.{ToJsonSchemaError}
use Rattle.schema_convert_errors.specs.declared.errors.ToJsonSchemaError.TheVariants as fault
use Rattle.schema_convert_errors.specs.declared.error_list.ToJsonSchemaFailure.{ToJsonSchemaFailure}
use Rattle.schema_convert_errors.specs.declared.error_list.ToJsonSchemaFailure.TheVariants as failure
use Rattle.schema_convert_errors.specs.declared.error_list.CedarSchemaParseErrors.{CedarSchemaParseErrors}
use Rattle.schema_convert_errors.specs.declared.error_list.CedarSchemaParseErrors.TheVariants.{SyntaxError, JsonError}
use Rattle.schema_convert_errors.specs.declared.error_list.CedarSchemaParseErrors.TheVariants.{Memory}

-- a word in backquotes, between two wordings
abbrev pub naming : List ℕ → List ℕ → List ℕ → List ℕ
naming before name after = before ++ (codes "`" ++ (name ++ (codes "`" ++ after)))

-- what is said of a name that is declared twice
abbrev pub declared_twice_text : DuplicateDeclarations → List ℕ
declared_twice_text e = naming [] e.decl (codes " is declared twice")

-- what is said of a second context
abbrev pub second_context_text : DuplicateContext → List ℕ
second_context_text e = naming (codes "duplicate context declaration in action ") e.name []

-- what is said of a second list of an action's principals or resources
abbrev pub second_text : PR → List ℕ → List ℕ
second_text kind action = naming
    (naming (codes "duplicate ") (pr_text kind) (codes " declaration in action ")) action []

abbrev pub second_targets_text : DuplicatePrincipalOrResource → List ℕ
second_targets_text e = second_text e.kind e.name

-- what is said of an action whose list of principals or of resources is not there, or is empty
abbrev pub absent_text : PR → List ℕ → List ℕ
absent_text kind action = naming (naming (codes "missing ") (pr_text kind) (codes " declaration for ")) action []

abbrev pub empty_text : PR → List ℕ → List ℕ
empty_text kind action =
    naming (codes "for action ") action (naming (codes ", ") (pr_text kind) (codes " is `[]`, which is invalid"))

abbrev pub missing_text : MissingOrEmpty → PR → List ℕ → List ℕ
missing_text Missing kind action = absent_text kind action
missing_text (Empty loc) kind action = empty_text kind action

-- what is said of an action without principals or without resources
abbrev pub no_targets_text : NoPrincipalOrResource → List ℕ
no_targets_text e = missing_text e.missing_or_empty e.kind e.name

-- what is said of a namespace that stood before
abbrev pub namespace_twice_text : DuplicateNamespace → List ℕ
namespace_twice_text e = naming (codes "duplicate namespace id: ") e.namespace_id []

-- what is said of a type's name that means nothing
abbrev pub unknown_name_text : UnknownTypeName → List ℕ
unknown_name_text e = naming (codes "unknown type name: ") e.name []

-- what is said of a declared name with `__cedar` in it
abbrev pub reserved_name_text : ReservedName → List ℕ
reserved_name_text e = codes "use of the reserved `__cedar` namespace"

-- what is said of a common type that is named by a keyword
abbrev pub keyword_text : ReservedSchemaKeyword → List ℕ
keyword_text e = naming (codes "this uses a reserved schema keyword: ") e.keyword []

-- what a fault of translation says
abbrev pub translation_fault_text : ToJsonSchemaError → List ℕ
translation_fault_text (fault.DuplicateDeclarations e) = declared_twice_text e
translation_fault_text (fault.DuplicateContext e) = second_context_text e
translation_fault_text (fault.DuplicatePrincipalOrResource e) = second_targets_text e
translation_fault_text (fault.NoPrincipalOrResource e) = no_targets_text e
translation_fault_text (fault.DuplicateNamespaces e) = namespace_twice_text e
translation_fault_text (fault.UnknownTypeName e) = unknown_name_text e
translation_fault_text (fault.ReservedName e) = reserved_name_text e
translation_fault_text (fault.ReservedSchemaKeyword e) = keyword_text e

-- what the first of the faults of translation says
abbrev pub first_fault_text : List ToJsonSchemaError → List ℕ
first_fault_text [] = []
first_fault_text (first ∷ others) = translation_fault_text first

-- what is said where a tree is no fragment
abbrev pub failure_text : ToJsonSchemaFailure → List ℕ
failure_text (failure.Errors e) = first_fault_text e.errors
failure_text failure.Memory = codes "out of memory"

-- what is said where a text is no fragment
abbrev pub text_failure_text : CedarSchemaParseErrors → List ℕ
text_failure_text (SyntaxError e) = first_error_text e.errors
text_failure_text (JsonError e) = first_fault_text e.errors
text_failure_text Memory = codes "out of memory"
