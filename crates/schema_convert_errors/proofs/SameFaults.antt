-- Faults and warnings are equal exactly where they are the same, places included.
use Rattle.std.proofs.Common.{◌≡◌, ℕ, Bool, true, ◌&&◌, List, Option, refl, ap}
use Rattle.std.specs.Cmp.{first_so, second_so}
use Rattle.std.proofs.lemmas.Bool.{and_from}
use denote.Enum.Bare.{sameb, same_true, true_same}
use Rattle.cedar_data.specs.Span.{Span}
use Rattle.schema_syntax_tree.specs.declared.pr.PR.{PR as Role}
use Rattle.schema_syntax_tree.specs.contracts.pr.PR.{the_type}
use Rattle.schema_syntax_errors.specs.SameFaults.{texts_agree, places_agree, texts_sound, texts_themselves}
use Rattle.schema_syntax_errors.specs.SameFaults.{places_sound, places_themselves, items_sound, items_themselves}
use Rattle.schema_convert_errors.specs.declared.errors.DuplicateContext.{DuplicateContext}
use Rattle.schema_convert_errors.specs.declared.errors.DuplicateDeclarations.{DuplicateDeclarations}
use Rattle.schema_convert_errors.specs.declared.errors.DuplicateNamespace.{DuplicateNamespace}
use Rattle.schema_convert_errors.specs.declared.errors.DuplicatePrincipalOrResource.{DuplicatePrincipalOrResource}
use Rattle.schema_convert_errors.specs.declared.errors.MissingOrEmpty.{MissingOrEmpty}
use Rattle.schema_convert_errors.specs.declared.errors.MissingOrEmpty.TheVariants.{Missing, Empty}
use Rattle.schema_convert_errors.specs.declared.errors.NoPrincipalOrResource.{NoPrincipalOrResource}
use Rattle.schema_convert_errors.specs.declared.errors.ReservedName.{ReservedName}
use Rattle.schema_convert_errors.specs.declared.errors.ReservedSchemaKeyword.{ReservedSchemaKeyword}
use Rattle.schema_convert_errors.specs.declared.errors.ToJsonSchemaError.{ToJsonSchemaError}
use Rattle.schema_convert_errors.specs.declared.errors.ToJsonSchemaError.TheVariants as fault
use Rattle.schema_convert_errors.specs.declared.errors.UnknownTypeName.{UnknownTypeName}
use Rattle.schema_convert_errors.specs.declared.error_list.ToJsonSchemaErrors.{ToJsonSchemaErrors}
use Rattle.schema_convert_errors.specs.declared.error_list.ToJsonSchemaFailure.{ToJsonSchemaFailure}
use Rattle.schema_convert_errors.specs.declared.error_list.ToJsonSchemaFailure.TheVariants as failure
use Rattle.schema_convert_errors.specs.declared.warnings.SchemaWarning.{SchemaWarning}
use Rattle.schema_convert_errors.specs.declared.warnings.SchemaWarning.TheVariants as warning
use Rattle.schema_convert_errors.specs.declared.warnings.ShadowsBuiltinWarning.{ShadowsBuiltinWarning}
use Rattle.schema_convert_errors.specs.declared.warnings.ShadowsEntityWarning.{ShadowsEntityWarning}
use Rattle.schema_convert_errors.specs.contracts.errors.DuplicateContextPartialEq.TheImpl as context_eq
use Rattle.schema_convert_errors.specs.contracts.errors.DuplicateDeclarationsPartialEq.TheImpl as declarations_eq
use Rattle.schema_convert_errors.specs.contracts.errors.DuplicateNamespacePartialEq.TheImpl as namespace_eq
use Rattle.schema_convert_errors.specs.contracts.errors.DuplicatePrincipalOrResourcePartialEq.TheImpl as role_eq
use Rattle.schema_convert_errors.specs.contracts.errors.MissingOrEmptyPartialEq.TheImpl as absence_eq
use Rattle.schema_convert_errors.specs.contracts.errors.NoPrincipalOrResourcePartialEq.TheImpl as absent_role_eq
use Rattle.schema_convert_errors.specs.contracts.errors.ReservedNamePartialEq.TheImpl as reserved_eq
use Rattle.schema_convert_errors.specs.contracts.errors.ReservedSchemaKeywordPartialEq.TheImpl as keyword_eq
use Rattle.schema_convert_errors.specs.contracts.errors.ToJsonSchemaErrorPartialEq.TheImpl as fault_eq
use Rattle.schema_convert_errors.specs.contracts.errors.UnknownTypeNamePartialEq.TheImpl as unknown_eq
use Rattle.schema_convert_errors.specs.contracts.error_list.ToJsonSchemaErrorsPartialEq.TheImpl as list_eq
use Rattle.schema_convert_errors.specs.contracts.error_list.ToJsonSchemaFailurePartialEq.TheImpl as failure_eq
use Rattle.schema_convert_errors.specs.contracts.warnings.SchemaWarningPartialEq.TheImpl as warning_eq
use Rattle.schema_convert_errors.specs.contracts.warnings.ShadowsBuiltinWarningPartialEq.TheImpl as builtin_eq
use Rattle.schema_convert_errors.specs.contracts.warnings.ShadowsEntityWarningPartialEq.TheImpl as entity_eq

-- a text with its place, and one with two places
abbrev placed_agree : List ℕ → Option Span → List ℕ → Option Span → Bool
placed_agree v p w q = texts_agree v w && places_agree p q

placed_sound : (v : List ℕ) (p : Option Span) (w : List ℕ) (q : Option Span) → placed_agree v p w q ≡ true
    → (v ≡ w) × (p ≡ q)
placed_sound v p w q h = (
  texts_sound v w (first_so (texts_agree v w) (places_agree p q) h),
  places_sound p q
      (second_so (texts_agree v w) (places_agree p q) h),
)

placed_itself : (v : List ℕ) (p : Option Span) → placed_agree v p v p ≡ true
placed_itself v p = and_from (texts_agree v v) (places_agree p p) (texts_themselves v) (places_themselves p)

abbrev both_agree : Option Span → Option Span → Option Span → Option Span → Bool
both_agree p r q s = places_agree p q && places_agree r s

both_sound : (p r q s : Option Span) → both_agree p r q s ≡ true → (p ≡ q) × (r ≡ s)
both_sound p r q s h = (
  places_sound p q (first_so (places_agree p q) (places_agree r s) h),
  places_sound r s
      (second_so (places_agree p q) (places_agree r s) h),
)

both_themselves : (p r : Option Span) → both_agree p r p r ≡ true
both_themselves p r = and_from (places_agree p p) (places_agree r r) (places_themselves p) (places_themselves r)

abbrev twice_agree : List ℕ → Option Span → Option Span → List ℕ → Option Span → Option Span → Bool
twice_agree v p r w q s = texts_agree v w && both_agree p r q s

twice_sound : (v : List ℕ) (p r : Option Span) (w : List ℕ) (q s : Option Span) → twice_agree v p r w q s ≡ true
    → (v ≡ w) × (p ≡ q) × (r ≡ s)
twice_sound v p r w q s h =
    let places = both_sound p r q s (second_so (texts_agree v w) (both_agree p r q s) h) in
    (texts_sound v w (first_so (texts_agree v w) (both_agree p r q s) h), places.0, places.1)

twice_itself : (v : List ℕ) (p r : Option Span) → twice_agree v p r v p r ≡ true
twice_itself v p r = and_from (texts_agree v v) (both_agree p r p r) (texts_themselves v) (both_themselves p r)

-- principals and resources are told apart
abbrev roles_agree : Role → Role → Bool
roles_agree a b = sameb the_type a b

roles_sound : (a b : Role) → roles_agree a b ≡ true → a ≡ b
roles_sound a b h = same_true the_type tt a b h

roles_themselves : (a : Role) → roles_agree a a ≡ true
roles_themselves a = true_same the_type a a refl

-- names that stand twice
pub declarations_sound : (a b : DuplicateDeclarations) → (declarations_eq.ghosts).eq a b ≡ true → a ≡ b
declarations_sound a b h =
    let same = twice_sound a.decl a.loc1 a.loc2 b.decl b.loc1 b.loc2 h in
    λ i. record { decl = same.0 i; loc1 = same.1 i; loc2 = same.2 i }

pub declarations_themselves : (a : DuplicateDeclarations) → (declarations_eq.ghosts).eq a a ≡ true
declarations_themselves a = twice_itself a.decl a.loc1 a.loc2

pub contexts_sound : (a b : DuplicateContext) → (context_eq.ghosts).eq a b ≡ true → a ≡ b
contexts_sound a b h =
    let same = twice_sound a.name a.loc1 a.loc2 b.name b.loc1 b.loc2 h in
    λ i. record { name = same.0 i; loc1 = same.1 i; loc2 = same.2 i }

pub contexts_themselves : (a : DuplicateContext) → (context_eq.ghosts).eq a a ≡ true
contexts_themselves a = twice_itself a.name a.loc1 a.loc2

pub namespaces_sound : (a b : DuplicateNamespace) → (namespace_eq.ghosts).eq a b ≡ true → a ≡ b
namespaces_sound a b h =
    let same = twice_sound a.namespace_id a.loc1 a.loc2 b.namespace_id b.loc1 b.loc2 h in
    λ i. record { namespace_id = same.0 i; loc1 = same.1 i; loc2 = same.2 i }

pub namespaces_themselves : (a : DuplicateNamespace) → (namespace_eq.ghosts).eq a a ≡ true
namespaces_themselves a = twice_itself a.namespace_id a.loc1 a.loc2

-- lists of principals and resources
pub second_roles_sound : (a b : DuplicatePrincipalOrResource) → (role_eq.ghosts).eq a b ≡ true → a ≡ b
second_roles_sound a b h =
    let name = texts_sound a.name b.name
    (first_so (texts_agree a.name b.name) (roles_agree a.kind b.kind && both_agree a.loc1 a.loc2 b.loc1 b.loc2) h) in
    let others = second_so (texts_agree a.name b.name)
    (roles_agree a.kind b.kind && both_agree a.loc1 a.loc2 b.loc1 b.loc2) h in
    let kind = roles_sound a.kind b.kind
    (first_so (roles_agree a.kind b.kind) (both_agree a.loc1 a.loc2 b.loc1 b.loc2) others) in
    let places = both_sound a.loc1 a.loc2 b.loc1 b.loc2
    (second_so (roles_agree a.kind b.kind) (both_agree a.loc1 a.loc2 b.loc1 b.loc2) others) in
    λ i. record { name = name i; kind = kind i; loc1 = places.0 i; loc2 = places.1 i }

pub second_roles_themselves : (a : DuplicatePrincipalOrResource) → (role_eq.ghosts).eq a a ≡ true
second_roles_themselves a =
    and_from (texts_agree a.name a.name) (roles_agree a.kind a.kind && both_agree a.loc1 a.loc2 a.loc1 a.loc2)
    (texts_themselves a.name)
    (and_from (roles_agree a.kind a.kind) (both_agree a.loc1 a.loc2 a.loc1 a.loc2) (roles_themselves a.kind)
    (both_themselves a.loc1 a.loc2))

abbrev absences_agree : MissingOrEmpty → MissingOrEmpty → Bool
absences_agree = (absence_eq.ghosts).eq

pub absences_sound : (a b : MissingOrEmpty) → absences_agree a b ≡ true → a ≡ b
absences_sound Missing Missing h = refl
absences_sound (Empty p) (Empty q) h = ap Empty (places_sound p q h)
absences_sound _ _ h = cc

pub absences_themselves : (a : MissingOrEmpty) → absences_agree a a ≡ true
absences_themselves Missing = refl
absences_themselves (Empty p) = places_themselves p

pub absent_roles_sound : (a b : NoPrincipalOrResource) → (absent_role_eq.ghosts).eq a b ≡ true → a ≡ b
absent_roles_sound a b h =
    let kind = roles_sound a.kind b.kind
    (first_so (roles_agree a.kind b.kind)
    (texts_agree a.name b.name && (absences_agree a.missing_or_empty b.missing_or_empty && places_agree a.name_loc
    b.name_loc)) h) in
    let others = second_so (roles_agree a.kind b.kind)
    (texts_agree a.name b.name && (absences_agree a.missing_or_empty b.missing_or_empty && places_agree a.name_loc
    b.name_loc)) h in
    let name = texts_sound a.name b.name
    (first_so (texts_agree a.name b.name)
    (absences_agree a.missing_or_empty b.missing_or_empty && places_agree a.name_loc b.name_loc) others) in
    let last = second_so (texts_agree a.name b.name)
    (absences_agree a.missing_or_empty b.missing_or_empty && places_agree a.name_loc b.name_loc) others in
    let absence = absences_sound a.missing_or_empty b.missing_or_empty
    (first_so (absences_agree a.missing_or_empty b.missing_or_empty) (places_agree a.name_loc b.name_loc) last) in
    let place = places_sound a.name_loc b.name_loc
    (second_so (absences_agree a.missing_or_empty b.missing_or_empty) (places_agree a.name_loc b.name_loc) last) in
    λ i. record { kind = kind i; name = name i; missing_or_empty = absence i; name_loc = place i }

pub absent_roles_themselves : (a : NoPrincipalOrResource) → (absent_role_eq.ghosts).eq a a ≡ true
absent_roles_themselves a =
    and_from (roles_agree a.kind a.kind)
    (texts_agree a.name a.name && (absences_agree a.missing_or_empty a.missing_or_empty && places_agree a.name_loc
    a.name_loc)) (roles_themselves a.kind)
    (and_from (texts_agree a.name a.name)
    (absences_agree a.missing_or_empty a.missing_or_empty && places_agree a.name_loc a.name_loc)
    (texts_themselves a.name)
    (and_from (absences_agree a.missing_or_empty a.missing_or_empty) (places_agree a.name_loc a.name_loc)
    (absences_themselves a.missing_or_empty) (places_themselves a.name_loc)))

-- names with one place
pub unknown_sound : (a b : UnknownTypeName) → (unknown_eq.ghosts).eq a b ≡ true → a ≡ b
unknown_sound a b h =
    let same = placed_sound a.name a.loc b.name b.loc h in
    λ i. record { name = same.0 i; loc = same.1 i }

pub unknown_themselves : (a : UnknownTypeName) → (unknown_eq.ghosts).eq a a ≡ true
unknown_themselves a = placed_itself a.name a.loc

pub reserved_sound : (a b : ReservedName) → (reserved_eq.ghosts).eq a b ≡ true → a ≡ b
reserved_sound a b h =
    let same = placed_sound a.name a.loc b.name b.loc h in
    λ i. record { name = same.0 i; loc = same.1 i }

pub reserved_themselves : (a : ReservedName) → (reserved_eq.ghosts).eq a a ≡ true
reserved_themselves a = placed_itself a.name a.loc

pub keywords_sound : (a b : ReservedSchemaKeyword) → (keyword_eq.ghosts).eq a b ≡ true → a ≡ b
keywords_sound a b h =
    let same = placed_sound a.keyword a.loc b.keyword b.loc h in
    λ i. record { keyword = same.0 i; loc = same.1 i }

pub keywords_themselves : (a : ReservedSchemaKeyword) → (keyword_eq.ghosts).eq a a ≡ true
keywords_themselves a = placed_itself a.keyword a.loc

-- faults of all kinds
abbrev faults_agree : ToJsonSchemaError → ToJsonSchemaError → Bool
faults_agree = (fault_eq.ghosts).eq

pub faults_sound : (a b : ToJsonSchemaError) → faults_agree a b ≡ true → a ≡ b
faults_sound (fault.DuplicateDeclarations a) (fault.DuplicateDeclarations b) h =
    ap fault.DuplicateDeclarations (declarations_sound a b h)
faults_sound (fault.DuplicateContext a) (fault.DuplicateContext b) h = ap fault.DuplicateContext (contexts_sound a b h)
faults_sound (fault.DuplicatePrincipalOrResource a) (fault.DuplicatePrincipalOrResource b) h =
    ap fault.DuplicatePrincipalOrResource (second_roles_sound a b h)
faults_sound (fault.NoPrincipalOrResource a) (fault.NoPrincipalOrResource b) h =
    ap fault.NoPrincipalOrResource (absent_roles_sound a b h)
faults_sound (fault.DuplicateNamespaces a) (fault.DuplicateNamespaces b) h =
    ap fault.DuplicateNamespaces (namespaces_sound a b h)
faults_sound (fault.UnknownTypeName a) (fault.UnknownTypeName b) h = ap fault.UnknownTypeName (unknown_sound a b h)
faults_sound (fault.ReservedName a) (fault.ReservedName b) h = ap fault.ReservedName (reserved_sound a b h)
faults_sound (fault.ReservedSchemaKeyword a) (fault.ReservedSchemaKeyword b) h =
    ap fault.ReservedSchemaKeyword (keywords_sound a b h)
faults_sound _ _ h = cc

pub faults_themselves : (a : ToJsonSchemaError) → faults_agree a a ≡ true
faults_themselves (fault.DuplicateDeclarations a) = declarations_themselves a
faults_themselves (fault.DuplicateContext a) = contexts_themselves a
faults_themselves (fault.DuplicatePrincipalOrResource a) = second_roles_themselves a
faults_themselves (fault.NoPrincipalOrResource a) = absent_roles_themselves a
faults_themselves (fault.DuplicateNamespaces a) = namespaces_themselves a
faults_themselves (fault.UnknownTypeName a) = unknown_themselves a
faults_themselves (fault.ReservedName a) = reserved_themselves a
faults_themselves (fault.ReservedSchemaKeyword a) = keywords_themselves a

-- lists of them, and what holds such a list
abbrev lists_agree : ToJsonSchemaErrors → ToJsonSchemaErrors → Bool
lists_agree = (list_eq.ghosts).eq

pub lists_sound : (a b : ToJsonSchemaErrors) → lists_agree a b ≡ true → a ≡ b
lists_sound a b h = λ i. record { errors = items_sound {E = faults_agree} faults_sound a.errors b.errors h i }

pub lists_themselves : (a : ToJsonSchemaErrors) → lists_agree a a ≡ true
lists_themselves a = items_themselves faults_agree faults_themselves a.errors

abbrev failures_agree : ToJsonSchemaFailure → ToJsonSchemaFailure → Bool
failures_agree = (failure_eq.ghosts).eq

pub failures_sound : (a b : ToJsonSchemaFailure) → failures_agree a b ≡ true → a ≡ b
failures_sound (failure.Errors a) (failure.Errors b) h = ap failure.Errors (lists_sound a b h)
failures_sound failure.Memory failure.Memory h = refl
failures_sound _ _ h = cc

pub failures_themselves : (a : ToJsonSchemaFailure) → failures_agree a a ≡ true
failures_themselves (failure.Errors a) = lists_themselves a
failures_themselves failure.Memory = refl

-- warnings
pub builtins_sound : (a b : ShadowsBuiltinWarning) → (builtin_eq.ghosts).eq a b ≡ true → a ≡ b
builtins_sound a b h =
    let same = placed_sound a.name a.loc b.name b.loc h in
    λ i. record { name = same.0 i; loc = same.1 i }

pub builtins_themselves : (a : ShadowsBuiltinWarning) → (builtin_eq.ghosts).eq a a ≡ true
builtins_themselves a = placed_itself a.name a.loc

pub entities_sound : (a b : ShadowsEntityWarning) → (entity_eq.ghosts).eq a b ≡ true → a ≡ b
entities_sound a b h =
    let same = twice_sound a.name a.entity_loc a.common_loc b.name b.entity_loc b.common_loc h in
    λ i. record { name = same.0 i; entity_loc = same.1 i; common_loc = same.2 i }

pub entities_themselves : (a : ShadowsEntityWarning) → (entity_eq.ghosts).eq a a ≡ true
entities_themselves a = twice_itself a.name a.entity_loc a.common_loc

abbrev warnings_agree : SchemaWarning → SchemaWarning → Bool
warnings_agree = (warning_eq.ghosts).eq

pub warnings_sound : (a b : SchemaWarning) → warnings_agree a b ≡ true → a ≡ b
warnings_sound (warning.ShadowsBuiltin a) (warning.ShadowsBuiltin b) h =
    ap warning.ShadowsBuiltin (builtins_sound a b h)
warnings_sound (warning.ShadowsEntity a) (warning.ShadowsEntity b) h = ap warning.ShadowsEntity (entities_sound a b h)
warnings_sound _ _ h = cc

pub warnings_themselves : (a : SchemaWarning) → warnings_agree a a ≡ true
warnings_themselves (warning.ShadowsBuiltin a) = builtins_themselves a
warnings_themselves (warning.ShadowsEntity a) = entities_themselves a
