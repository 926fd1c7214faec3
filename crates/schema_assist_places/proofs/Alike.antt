-- The duties of tokens tell their roles.
use Rattle.std.proofs.Common.{◌≡◌, ℕ, zero, suc, List, [], ◌∷◌, ◌++◌, map, Option, Some, None, refl, sym, ap, ◌∙◌}
use Rattle.std.specs.Prelude.{slice_get}
use Rattle.schema_syntax_grammar.specs.declared.token_kind.TokenKind.{TokenKind}
use Rattle.schema_syntax_grammar.specs.declared.token_kind.TokenKind.TheVariants.{Identifier}
use Rattle.schema_syntax_grammar.specs.Grammar.{Nonterminal, schema}
use Rattle.schema_syntax_grammar.specs.Grammar.{Phrase, no_item, more_items, namespace_item}
use Rattle.schema_syntax_grammar.specs.Grammar.{decl_item, no_decl, more_decls, annotated, entity_decl, enum_decl}
use Rattle.schema_syntax_grammar.specs.Grammar.{external_entity, action_decl, external_action, common_decl, one_ident}
use Rattle.schema_syntax_grammar.specs.Grammar.{more_idents, no_parents, in_parents, no_shape, bare_shape, equals_shape}
use Rattle.schema_syntax_grammar.specs.Grammar.{no_tags, some_tags, no_string, last_string, more_strings, one_name}
use Rattle.schema_syntax_grammar.specs.Grammar.{more_names, ident_name, string_name, no_refs, some_refs, no_applies}
use Rattle.schema_syntax_grammar.specs.Grammar.{some_applies, no_app, last_app, more_apps, principal_app, resource_app}
use Rattle.schema_syntax_grammar.specs.Grammar.{context_path, context_record, one_type, listed_types, no_path}
use Rattle.schema_syntax_grammar.specs.Grammar.{last_path, more_paths, one_ref, listed_refs, no_ref, last_ref}
use Rattle.schema_syntax_grammar.specs.Grammar.{more_refs, plain_ref, typed_ref, path_type, set_type, record_type}
use Rattle.schema_syntax_grammar.specs.Grammar.{braces, no_attr, last_attr, more_attrs, one_attr, no_mark, question}
use Rattle.schema_syntax_grammar.specs.Grammar.{one_step, more_steps, no_ann, bare_ann, valued_ann}
use Rattle.schema_assist_places.specs.declared.role.Role.{Role}
use Rattle.schema_assist_places.specs.declared.role.Role.TheVariants.{TypePath, EntityPath, ContextPath, ActionRef}
use Rattle.schema_assist_places.specs.declared.duty.Duty.{Duty}
use Rattle.schema_assist_places.specs.declared.duty.Duty.TheVariants.{Begins, Outside, Plain}
use Rattle.schema_assist_places.specs.Duties.{plains, begun, starts, duties}
use Rattle.schema_assist_places.specs.Roles.{nones, first_word, path_in, roles}
use Rattle.schema_assist_places.specs.Trace.{role_in}

abbrev told : List Duty → List (Option Role)
told ds = map role_in ds

told_both : (a b : List Duty) → told (a ++ b) ≡ told a ++ told b
told_both [] b = refl
told_both (d ∷ a) b = ap (λ r. role_in d ∷ r) (told_both a b)

told_plains : (w : List TokenKind) → told (plains w) ≡ nones w
told_plains [] = refl
told_plains (k ∷ w) = ap (λ r. None ∷ r) (told_plains w)

told_begun : (role : Role) (k : TokenKind) → role_in (begun role k) ≡ first_word role k
told_begun role Identifier = refl
told_begun role _ = refl

told_starts : (role : Role) (w : List TokenKind) → told (starts role w) ≡ path_in role w
told_starts role [] = refl
told_starts role (k ∷ w) = λ i. told_begun role k i ∷ told_plains w i

told_roles : {p : Nonterminal} {w : List TokenKind} (o : Duty) (r : Phrase p w) → role_in o ≡ None
    → told (duties o r) ≡ roles r
unfolding duties roles
told_roles o (more_items d r) h = simp (told_both, told_roles o d h, told_roles o r h) refl
told_roles o (namespace_item {a = a} {p = p} n q r) h = simp (
  told_both,
  told_plains a,
  told_plains p,
  told_roles o r h,
) refl
told_roles o (decl_item d) h = told_roles Outside d refl
told_roles o (more_decls d r) h = simp (told_both, told_roles Plain d refl, told_roles Plain r refl) refl
told_roles o (annotated {a = a} n r) h = simp (told_both, told_plains a, told_roles o r h) refl
told_roles o (entity_decl {i = i} n q r u) h = simp (
  told_both,
  told_plains i,
  told_roles o q h,
  told_roles o r h,
  told_roles o u h,
  h,
) refl
told_roles o (enum_decl {i = i} {s = s} n r) h = simp (told_both, told_plains i, told_plains s, h) refl
told_roles o (external_entity {i = i} n q) h = simp (told_both, told_plains i, told_roles o q h, h) refl
told_roles o (action_decl {n = n} m q u) h = simp (told_both, told_plains n, told_roles o q h, told_roles o u h, h) refl
told_roles o (external_action {n = n} m q) h = simp (told_both, told_plains n, told_roles o q h, h) refl
told_roles o (common_decl j r) h = simp (told_both, told_roles o r h, h) refl
told_roles o (in_parents q) h = simp (told_roles o q h) refl
told_roles o (bare_shape q) h = told_roles o q h
told_roles o (equals_shape q) h = simp (told_roles o q h) refl
told_roles o (some_tags q) h = simp (told_roles o q h) refl
told_roles o (some_refs q) h = simp (told_roles o q h) refl
told_roles o (some_applies q) h = simp (told_both, told_roles o q h) refl
told_roles o (last_app q) h = told_roles o q h
told_roles o (more_apps q r) h = simp (told_both, told_roles o q h, told_roles o r h) refl
told_roles o (principal_app q) h = simp (told_roles o q h) refl
told_roles o (resource_app q) h = simp (told_roles o q h) refl
told_roles o (context_path {a = a} q) h = simp (told_starts ContextPath a) refl
told_roles o (context_record q) h = simp (told_roles o q h) refl
told_roles o (one_type {a = a} q) h = told_starts EntityPath a
told_roles o (listed_types q) h = simp (told_both, told_roles o q h) refl
told_roles o (last_path {a = a} q) h = told_starts EntityPath a
told_roles o (more_paths {a = a} q r) h = simp (told_both, told_starts EntityPath a, told_roles o r h) refl
told_roles o (one_ref q) h = told_roles o q h
told_roles o (listed_refs q) h = simp (told_both, told_roles o q h) refl
told_roles o (last_ref q) h = told_roles o q h
told_roles o (more_refs q r) h = simp (told_both, told_roles o q h, told_roles o r h) refl
told_roles o (plain_ref {a = a} q) h = told_starts ActionRef a
told_roles o (typed_ref {a = a} q) h = simp (told_both, told_starts ActionRef a) refl
told_roles o (path_type {a = a} q) h = told_starts TypePath a
told_roles o (set_type q) h = simp (told_both, told_roles o q h) refl
told_roles o (record_type q) h = told_roles o q h
told_roles o (braces q) h = simp (told_both, told_roles o q h) refl
told_roles o (last_attr q) h = told_roles o q h
told_roles o (more_attrs q r) h = simp (told_both, told_roles o q h, told_roles o r h) refl
told_roles o (one_attr {a = a} {n = n} {m = m} c r q u) h = simp (
  told_both,
  told_plains a,
  told_plains n,
  told_plains m,
  told_roles o u h,
) refl
told_roles {w = w} o no_item h = told_plains w
told_roles {w = w} o no_decl h = told_plains w
told_roles {w = w} o (one_ident e) h = told_plains w
told_roles {w = w} o (more_idents e f) h = told_plains w
told_roles {w = w} o no_parents h = told_plains w
told_roles {w = w} o no_shape h = told_plains w
told_roles {w = w} o no_tags h = told_plains w
told_roles {w = w} o no_string h = told_plains w
told_roles {w = w} o last_string h = told_plains w
told_roles {w = w} o (more_strings e) h = told_plains w
told_roles {w = w} o (one_name e) h = told_plains w
told_roles {w = w} o (more_names e f) h = told_plains w
told_roles {w = w} o (ident_name e) h = told_plains w
told_roles {w = w} o string_name h = told_plains w
told_roles {w = w} o no_refs h = told_plains w
told_roles {w = w} o no_applies h = told_plains w
told_roles {w = w} o no_app h = told_plains w
told_roles {w = w} o no_path h = told_plains w
told_roles {w = w} o no_ref h = told_plains w
told_roles {w = w} o no_attr h = told_plains w
told_roles {w = w} o no_mark h = told_plains w
told_roles {w = w} o question h = told_plains w
told_roles {w = w} o (one_step e) h = told_plains w
told_roles {w = w} o (more_steps e f) h = told_plains w
told_roles {w = w} o no_ann h = told_plains w
told_roles {w = w} o (bare_ann e f) h = told_plains w
told_roles {w = w} o (valued_ann e f) h = told_plains w

-- where an identifier begins a path in a role, its duty says so, and the other way round

duty_begins : (d : Duty) (role : Role) → Some (role_in d) ≡ Some (Some role) → d ≡ Begins role
duty_begins (Begins r) role e = let same : r ≡ role = cc in ap Begins same
duty_begins _ role e = cc

begins_there : (ds : List Duty) (n : ℕ) (role : Role) → slice_get (told ds) n ≡ Some (Some role)
    → slice_get ds n ≡ Some (Begins role)
begins_there [] n role e = cc
begins_there (d ∷ ds) zero role e = ap (λ x. Some x) (duty_begins d role e)
begins_there (d ∷ ds) (suc n) role e = begins_there ds n role e

role_there : (ds : List Duty) (n : ℕ) (role : Role) → slice_get ds n ≡ Some (Begins role)
    → slice_get (told ds) n ≡ Some (Some role)
role_there [] n role e = cc
role_there (d ∷ ds) zero role e = let same : d ≡ Begins role = cc in ap (λ x. Some (role_in x)) same
role_there (d ∷ ds) (suc n) role e = role_there ds n role e

pub duty_of_role : {w : List TokenKind} (s : Phrase schema w) (n : ℕ) (role : Role)
    → slice_get (roles s) n ≡ Some (Some role) → slice_get (duties Outside s) n ≡ Some (Begins role)
duty_of_role s n role e = begins_there (duties Outside s) n role
    (ap (λ m. slice_get m n) (told_roles Outside s refl) ∙ e)

pub role_of_duty : {w : List TokenKind} (s : Phrase schema w) (n : ℕ) (role : Role)
    → slice_get (duties Outside s) n ≡ Some (Begins role) → slice_get (roles s) n ≡ Some (Some role)
role_of_duty s n role e = ap (λ m. slice_get m n) (sym (told_roles Outside s refl))
    ∙ role_there (duties Outside s) n role e
