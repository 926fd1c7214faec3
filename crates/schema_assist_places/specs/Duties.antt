-- What each token of a schema does there, as far as it tells which names may stand.
use Rattle.std.specs.Prelude.{◌≡◌, List, [], ◌∷◌, ◌++◌, length, slice_get, Some}
use Rattle.schema_syntax_grammar.specs.declared.token_kind.TokenKind.{TokenKind}
use Rattle.schema_syntax_grammar.specs.declared.token_kind.TokenKind.TheVariants.{Identifier}
use Rattle.schema_syntax_grammar.specs.Grammar.{Nonterminal, Phrase, Sentence, Kinds, more_items, namespace_item}
use Rattle.schema_syntax_grammar.specs.Grammar.{decl_item, more_decls, annotated, entity_decl, enum_decl}
use Rattle.schema_syntax_grammar.specs.Grammar.{external_entity, action_decl, external_action, common_decl, in_parents}
use Rattle.schema_syntax_grammar.specs.Grammar.{bare_shape, equals_shape, some_tags, some_refs, some_applies, last_app}
use Rattle.schema_syntax_grammar.specs.Grammar.{more_apps, principal_app, resource_app, context_path, context_record}
use Rattle.schema_syntax_grammar.specs.Grammar.{one_type, listed_types, last_path, more_paths, one_ref, listed_refs}
use Rattle.schema_syntax_grammar.specs.Grammar.{last_ref, more_refs, plain_ref, typed_ref, path_type, set_type}
use Rattle.schema_syntax_grammar.specs.Grammar.{record_type, braces, last_attr, more_attrs, one_attr}
use Rattle.schema_assist_places.specs.declared.role.Role.{Role}
use Rattle.schema_assist_places.specs.declared.role.Role.TheVariants.{TypePath, EntityPath, ContextPath, ActionRef}
use Rattle.schema_assist_places.specs.declared.duty.Duty.{Duty}
use Rattle.schema_assist_places.specs.declared.duty.Duty.TheVariants.{Begins, Opens, Outside, Plain}

abbrev pub plains : Kinds → List Duty
plains [] = []
plains (k ∷ w) = Plain ∷ plains w

abbrev pub begun : Role → TokenKind → Duty
begun role Identifier = Begins role
begun role _ = Plain

-- a path in this role
abbrev pub starts : Role → Kinds → List Duty
starts role [] = []
starts role (k ∷ w) = begun role k ∷ plains w

-- What each token does, by the productions; o is what the first word of a declaration does.
unfoldable pub duties : {p : Nonterminal} {w : Kinds} → Duty → Phrase p w → List Duty
duties o (more_items d r) = duties o d ++ duties o r
duties o (namespace_item {a = a} {p = p} n q r) =
    plains a ++ Opens ∷ (plains p ++ Plain ∷ (duties o r ++ Plain ∷ []))
duties o (decl_item d) = duties Outside d
duties o (more_decls d r) = duties Plain d ++ duties Plain r
duties o (annotated {a = a} n r) = plains a ++ duties o r
duties o (entity_decl {i = i} n q r u) =
    o ∷ (plains i ++ (duties o q ++ (duties o r ++ (duties o u ++ Plain ∷ []))))
duties o (enum_decl {i = i} {s = s} n r) =
    o ∷ (plains i ++ Plain ∷ Plain ∷ (plains s ++ Plain ∷ Plain ∷ []))
duties o (external_entity {i = i} n q) = o ∷ Plain ∷ (plains i ++ (duties o q ++ Plain ∷ []))
duties o (action_decl {n = n} m q u) = o ∷ (plains n ++ (duties o q ++ (duties o u ++ Plain ∷ [])))
duties o (external_action {n = n} m q) = o ∷ Plain ∷ (plains n ++ (duties o q ++ Plain ∷ []))
duties o (common_decl h r) = o ∷ Plain ∷ Plain ∷ (duties o r ++ Plain ∷ [])
duties o (in_parents q) = Plain ∷ duties o q
duties o (bare_shape q) = duties o q
duties o (equals_shape q) = Plain ∷ duties o q
duties o (some_tags q) = Plain ∷ duties o q
duties o (some_refs q) = Plain ∷ duties o q
duties o (some_applies q) = Plain ∷ Plain ∷ (duties o q ++ Plain ∷ [])
duties o (last_app q) = duties o q
duties o (more_apps q r) = duties o q ++ Plain ∷ duties o r
duties o (principal_app q) = Plain ∷ Plain ∷ duties o q
duties o (resource_app q) = Plain ∷ Plain ∷ duties o q
duties o (context_path {a = a} q) = Plain ∷ Plain ∷ starts ContextPath a
duties o (context_record q) = Plain ∷ Plain ∷ duties o q
duties o (one_type {a = a} q) = starts EntityPath a
duties o (listed_types q) = Plain ∷ (duties o q ++ Plain ∷ [])
duties o (last_path {a = a} q) = starts EntityPath a
duties o (more_paths {a = a} q r) = starts EntityPath a ++ Plain ∷ duties o r
duties o (one_ref q) = duties o q
duties o (listed_refs q) = Plain ∷ (duties o q ++ Plain ∷ [])
duties o (last_ref q) = duties o q
duties o (more_refs q r) = duties o q ++ Plain ∷ duties o r
duties o (plain_ref {a = a} q) = starts ActionRef a
duties o (typed_ref {a = a} q) = starts ActionRef a ++ Plain ∷ Plain ∷ []
duties o (path_type {a = a} q) = starts TypePath a
duties o (set_type q) = Plain ∷ Plain ∷ (duties o q ++ Plain ∷ [])
duties o (record_type q) = duties o q
duties o (braces q) = Plain ∷ (duties o q ++ Plain ∷ [])
duties o (last_attr q) = duties o q
duties o (more_attrs q r) = duties o q ++ Plain ∷ duties o r
duties o (one_attr {a = a} {n = n} {m = m} c r q u) = plains a ++ (plains n ++ (plains m ++ Plain ∷ duties o u))
duties {w = w} o _ = plains w

-- some kinds complete the front to a sentence, in which the first of them begins a path in this role
abbrev pub Stands : Kinds → Role → Type 0
Stands front role = (more : Kinds) × (s : Sentence (front ++ more))
    × (slice_get (duties Outside s) (length front) ≡ Some (Begins role))
