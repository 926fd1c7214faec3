-- In which role a path begins at each token of a schema.
use Rattle.std.specs.Prelude.{List, [], ◌∷◌, ◌++◌, Option, Some, None}
use Rattle.schema_syntax_grammar.specs.declared.token_kind.TokenKind.{TokenKind}
use Rattle.schema_syntax_grammar.specs.declared.token_kind.TokenKind.TheVariants.{Identifier}
use Rattle.schema_syntax_grammar.specs.Grammar.{Nonterminal, Phrase, Kinds, more_items, namespace_item}
use Rattle.schema_syntax_grammar.specs.Grammar.{decl_item, more_decls, annotated, entity_decl, enum_decl}
use Rattle.schema_syntax_grammar.specs.Grammar.{external_entity, action_decl, external_action, common_decl, in_parents}
use Rattle.schema_syntax_grammar.specs.Grammar.{bare_shape, equals_shape, some_tags, some_refs, some_applies, last_app}
use Rattle.schema_syntax_grammar.specs.Grammar.{more_apps, principal_app, resource_app, context_path, context_record}
use Rattle.schema_syntax_grammar.specs.Grammar.{one_type, listed_types, last_path, more_paths, one_ref, listed_refs}
use Rattle.schema_syntax_grammar.specs.Grammar.{last_ref, more_refs, plain_ref, typed_ref, path_type, set_type}
use Rattle.schema_syntax_grammar.specs.Grammar.{record_type, braces, last_attr, more_attrs, one_attr}
use Rattle.schema_assist_places.specs.declared.role.Role.{Role}
use Rattle.schema_assist_places.specs.declared.role.Role.TheVariants.{TypePath, EntityPath, ContextPath, ActionRef}

abbrev pub nones : Kinds → List (Option Role)
nones [] = []
nones (k ∷ w) = None ∷ nones w

-- an identifier that begins a path in this role
abbrev pub first_word : Role → TokenKind → Option Role
first_word role Identifier = Some role
first_word role _ = None

-- a path in this role
abbrev pub path_in : Role → Kinds → List (Option Role)
path_in role [] = []
path_in role (k ∷ w) = first_word role k ∷ nones w

-- The role of each token that is an identifier and the first word of a path in a role, by the productions.
unfoldable pub roles : {p : Nonterminal} {w : Kinds} → Phrase p w → List (Option Role)
roles (more_items d r) = roles d ++ roles r
roles (namespace_item {a = a} {p = p} n q r) =
    nones a ++ None ∷ (nones p ++ None ∷ (roles r ++ None ∷ []))
roles (decl_item d) = roles d
roles (more_decls d r) = roles d ++ roles r
roles (annotated {a = a} n r) = nones a ++ roles r
roles (entity_decl {i = i} n q r u) =
    None ∷ (nones i ++ (roles q ++ (roles r ++ (roles u ++ None ∷ []))))
roles (enum_decl {i = i} {s = s} n r) =
    None ∷ (nones i ++ None ∷ None ∷ (nones s ++ None ∷ None ∷ []))
roles (external_entity {i = i} n q) = None ∷ None ∷ (nones i ++ (roles q ++ None ∷ []))
roles (action_decl {n = n} m q u) = None ∷ (nones n ++ (roles q ++ (roles u ++ None ∷ [])))
roles (external_action {n = n} m q) = None ∷ None ∷ (nones n ++ (roles q ++ None ∷ []))
roles (common_decl h r) = None ∷ None ∷ None ∷ (roles r ++ None ∷ [])
roles (in_parents q) = None ∷ roles q
roles (bare_shape q) = roles q
roles (equals_shape q) = None ∷ roles q
roles (some_tags q) = None ∷ roles q
roles (some_refs q) = None ∷ roles q
roles (some_applies q) = None ∷ None ∷ (roles q ++ None ∷ [])
roles (last_app q) = roles q
roles (more_apps q r) = roles q ++ None ∷ roles r
roles (principal_app q) = None ∷ None ∷ roles q
roles (resource_app q) = None ∷ None ∷ roles q
roles (context_path {a = a} q) = None ∷ None ∷ path_in ContextPath a
roles (context_record q) = None ∷ None ∷ roles q
roles (one_type {a = a} q) = path_in EntityPath a
roles (listed_types q) = None ∷ (roles q ++ None ∷ [])
roles (last_path {a = a} q) = path_in EntityPath a
roles (more_paths {a = a} q r) = path_in EntityPath a ++ None ∷ roles r
roles (one_ref q) = roles q
roles (listed_refs q) = None ∷ (roles q ++ None ∷ [])
roles (last_ref q) = roles q
roles (more_refs q r) = roles q ++ None ∷ roles r
roles (plain_ref {a = a} q) = path_in ActionRef a
roles (typed_ref {a = a} q) = path_in ActionRef a ++ None ∷ None ∷ []
roles (path_type {a = a} q) = path_in TypePath a
roles (set_type q) = None ∷ None ∷ (roles q ++ None ∷ [])
roles (record_type q) = roles q
roles (braces q) = None ∷ (roles q ++ None ∷ [])
roles (last_attr q) = roles q
roles (more_attrs q r) = roles q ++ None ∷ roles r
roles (one_attr {a = a} {n = n} {m = m} c r q u) = nones a ++ (nones n ++ (nones m ++ None ∷ roles u))
roles {w = w} _ = nones w
