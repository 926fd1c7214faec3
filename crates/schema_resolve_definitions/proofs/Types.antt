-- No type of actions has the component `__cedar`.
use Rattle.std.proofs.Common.{◌≡◌, false, [], ◌∷◌, Option, Some, None, refl, ap, ◌∙◌}
use Rattle.std.specs.List.{list_any}
use Rattle.std.proofs.lemmas.List.{map-append}
use Rattle.std.proofs.lemmas.List.Folds.{list_any-append}
use Rattle.std.proofs.Math.Bool.{or-false}
use Rattle.cedar_identifiers.specs.Words.{is_cedar}
use Rattle.cedar_identifiers.specs.Names.{components_of, texts_of, has_cedar}
use Rattle.cedar_identifiers.specs.declared.id.Id.{Id}
use Rattle.cedar_identifiers.specs.declared.name.Name.{Name}
use Rattle.schema_json.specs.Actions.{action_name}
use Rattle.schema_resolve_definitions.specs.Declarations.{action_type}

-- nor has a name behind a namespace without it
pub action_lawful : (ns : Option Name) → has_cedar (components_of (action_type ns)) ≡ false
action_lawful None = refl
action_lawful (Some ns) =
    ap (λ texts. list_any is_cedar texts)
    (map-append (λ (i : Id). i.text) (ns.name.first ∷ ns.name.others) (action_name.first ∷ []))
    ∙ list_any-append is_cedar (texts_of (ns.name.first ∷ ns.name.others)) (texts_of (action_name.first ∷ []))
    ∙ or-false (list_any is_cedar (texts_of (ns.name.first ∷ ns.name.others)))
    ∙ ns.unreserved
