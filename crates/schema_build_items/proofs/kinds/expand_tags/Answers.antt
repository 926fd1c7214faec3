use Rattle.std.proofs.Common.{Some, sym, subst}
use Rattle.schema_resolve_definitions.specs.Declarations.{name_of}
use Rattle.schema_build_scope.specs.FragmentScope.{fragment_scope}
use Rattle.schema_build_items.specs.Kinds.{TagsBuilt}
use Rattle.schema_build_items.proofs.Made.{tags_made}
use Rattle.schema_build_items.proofs.kinds.expand_tags.Goals as goal

pub returns-in_ok-new-in-Some : goal.returns-in_ok-new-in-Some
returns-in_ok-new-in-Some c =
    let s = fragment_scope c.args.names.now.fragment c.args.names.now.table in
    let ns = name_of c.args.ns.now in
    let made = c.in_ok-built-in-Some.built in
    subst (λ o. TagsBuilt s ns o (Some c.in_ok-new-in-Some.field-0)) (sym c.in-Some.is)
    (subst (λ m. TagsBuilt s ns (Some c.in-Some.ty) (Some m)) (sym c.in_ok-new-in-Some.ensures)
    (subst (λ t. TagsBuilt s ns (Some t) (Some made)) c.get.ensures
    (tags_made s ns c.get.result.now made c.in_ok-built-in-Some.ensures)))
