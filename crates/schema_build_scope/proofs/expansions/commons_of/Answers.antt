use Rattle.std.proofs.Common.{◌≡◌, [], ◌∷◌, ◌++◌, All, map, take, get_or, sym, ap, ◌∙◌, subst}
use Rattle.std.proofs.lemmas.List.{map-append, take_more}
use Rattle.std.proofs.lemmas.List.Elements.{All-nil, All-cons, All-append}
use Rattle.std.specs.Borrow.{Bor}
use Rattle.cedar_identifiers.specs.declared.internal_name.InternalName.{InternalName}
use Rattle.cedar_identifiers.specs.declared.raw_name.RawName.{RawName}
use Rattle.schema_json.specs.declared.types.Type.{«Type»}
use Rattle.schema_resolve_definitions.specs.Declarations.{name_of}
use Rattle.schema_build_scope.specs.Commons.{TypeAt}
use Rattle.schema_build_scope.specs.Lent.{lent_at}
use Rattle.schema_build_scope.specs.LentCommons.{lent_type}
use Rattle.schema_build_scope.specs.declared.lent_commons.LentType.{LentType}
use Rattle.schema_build_scope.specs.declared.names_in.NamesIn.{NamesIn}
use Rattle.schema_build_scope.proofs.expansions.commons_of.Goals as goal

pub loop-common-preserved : goal.loop-common-preserved
loop-common-preserved c =
    let old = c.loop-common.commons.items in
    let entries = c.args.entries.now in
    let i = c.loop-common.common-index in
    let item = c.loop-common-item.result in
    let x : NamesIn × Bor («Type» RawName) = (c.in_namespace.result, item.1.ty) in
    let P = λ (y : NamesIn × Bor («Type» RawName)). y.0.names.now ≡ c.args.names.now in
    let seen : lent_at x ≡ lent_type (get_or entries i item).1 =
    (λ j. let a : TypeAt = record { place = name_of (c.in_namespace.ensures.place j); ty = item.1.ty.now } in a)
    ∙ ap (λ (e : InternalName × LentType). lent_type e.1) c.loop-common-item.is in
    record {
      names_are = subst (All P) (sym c.in_ok-push.ensures.items)
          (All-append P old (x ∷ []) c.loop-common.invariant.names_are
          (All-cons P x [] c.in_namespace.ensures.names (All-nil P)));
      lent = ap (map lent_at) c.in_ok-push.ensures.items
          ∙ map-append lent_at old (x ∷ [])
          ∙ (λ j. c.loop-common.invariant.lent j ++ seen j ∷ [])
          ∙ sym (map-append (λ (e : InternalName × LentType). lent_type e.1) (take i entries)
          (get_or entries i item ∷ []))
          ∙ ap (map (λ (e : InternalName × LentType). lent_type e.1))
          (sym (take_more entries i item c.loop-common-test.true));
    }
