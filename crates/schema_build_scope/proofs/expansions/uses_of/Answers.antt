use Rattle.std.proofs.Common.{◌≡◌, [], ◌∷◌, ◌++◌, All, map, take, get_or, sym, ap, ◌∙◌, subst}
use Rattle.std.proofs.lemmas.List.{map-append, take_more}
use Rattle.std.proofs.lemmas.List.Elements.{All-nil, All-cons, All-append}
use Rattle.std.specs.Borrow.{Bor}
use Rattle.cedar_identifiers.specs.declared.raw_name.RawName.{RawName}
use Rattle.schema_json.specs.declared.types.Type.{«Type»}
use Rattle.schema_resolve_definitions.specs.Declarations.{name_of}
use Rattle.schema_build_scope.specs.Commons.{TypeAt}
use Rattle.schema_build_scope.specs.Lent.{lent_at}
use Rattle.schema_build_scope.specs.LentCommons.{lent_type}
use Rattle.schema_build_scope.specs.declared.names_in.NamesIn.{NamesIn}
use Rattle.schema_build_scope.proofs.expansions.uses_of.Goals as goal

pub loop-used-preserved : goal.loop-used-preserved
loop-used-preserved c =
    let old = c.loop-used.uses.items in
    let lent = c.args.lent.now in
    let i = c.loop-used.used-index in
    let item = c.used-item.result in
    let x : NamesIn × Bor («Type» RawName) = (c.in_namespace.result, item.ty) in
    let P = λ (y : NamesIn × Bor («Type» RawName)). y.0.names.now ≡ c.args.names.now in
    let seen : lent_at x ≡ lent_type (get_or lent i item) =
    (λ j. let a : TypeAt = record { place = name_of (c.in_namespace.ensures.place j); ty = item.ty.now } in a)
    ∙ ap lent_type c.used-item.is in
    record {
      names_are = subst (All P) (sym c.in_ok-push.ensures.items)
          (All-append P old (x ∷ []) c.loop-used.invariant.names_are
          (All-cons P x [] c.in_namespace.ensures.names (All-nil P)));
      lent_uses = ap (map lent_at) c.in_ok-push.ensures.items
          ∙ map-append lent_at old (x ∷ [])
          ∙ (λ j. c.loop-used.invariant.lent_uses j ++ seen j ∷ [])
          ∙ sym (map-append lent_type (take i lent) (get_or lent i item ∷ []))
          ∙ ap (map lent_type) (sym (take_more lent i item c.loop-used-test.true));
    }
