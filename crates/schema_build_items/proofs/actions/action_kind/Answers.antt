use Rattle.std.proofs.Common.{sym, subst, refl, [], ◌∙◌, Bool}
use Rattle.std.specs.List.Sorted.{IsStrictlySortedBy}
use Rattle.std.specs.Map.{keys_of}
use Rattle.cedar_data.specs.Text.{text_cmp}
use Rattle.schema_build_types.specs.declared.types.Type.{«Type»}
use Rattle.cedar_names.specs.Meaning.{no_more}
use Rattle.schema_build_scope.specs.FragmentScope.{fragment_scope}
use Rattle.schema_build_items.specs.ActionKinds.{IsApplyMeaning, tests_alone}
use Rattle.schema_build_items.proofs.Applied.{bare_applies, nothing_made}
use Rattle.schema_build_items.proofs.actions.action_kind.Goals as goal

pub returns-then-entry-clause-some : goal.returns-then-entry-clause-some
returns-then-entry-clause-some c =
    let f = c.args.names.now.fragment in
    let table = c.args.names.now.table in (
      record { principals = []; resources = []; context = no_more },
      bare_applies (tests_alone f table) (fragment_scope f table) c.args.entry.now.ns.now c.args.entry.now.ty.now
          (c.requires.bare c.if-entry.true),
      (c.if-entry.true, refl, refl, refl),
    )

pub from_sorted_vec-requires : goal.from_sorted_vec-requires
unfolding IsStrictlySortedBy
from_sorted_vec-requires c =
    let empty : IsStrictlySortedBy text_cmp (keys_of {X = «Type» × Bool} []) = tt in
    subst (λ l. IsStrictlySortedBy text_cmp (keys_of l)) (sym c.new-in-None-2.ensures.items) empty

pub returns-in-None-clause-some : goal.returns-in-None-clause-some
returns-in-None-clause-some c =
    let f = c.args.names.now.fragment in
    let table = c.args.names.now.table in
    let (a, means, standing) = nothing_made (tests_alone f table) (fragment_scope f table) c.args.entry.now.ns.now
    c.new.result c.new-in-None.result
    c.from_sorted_vec.result c.new.ensures c.new-in-None.ensures
    (c.from_sorted_vec.ensures ∙ c.new-in-None-2.ensures.items) in (
      a,
      subst (λ o. IsApplyMeaning (tests_alone f table) (fragment_scope f table) c.args.entry.now.ns.now o a)
          (sym c.in-None.is) means,
      (c.if-entry.false, standing.1, standing.2, standing.3),
    )
