use Rattle.std.proofs.Common.{inr, sym, subst}
use Rattle.std.specs.List.Sorted.{IsStrictlySortedBy}
use Rattle.std.specs.Map.{keys_of}
use Rattle.cedar_names.specs.Orders.{names_in_order, uids_in_order}
use Rattle.schema_build_unfit.specs.Parts.{IsMisnamed, IsEnumBelow, NoneIs, IsFirstThat, IsLeastName}
use Rattle.schema_build.proofs.schema.ValidatorSchema.from_parts.Goals as goal

pub returns-in-Some-first_enum_below-clause-fault :
    goal.returns-in-Some-first_enum_below-clause-fault
returns-in-Some-first_enum_below-clause-fault c =
    let found = c.in-Some-first_enum_below.ensures in
    let child = sym c.in_ok-enum_type.ensures in
    let parent = sym c.in_ok-parent_type.ensures in
    let here = subst (λ n. IsFirstThat (λ e. IsEnumBelow e.1) c.as_slice-2.result.now (n, found.0)) child found.1 in
    inr (
      subst (NoneIs IsMisnamed) c.as_slice.ensures.entries c.in_default.ensures,
      (
        found.0,
        subst (λ es. IsFirstThat (λ e. IsEnumBelow e.1) es (c.in_ok-enum_type.enum_type, found.0))
            c.as_slice-2.ensures.entries here,
        subst (IsLeastName found.0.ancestors) parent found.2,
      ),
    )

pub returns-in-Some-clause-fault : goal.returns-in-Some-clause-fault
returns-in-Some-clause-fault c =
    let found = c.in-Some.ensures in
    let uid = sym c.in_ok-uid.ensures in
    let here = subst (λ u. IsFirstThat IsMisnamed c.as_slice.result.now (u, found.0)) uid found.1 in
    inr (found.0, subst (λ all. IsFirstThat IsMisnamed all (c.in_ok-uid.uid, found.0)) c.as_slice.ensures.entries here)

pub invariant_of-result : goal.invariant_of-result
invariant_of-result c = (
  subst (λ all. IsStrictlySortedBy (λ a b. names_in_order a.name b.name) (keys_of all))
      (sym c.in_ok-entity_type_entries.ensures) c.as_slice-2.ensures.sorted,
  subst (λ all. IsStrictlySortedBy uids_in_order (keys_of all))
      (sym c.in_ok-action_entries.ensures) c.as_slice.ensures.sorted,
)

pub returns-clause-parts : goal.returns-clause-parts
returns-clause-parts c = λ i. record {
  entity_types = c.in_ok-entity_type_entries.ensures i;
  actions = c.in_ok-action_entries.ensures i;
}

pub returns-clause-lawful : goal.returns-clause-lawful
returns-clause-lawful c = (
  subst (NoneIs IsMisnamed) c.as_slice.ensures.entries c.in_default.ensures,
  subst (NoneIs (λ e. IsEnumBelow e.1)) c.as_slice-2.ensures.entries c.in_default-first_enum_below.ensures,
)
