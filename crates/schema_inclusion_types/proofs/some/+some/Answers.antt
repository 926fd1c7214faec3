use Rattle.std.proofs.Common.{rules, arith, ◌≡◌, ◌+◌, drop, true, false, ◌∙◌, sym, ap, get_or}
use Rattle.cedar_data.proofs.Sizes.{most_at}
use Rattle.schema_build_types.specs.declared.types.Type.{size-Type}
use Rattle.schema_inclusion_values.specs.Seen.{value_of}
use Rattle.schema_inclusion_values.specs.Values.{entry, no_entries}
use Rattle.schema_inclusion_types.specs.Entries.{entries_onto, some_onto}
use Rattle.schema_inclusion_types.specs.Ids.{id_in}
use Rattle.schema_inclusion_types.specs.Kinds.{plain_attrs}
use Rattle.schema_inclusion_types.proofs.Onto.{onto_nothing, onto_more, some_onto_nothing, some_step}
use Rattle.schema_inclusion_types.proofs.some.+some.Goals.{push_some-then-required+in_ok-name+in_ok-value+in_ok-push}
use Rattle.schema_inclusion_types.proofs.some.+some.Goals.{push_some-else-required}
use Rattle.schema_inclusion_types.proofs.some.+some.Goals as goal

pub push_some-some_value-requires : goal.push_some-some_value-requires
push_some-some_value-requires t c =
    let it = c.loop-name-item.result in
    let le = most_at (λ p. size-Type p.0) c.args.attrs.now c.loop-name.name-index it c.loop-name-test.true in
    let same : size-Type it.1.0 ≡ size-Type (get_or c.args.attrs.now c.loop-name.name-index it).1.0 = ap
    (λ p. size-Type p.1.0) c.loop-name-item.is in
    (omega (arith, le, same, c.decreases), search rules)

pub push_some-loop-name-preserved : goal.push_some-loop-name-preserved
push_some-loop-name-preserved t c =
    let ids = id_in c.args.ids.now.rows in
    let attrs = c.args.attrs.now in
    let i = c.loop-name.name-index in
    let d = c.loop-name-item.result in
    elim c.if-required.branch [
      | push_some-then-required+in_ok-name+in_ok-value+in_ok-push w ↦ λ rest.
          let behind = some_onto ids (plain_attrs (drop (i + 1) attrs)) rest in
          ap (λ es. entries_onto es behind) (w.entries-is ∙ w.in_ok-push.ensures.ok)
          ∙ (onto_more c.loop-name.entries (w.in_ok-name.name, w.in_ok-value.value) behind
          ∙ ((λ k. entries_onto c.loop-name.entries
          (entry (w.in_ok-name.ensures k) (w.in_ok-value.ensures k) behind))
          ∙ (ap (entries_onto c.loop-name.entries)
          (sym (some_step ids attrs i d rest c.loop-name-test.true c.loop-name-item.is true w.if-required.true))
          ∙ c.loop-name.invariant rest)))
      | push_some-else-required w ↦ λ rest.
          ap (λ es. entries_onto es (some_onto ids (plain_attrs (drop (i + 1) attrs)) rest)) w.entries-is
          ∙ (ap (entries_onto c.loop-name.entries)
          (sym (some_step ids attrs i d rest c.loop-name-test.true c.loop-name-item.is false w.if-required.false))
          ∙ c.loop-name.invariant rest)
    ]

pub some_entries-returns : goal.some_entries-returns
some_entries-returns t c =
    let ids = id_in c.args.ids.now.rows in
    let fs = plain_attrs c.args.attrs.now in
    sym (onto_nothing c.push_some.new.entries)
    ∙ (c.in_ok-push_some.ensures no_entries
    ∙ (ap (λ es. entries_onto es (some_onto ids fs no_entries)) c.new-entries.ensures ∙ some_onto_nothing ids fs))
