use Rattle.std.proofs.Common.{◌≡◌, ◌+◌, ℕ, List, [], ◌∷◌, length, take, drop, refl, sym, ap, ◌∙◌, arith}
use Rattle.schema_inclusion_values.specs.Checks.{some_entries}
use Rattle.schema_inclusion_values.specs.Seen.{value_of, entries_value}
use Rattle.schema_inclusion_values.specs.Values.{Entries, entry, no_entries}
use Rattle.schema_inclusion_types.specs.Entries.{entries_onto, some_onto, entries_at}
use Rattle.schema_inclusion_types.specs.Ids.{id_in}
use Rattle.schema_inclusion_types.specs.Kinds.{Attrs, plain_attrs}
use Rattle.schema_inclusion_types.proofs.Onto.{onto_nothing, onto_more, some_onto_nothing}
use Rattle.schema_inclusion_types.proofs.some.entries_with.Goals as goal

none_there : {A : Type 0} (xs : List A) → length xs ≡ 0 → xs ≡ []
none_there [] h = refl
none_there (x ∷ xs) h = absurd (omega arith)

pub returns-in-None : goal.returns-in-None
returns-in-None c =
    let ids = id_in c.args.ids.now.rows in
    let attrs = c.args.attrs.now in
    let at = c.args.at in
    let v = value_of c.args.value in
    let before = c.split_at.result.0.now in
    let behind = c.split_at.result.1.now in
    sym (onto_nothing c.push_some.new.entries)
    ∙ (c.in_ok-push_some.ensures no_entries
    ∙ (ap (λ es. entries_onto es (some_onto ids (plain_attrs before) no_entries)) c.new-entries.ensures
    ∙ (some_onto_nothing ids (plain_attrs before)
    ∙ (ap (λ l. entries_at ids before l v) (sym (none_there behind c.in-None.ensures.cases))
    ∙ (λ i. entries_at ids (c.split_at.ensures.front i) (c.split_at.ensures.back i) v)))))

pub returns-in_ok-push_some-in-Some : goal.returns-in_ok-push_some-in-Some
returns-in_ok-push_some-in-Some c =
    let ids = id_in c.args.ids.now.rows in
    let v = value_of c.args.value in
    let before = c.split_at.result.0.now in
    let behind = plain_attrs c.in-Some.behind.now in
    let name = c.in_ok-clone_in-in-Some.field-0 in
    let rest = some_onto ids behind no_entries in
    sym (onto_nothing c.push_some-in-Some.new.entries)
    ∙ (c.in_ok-push_some-in-Some.ensures no_entries
    ∙ (ap (λ es. entries_onto es rest) c.in_ok-push-in-Some.ensures.ok
    ∙ (onto_more c.push_some.new.entries (name, c.args.value) rest
    ∙ (c.in_ok-push_some.ensures (entry name v rest)
    ∙ (ap (λ es. entries_onto es (some_onto ids (plain_attrs before) (entry name v rest))) c.new-entries.ensures
    ∙ ((λ k. some_onto ids (plain_attrs before)
    (entry (c.in_ok-clone_in-in-Some.ensures k) v (some_onto_nothing ids behind k)))
    ∙ (ap (λ l. entries_at ids before l v) (sym c.in-Some.ensures.cases.0)
    ∙ (λ i. entries_at ids (c.split_at.ensures.front i) (c.split_at.ensures.back i) v))))))))
