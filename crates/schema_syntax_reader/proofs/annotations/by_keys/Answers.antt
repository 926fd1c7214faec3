use Rattle.std.proofs.Common.{◌≡◌, ◌+◌, ◌∷◌, drop, sym, ap, ◌∙◌, subst}
use Rattle.std.proofs.lemmas.List.{drop_more}
use Rattle.std.specs.BTreeMap.{is_at, insert_entry}
use Rattle.std.specs.Map.{lookup}
use Rattle.schema_syntax_errors.specs.declared.user_error.UserError.TheVariants.{DuplicateAnnotations}
use Rattle.schema_syntax_reader.specs.Deduplicated.{placed_key, key_place, IsTwice}
use Rattle.schema_syntax_reader.specs.Collected.{entry_of}
use Rattle.schema_syntax_reader.proofs.Keys.{key_cmp, has_more, has_twice, found_place, found_none}
use Rattle.schema_syntax_reader.proofs.annotations.by_keys.Goals as goal

pub returns-in-Some-clause-twice : goal.returns-in-Some-clause-twice
returns-in-Some-clause-twice c =
    let all = c.args.annotations.now in
    let at = c.loop-annotation.annotation-index in
    let a = c.annotation-item.result in
    let entries = c.loop-annotation.tree.entries in
    let next : drop at all ≡ a ∷ drop (at + 1) all = drop_more all at a c.loop-annotation-test.true
    ∙ ap (λ x. x ∷ drop (at + 1) all) (sym c.annotation-item.is) in
    let old = found_place (lookup (is_at (key_cmp (placed_key a))) entries) c.in-Some.loc
    (sym c.in-Some.is ∙ c.place_in.ensures) in
    subst (λ k. IsTwice all (DuplicateAnnotations k (record { node = tt; loc = c.in-Some.loc })
    (record { node = tt; loc = key_place a }))) (sym c.in_ok-id.ensures)
    (subst (λ l. IsTwice all (DuplicateAnnotations (placed_key a) (record { node = tt; loc = l })
    (record { node = tt; loc = key_place a }))) old.2
    (has_twice all (drop at all) (drop (at + 1) all) a entries old.0 c.loop-annotation.invariant next old.1))

pub loop-annotation-preserved : goal.loop-annotation-preserved
loop-annotation-preserved c =
    let all = c.args.annotations.now in
    let at = c.loop-annotation.annotation-index in
    let a = c.annotation-item.result in
    let entries = c.loop-annotation.tree.entries in
    let next : drop at all ≡ a ∷ drop (at + 1) all = drop_more all at a c.loop-annotation-test.true
    ∙ ap (λ x. x ∷ drop (at + 1) all) (sym c.annotation-item.is) in
    let none = found_none (lookup (is_at (key_cmp (placed_key a))) entries)
    (sym c.in_default.is ∙ c.place_in.ensures) in
    let into = c.in_ok-insert.ensures.entries
    ∙ ap (λ v. insert_entry key_cmp entries c.again.result (record { value = v; place = key_place a }))
    c.without_place.ensures
    ∙ ap (λ k. insert_entry key_cmp entries k (entry_of a).1) c.again.ensures in
    has_more all (drop at all) (drop (at + 1) all) a entries c.insert.new.self.entries c.loop-annotation.invariant next
    none into
