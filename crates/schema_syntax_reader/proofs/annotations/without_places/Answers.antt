use Rattle.std.proofs.lemmas.Grind.{common_steps}
use Rattle.std.proofs.Common.{◌≡◌, ◌++◌, map, ap, sym, ◌∙◌, subst, append-nil, length, arith, rules}
use Rattle.std.specs.List.Sorted.{IsStrictlySortedBy}
use Rattle.std.specs.Map.{keys_of}
use Rattle.std.proofs.lemmas.Result.{IfOk-weaker}
use Rattle.cedar_data.specs.Text.{text_cmp}
use Rattle.cedar_identifiers.specs.declared.annotations.Annotations.{Annotations}
use Rattle.schema_syntax_reader.specs.Collected.{note_of_entry}
use Rattle.schema_syntax_reader.proofs.Keys.{key_cmp}
use Rattle.schema_syntax_reader.proofs.RisingNotes.{same_keys, rising_texts}
use Rattle.schema_syntax_reader.proofs.annotations.without_places.Goals as goal

pub loop-key-init : goal.loop-key-init
loop-key-init c = (search rules, search rules)

pub push_reserved-requires : goal.push_reserved-requires
push_reserved-requires c =
    let next = ap length c.in-Some.ensures.steps in omega (arith, next, c.loop-key.invariant.1)

pub from_sorted_vec-requires : goal.from_sorted_vec-requires
from_sorted_vec-requires c =
    let all : c.loop-key.notes.items ≡ map note_of_entry c.args.tree.entries = sym (append-nil _)
    ∙ (ap (λ rest. c.loop-key.notes.items ++ map note_of_entry rest) (sym c.in-None.ensures.steps.0)
    ∙ c.loop-key.invariant.0) in
    subst (IsStrictlySortedBy key_cmp) (sym (ap keys_of all ∙ same_keys c.args.tree.entries)) c.len.ensures.ordered

pub returns-clause-notes : goal.returns-clause-notes
returns-clause-notes c =
    let all : c.from_sorted_vec.result ≡ map note_of_entry c.args.tree.entries =
    c.from_sorted_vec.ensures ∙ (sym (append-nil _)
    ∙ (ap (λ rest. c.loop-key.notes.items ++ map note_of_entry rest) (sym c.in-None.ensures.steps.0)
    ∙ c.loop-key.invariant.0)) in
    IfOk-weaker c.from_map.result (λ (notes : Annotations). notes.0 ≡ c.from_sorted_vec.result)
    (λ notes. notes.0 ≡ map note_of_entry c.args.tree.entries) (λ notes same. same ∙ all) c.from_map.ensures

pub returns-clause-rising : goal.returns-clause-rising
returns-clause-rising c =
    let all : c.from_sorted_vec.result ≡ map note_of_entry c.args.tree.entries =
    c.from_sorted_vec.ensures ∙ (sym (append-nil _)
    ∙ (ap (λ rest. c.loop-key.notes.items ++ map note_of_entry rest) (sym c.in-None.ensures.steps.0)
    ∙ c.loop-key.invariant.0)) in
    IfOk-weaker c.from_map.result (λ (notes : Annotations). notes.0 ≡ c.from_sorted_vec.result)
    (λ notes. IsStrictlySortedBy text_cmp (map (λ note. note.0.text) notes.0))
    (λ notes same. subst (λ l. IsStrictlySortedBy text_cmp (map (λ note. note.0.text) l)) (sym same)
    (rising_texts c.from_sorted_vec.result
    (subst (IsStrictlySortedBy key_cmp) (sym (ap keys_of all ∙ same_keys c.args.tree.entries)) c.len.ensures.ordered)))
    c.from_map.ensures

pub loop-key-preserved : goal.loop-key-preserved
loop-key-preserved c = grind (arith, common_steps)
