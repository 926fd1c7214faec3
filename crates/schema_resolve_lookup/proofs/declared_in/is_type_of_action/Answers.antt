use Rattle.std.proofs.Common.{ap, sym, ◌∙◌, ◌&&◌}
use Rattle.std.specs.Option.{option_copied}
use Rattle.schema_resolve_lookup.specs.Sought.{words_before, is_some_list, passes, passes_in}
use Rattle.schema_resolve_lookup.proofs.Looked.{types_given, is_action_word}
use Rattle.schema_resolve_lookup.proofs.declared_in.is_type_of_action.Goals as goal

pub returns-in-Some : goal.returns-in-Some
returns-in-Some c =
    let words = words_before c.args.sought.namespace in
    let word = c.args.sought.last.now.text in
    let named = is_action_word word _ _ c.as_str.ensures c.same_bytes.ensures ∙ c.if-same_bytes.true in
    let found = c.namespace_of.ensures _
    ∙ ap (λ n. passes (option_copied n) (λ n. is_some_list n.actions)) c.in-Some.is in
    c.has_actions.ensures ∙ sym (types_given c.args.searched.now.fragment.now words word ∙ (λ i. named i && found i))

pub returns-in-None : goal.returns-in-None
returns-in-None c =
    let words = words_before c.args.sought.namespace in
    let word = c.args.sought.last.now.text in
    let named = is_action_word word _ _ c.as_str.ensures c.same_bytes.ensures ∙ c.if-same_bytes.true in
    let found = c.namespace_of.ensures _
    ∙ ap (λ n. passes (option_copied n) (λ n. is_some_list n.actions)) c.in-None.is in
    sym (types_given c.args.searched.now.fragment.now words word ∙ (λ i. named i && found i))

pub returns-else-same_bytes : goal.returns-else-same_bytes
returns-else-same_bytes c =
    let words = words_before c.args.sought.namespace in
    let word = c.args.sought.last.now.text in
    let named = is_action_word word _ _ c.as_str.ensures c.same_bytes.ensures ∙ c.if-same_bytes.false in
    c.if-same_bytes.false ∙ sym (types_given c.args.searched.now.fragment.now words word
    ∙ ap (λ b. b && passes_in c.args.searched.now.fragment.now words (λ n. is_some_list n.actions)) named)
