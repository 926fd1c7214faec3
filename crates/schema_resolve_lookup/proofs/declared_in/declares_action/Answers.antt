use Rattle.std.proofs.Common.{ap, sym, ◌∙◌, ◌&&◌}
use Rattle.std.specs.List.{list_any}
use Rattle.std.specs.Option.{option_copied}
use Rattle.std.specs.Str.{bytes_eq, encode_utf8_all}
use Rattle.schema_resolve_lookup.specs.Sought.{words_before, passes, passes_in}
use Rattle.schema_resolve_lookup.proofs.Looked.{actions_given, is_action_word}
use Rattle.schema_resolve_lookup.proofs.declared_in.declares_action.Goals as goal

pub returns-in-Some : goal.returns-in-Some
returns-in-Some c =
    let words = words_before c.args.sought.namespace in
    let word = c.args.sought.last.now.text in
    let id = c.args.id.now in
    let named = is_action_word word _ _ c.as_str.ensures c.same_bytes.ensures ∙ c.if-same_bytes.true in
    let found = c.namespace_of.ensures _
    ∙ ap (λ n. passes (option_copied n) (λ n. list_any (λ e. bytes_eq (encode_utf8_all id) (encode_utf8_all e.0))
    n.actions)) c.in-Some.is in
    c.has_action.ensures ∙ sym
    (actions_given c.args.searched.now.fragment.now words word id ∙ (λ i. named i && found i))

pub returns-in-None : goal.returns-in-None
returns-in-None c =
    let words = words_before c.args.sought.namespace in
    let word = c.args.sought.last.now.text in
    let id = c.args.id.now in
    let named = is_action_word word _ _ c.as_str.ensures c.same_bytes.ensures ∙ c.if-same_bytes.true in
    let found = c.namespace_of.ensures _
    ∙ ap (λ n. passes (option_copied n) (λ n. list_any (λ e. bytes_eq (encode_utf8_all id) (encode_utf8_all e.0))
    n.actions)) c.in-None.is in
    sym (actions_given c.args.searched.now.fragment.now words word id ∙ (λ i. named i && found i))

pub returns-else-same_bytes : goal.returns-else-same_bytes
returns-else-same_bytes c =
    let words = words_before c.args.sought.namespace in
    let word = c.args.sought.last.now.text in
    let id = c.args.id.now in
    let named = is_action_word word _ _ c.as_str.ensures c.same_bytes.ensures ∙ c.if-same_bytes.false in
    c.if-same_bytes.false ∙ sym (actions_given c.args.searched.now.fragment.now words word id
    ∙ ap (λ b. b && passes_in c.args.searched.now.fragment.now words
    (λ n. list_any (λ e. bytes_eq (encode_utf8_all id) (encode_utf8_all e.0)) n.actions)) named)
