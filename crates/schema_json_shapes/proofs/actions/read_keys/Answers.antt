use Rattle.std.proofs.Common.{◌≡◌, [], ◌∷◌, ◌++◌, string_bytes, sym, ap, ◌∙◌, subst, append_assoc, append-nil}
use Rattle.std.specs.Str.{chars, encode_utf8_all}
use Rattle.std.proofs.lemmas.Str.{encodes-chars}
use Rattle.std.specs.List.Sorted.{IsStrictlySortedBy}
use Rattle.serde_json.specs.View.{members_view}
use Rattle.cedar_data.specs.Text.{text_cmp}
use Rattle.schema_json_shapes.specs.Shapes.{key_texts}
use Rattle.schema_json_shapes.proofs.KeyTexts.{Spelled, keys_rise}
use Rattle.schema_json_shapes.proofs.actions.read_keys.Goals as goal

pub loop-key-preserved : goal.loop-key-preserved
loop-key-preserved c =
    let l = c.loop-key in
    let left = c.next.new.self in
    let key = string_bytes c.in-Some.key.now in
    let spelling : encode_utf8_all (chars key)
    ≡ key = subst (λ bs. encode_utf8_all (chars bs) ≡ bs) c.as_str.ensures.value
    (encodes-chars c.as_str.result.now c.as_str.utf8) in
    record {
      keys =
          ap (λ ys. ys ++ key_texts (members_view left))
          (c.in_ok-push.ensures.items ∙ ap (λ t. l.keys.items ++ t ∷ [])
          (c.in_ok-from_str.ensures ∙ ap chars c.as_str.ensures.value))
          ∙ append_assoc l.keys.items (chars key ∷ []) (key_texts (members_view left))
          ∙ sym (ap (λ es. l.keys.items ++ key_texts (members_view es)) c.in-Some.ensures.steps) ∙ l.invariant.keys;
      spelled = λ s. l.invariant.spelled (subst Spelled (sym c.in-Some.ensures.steps) (spelling, s));
    }

pub from_sorted_vec-requires : goal.from_sorted_vec-requires
from_sorted_vec-requires c =
    let l = c.loop-key in
    let es = c.args.members.now.entries in
    let ended : l.key-iterator ≡ [] = c.in-None.ensures.steps.0 in
    let all : l.keys.items ≡ key_texts (members_view es) = sym (append-nil _)
    ∙ ap (λ xs. l.keys.items ++ key_texts (members_view xs)) (sym ended) ∙ l.invariant.keys in
    subst (IsStrictlySortedBy text_cmp) (sym all)
    (keys_rise es (l.invariant.spelled (subst Spelled (sym ended) tt)) c.len.ensures.ordered)
