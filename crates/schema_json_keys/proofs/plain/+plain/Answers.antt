use Rattle.std.proofs.Common.{◌≡◌, ◌-◌, ◌<◌, [], ◌∷◌, ◌++◌, length, None, Some, sym, ap, ◌∙◌, subst, arith, rules}
use Rattle.std.proofs.Common.{string_bytes, string_cmp, false}
use Rattle.std.specs.Prelude.{is_some}
use Rattle.std.specs.List.{list_any}
use Rattle.std.specs.Str.{bytes_eq}
use Rattle.std.specs.Map.{lookup}
use Rattle.std.specs.BTreeMap.{is_at}
use Rattle.json.specs.Token.{Token}
use Rattle.json.specs.Json.{after_end_array, read_key, items, members, value}
use Rattle.json.specs.Reads.{token_of}
use Rattle.json.proofs.Grammar.{read_key-shorter}
use Rattle.serde_json.specs.Data.{null, boolean, string, item, no_items, put}
use Rattle.serde_json.specs.Find.{get_member}
use Rattle.serde_json.specs.View.{view, members_view}
use Rattle.serde_json.specs.declared.value.Value.{String, Bool, Null, the_lemmas}
use Rattle.serde_json.proofs.Views.{view-Array, view-Object, members_view-insert_entry}
use Rattle.schema_json_keys.specs.Plain.{IsPlainValue, ArePlainItems, ArePlainMembers}
use Rattle.schema_json_keys.proofs.Plainly.{plain_string, plain_boolean, plain_null, plain_array, plain_object}
use Rattle.schema_json_keys.proofs.Plainly.{no_more_items, one_item, no_more_members, one_member, items_before}
use Rattle.schema_json_keys.proofs.Plainly.{items_before-no_items, items_before-append, one_more_key, not_had}
use Rattle.schema_json_keys.proofs.plain.+plain.Goals as goal

pub read_value-returns-in_ok-from_str-in-String-clause-plain :
    goal.read_value-returns-in_ok-from_str-in-String-clause-plain
read_value-returns-in_ok-from_str-in-String-clause-plain t c =
    let first : c.args.reader.now ≡ token_of c.in_ok-token.token ∷ c.next.new.self = grind arith in
    let is : c.args.reader.now ≡ Token.string c.in-String.text.now ∷ c.next.new.self = grind (arith, first) in
    let seen : view (String c.in_ok-from_str-in-String.field-0) ≡ string c.in-String.text.now = search
    (rules, the_lemmas) in
    subst (λ d. IsPlainValue (value c.args.depth c.args.reader.now) d c.next.new.self) (sym seen)
    (plain_string c.args.depth c.in-String.text.now c.args.reader.now c.next.new.self is)

pub read_value-returns-in-Bool-clause-plain : goal.read_value-returns-in-Bool-clause-plain
read_value-returns-in-Bool-clause-plain t c =
    let first : c.args.reader.now ≡ token_of c.in_ok-token.token ∷ c.next.new.self = grind arith in
    let is : c.args.reader.now ≡ Token.boolean c.in-Bool.b ∷ c.next.new.self = grind (arith, first) in
    let seen : view (Bool c.in-Bool.b) ≡ boolean c.in-Bool.b = search (rules, the_lemmas) in
    subst (λ d. IsPlainValue (value c.args.depth c.args.reader.now) d c.next.new.self) (sym seen)
    (plain_boolean c.args.depth c.in-Bool.b c.args.reader.now c.next.new.self is)

pub read_value-returns-in-Null-clause-plain : goal.read_value-returns-in-Null-clause-plain
read_value-returns-in-Null-clause-plain t c =
    let first : c.args.reader.now ≡ token_of c.in_ok-token.token ∷ c.next.new.self = grind arith in
    let is : c.args.reader.now ≡ Token.null ∷ c.next.new.self = grind (arith, first) in
    let seen : view Null ≡ null = search (rules, the_lemmas) in
    subst (λ d. IsPlainValue (value c.args.depth c.args.reader.now) d c.next.new.self) (sym seen)
    (plain_null c.args.depth c.args.reader.now c.next.new.self is)

pub read_value-returns-in_ok-read_items-in-BeginArray-clause-plain :
    goal.read_value-returns-in_ok-read_items-in-BeginArray-clause-plain
read_value-returns-in_ok-read_items-in-BeginArray-clause-plain t c =
    let first : c.args.reader.now ≡ token_of c.in_ok-token.token ∷ c.next.new.self = grind arith in
    let is : c.args.reader.now ≡ Token.begin_array ∷ c.next.new.self = grind (arith, first) in
    let found = c.in_ok-read_items-in-BeginArray in
    subst (λ d. IsPlainValue (value c.args.depth c.args.reader.now) d c.read_items.new.reader)
    (sym (view-Array found.field-0))
    (plain_array c.args.depth c.args.reader.now c.next.new.self _ c.read_items.new.reader (omega arith) is
    found.ensures.plain)

pub read_value-returns-in_ok-read_members-in-BeginObject-clause-plain :
    goal.read_value-returns-in_ok-read_members-in-BeginObject-clause-plain
read_value-returns-in_ok-read_members-in-BeginObject-clause-plain t c =
    let first : c.args.reader.now ≡ token_of c.in_ok-token.token ∷ c.next.new.self = grind arith in
    let is : c.args.reader.now ≡ Token.begin_object ∷ c.next.new.self = grind (arith, first) in
    let found = c.in_ok-read_members-in-BeginObject in
    subst (λ d. IsPlainValue (value c.args.depth c.args.reader.now) d c.read_members.new.reader)
    (sym (view-Object found.field-0))
    (plain_object c.args.depth c.args.reader.now c.next.new.self _ c.read_members.new.reader (omega arith) is
    found.ensures.plain)

pub read_items-items-init : goal.read_items-items-init
read_items-items-init t c = record {
  turns = length c.args.reader.now;
  enough = omega arith;
  whole = λ more rest h. subst
      (λ vs. ArePlainItems (items (value c.args.depth) (length c.args.reader.now) c.args.reader.now)
      (items_before vs more) rest) (sym c.new-found.ensures.items) h;
  within = omega arith;
}

pub read_items-items-preserved : goal.read_items-items-preserved
read_items-items-preserved t c =
    let p = value c.args.depth in
    let l = c.items in
    let n = l.invariant.turns in
    let all = items p (length c.args.reader.now) c.args.reader.now in
    let going : (after_end_array l.reader ≡ None) × (c.take_end_array.new.self ≡ l.reader) = grind arith in
    let done = c.in_ok-item.ensures in
    let v = c.in_ok-item.item in
    let r = c.read_value.new.reader in
    let less : length r < length l.reader = rw (← going.1) done.shorter in
    let here : IsPlainValue (p l.reader) (view v) r = subst (λ ts. IsPlainValue (p ts) (view v) r) going.1 done.plain in
    record {
      turns = n - 1;
      enough = omega (arith, l.invariant.enough);
      whole = λ more rest h.
          subst (λ ds. ArePlainItems all ds rest)
          (items_before-append l.found.items v more
          ∙ ap (λ vs. items_before vs more) (sym c.in_ok-push.ensures.items))
          (l.invariant.whole (item (view v) more) rest
          (one_item p n l.reader r (view v) (omega (arith, l.invariant.enough)) going.0 here more rest h));
      within = omega (arith, l.invariant.within);
    }

pub read_items-returns-clause-plain : goal.read_items-returns-clause-plain
read_items-returns-clause-plain t c =
    let p = value c.args.depth in
    let l = c.items in
    let r = c.take_end_array.new.self in
    subst (λ ds. ArePlainItems (items p (length c.args.reader.now) c.args.reader.now) ds r)
    (items_before-no_items l.found.items)
    (l.invariant.whole no_items r (no_more_items p l.invariant.turns l.reader r l.invariant.enough (grind arith)))

pub read_members-members-init : goal.read_members-members-init
read_members-members-init t c = record {
  turns = length c.args.reader.now;
  earlier = [];
  enough = omega arith;
  whole = λ all rest h. subst
      (λ es. ArePlainMembers [] (members_view es)
      (members (value c.args.depth) (length c.args.reader.now) c.args.reader.now) all rest)
      c.new-found.ensures.empty h;
  keys = λ name. ap (λ es. is_some (get_member name (members_view es))) c.new-found.ensures.empty;
  within = omega arith;
}

pub read_members-members-preserved : goal.read_members-members-preserved
read_members-members-preserved t c =
    let p = value c.args.depth in
    let l = c.members in
    let n = l.invariant.turns in
    let ks = l.invariant.earlier in
    let old = members_view l.found.entries in
    let k = c.in-Some.name.now in
    let s = c.next_key.new.self in
    let named : read_key l.reader ≡ Some (Some k, s) = grind arith in
    let done = c.in_ok-member.ensures in
    let v = c.in_ok-member.member in
    let r = c.read_value.new.reader in
    let less = read_key-shorter l.reader (Some k) s named in
    let lesser = done.shorter in
    let copied : string_bytes c.in_ok-key.key ≡ k = search rules in
    let inserted : members_view c.insert.new.self.entries ≡ put k (view v) old =
    ap members_view c.in_ok-_earlier.ensures.entries ∙ members_view-insert_entry l.found.entries c.in_ok-key.key v
    ∙ ap (λ name. put name (view v) old) copied in
    let none : None ≡ lookup (is_at (string_cmp c.in_ok-key.key)) l.found.entries =
    sym c.in_default-2.is ∙ c.in_ok-_earlier.ensures.old in
    let apart : list_any (bytes_eq k) ks ≡ false =
    subst (λ name. list_any (bytes_eq name) ks ≡ false) copied
    (not_had ks l.found.entries c.in_ok-key.key l.invariant.keys none) in
    record {
      turns = n - 1;
      earlier = ks ++ k ∷ [];
      enough = omega (arith, l.invariant.enough);
      whole = λ all rest h. l.invariant.whole all rest
          (one_member p n ks old k l.reader s r (view v) (omega (arith, l.invariant.enough)) named done.plain apart all
          rest (subst (λ ms. ArePlainMembers (ks ++ k ∷ []) ms (members p (n - 1) r) all rest) inserted h));
      keys = λ name. ap (λ ms. is_some (get_member name ms)) inserted
          ∙ one_more_key ks old k (view v) l.invariant.keys name;
      within = omega (arith, l.invariant.within);
    }

pub read_members-returns-clause-plain : goal.read_members-returns-clause-plain
read_members-returns-clause-plain t c =
    let p = value c.args.depth in
    let l = c.members in
    l.invariant.whole (members_view l.found.entries) c.next_key.new.self
    (no_more_members p l.invariant.turns l.invariant.earlier (members_view l.found.entries) l.reader c.next_key.new.self
    l.invariant.enough (grind arith))

pub read_items-returns-clause-shorter : goal.read_items-returns-clause-shorter
read_items-returns-clause-shorter t c = search rules

pub read_items-returns-in_err-item-clause-plain : goal.read_items-returns-in_err-item-clause-plain
read_items-returns-in_err-item-clause-plain t c = search rules

pub read_items-returns-in_err-item-clause-shorter : goal.read_items-returns-in_err-item-clause-shorter
read_items-returns-in_err-item-clause-shorter t c = search rules

pub read_items-returns-in_err-push-clause-plain : goal.read_items-returns-in_err-push-clause-plain
read_items-returns-in_err-push-clause-plain t c = search rules

pub read_items-returns-in_err-push-clause-shorter : goal.read_items-returns-in_err-push-clause-shorter
read_items-returns-in_err-push-clause-shorter t c = search rules

pub read_members-returns-clause-shorter : goal.read_members-returns-clause-shorter
read_members-returns-clause-shorter t c = search rules

pub read_members-returns-in-Some-2-clause-plain : goal.read_members-returns-in-Some-2-clause-plain
read_members-returns-in-Some-2-clause-plain t c = search rules

pub read_members-returns-in-Some-2-clause-shorter : goal.read_members-returns-in-Some-2-clause-shorter
read_members-returns-in-Some-2-clause-shorter t c = search rules

pub read_members-returns-in_err-_earlier-clause-plain : goal.read_members-returns-in_err-_earlier-clause-plain
read_members-returns-in_err-_earlier-clause-plain t c = search rules

pub read_members-returns-in_err-_earlier-clause-shorter : goal.read_members-returns-in_err-_earlier-clause-shorter
read_members-returns-in_err-_earlier-clause-shorter t c = search rules

pub read_members-returns-in_err-key-clause-plain : goal.read_members-returns-in_err-key-clause-plain
read_members-returns-in_err-key-clause-plain t c = search rules

pub read_members-returns-in_err-key-clause-shorter : goal.read_members-returns-in_err-key-clause-shorter
read_members-returns-in_err-key-clause-shorter t c = search rules

pub read_members-returns-in_err-member-clause-plain : goal.read_members-returns-in_err-member-clause-plain
read_members-returns-in_err-member-clause-plain t c = search rules

pub read_members-returns-in_err-member-clause-shorter : goal.read_members-returns-in_err-member-clause-shorter
read_members-returns-in_err-member-clause-shorter t c = search rules

pub read_members-returns-in_err-name-clause-plain : goal.read_members-returns-in_err-name-clause-plain
read_members-returns-in_err-name-clause-plain t c = search rules

pub read_members-returns-in_err-name-clause-shorter : goal.read_members-returns-in_err-name-clause-shorter
read_members-returns-in_err-name-clause-shorter t c = search rules

pub read_value-returns-in-Bool-clause-shorter : goal.read_value-returns-in-Bool-clause-shorter
read_value-returns-in-Bool-clause-shorter t c = search rules

pub read_value-returns-in-Null-clause-shorter : goal.read_value-returns-in-Null-clause-shorter
read_value-returns-in-Null-clause-shorter t c = search rules

pub read_value-returns-in-Number-clause-plain : goal.read_value-returns-in-Number-clause-plain
read_value-returns-in-Number-clause-plain t c = search rules

pub read_value-returns-in-Number-clause-shorter : goal.read_value-returns-in-Number-clause-shorter
read_value-returns-in-Number-clause-shorter t c = search rules

pub read_value-returns-in_err-from_str-in-String-clause-plain : goal.read_value-returns-in_err-from_str-in-String-clause-plain
read_value-returns-in_err-from_str-in-String-clause-plain t c = search rules

pub read_value-returns-in_err-from_str-in-String-clause-shorter : goal.read_value-returns-in_err-from_str-in-String-clause-shorter
read_value-returns-in_err-from_str-in-String-clause-shorter t c = search rules

pub read_value-returns-in_err-read_items-in-BeginArray-clause-plain : goal.read_value-returns-in_err-read_items-in-BeginArray-clause-plain
read_value-returns-in_err-read_items-in-BeginArray-clause-plain t c = search rules

pub read_value-returns-in_err-read_items-in-BeginArray-clause-shorter : goal.read_value-returns-in_err-read_items-in-BeginArray-clause-shorter
read_value-returns-in_err-read_items-in-BeginArray-clause-shorter t c = search rules

pub read_value-returns-in_err-read_members-in-BeginObject-clause-plain : goal.read_value-returns-in_err-read_members-in-BeginObject-clause-plain
read_value-returns-in_err-read_members-in-BeginObject-clause-plain t c = search rules

pub read_value-returns-in_err-read_members-in-BeginObject-clause-shorter : goal.read_value-returns-in_err-read_members-in-BeginObject-clause-shorter
read_value-returns-in_err-read_members-in-BeginObject-clause-shorter t c = search rules

pub read_value-returns-in_err-token-clause-plain : goal.read_value-returns-in_err-token-clause-plain
read_value-returns-in_err-token-clause-plain t c = search rules

pub read_value-returns-in_err-token-clause-shorter : goal.read_value-returns-in_err-token-clause-shorter
read_value-returns-in_err-token-clause-shorter t c = search rules

pub read_value-returns-in_ok-from_str-in-String-clause-shorter : goal.read_value-returns-in_ok-from_str-in-String-clause-shorter
read_value-returns-in_ok-from_str-in-String-clause-shorter t c = search rules

pub read_value-returns-in_ok-read_items-in-BeginArray-clause-shorter : goal.read_value-returns-in_ok-read_items-in-BeginArray-clause-shorter
read_value-returns-in_ok-read_items-in-BeginArray-clause-shorter t c = search rules

pub read_value-returns-in_ok-read_members-in-BeginObject-clause-shorter : goal.read_value-returns-in_ok-read_members-in-BeginObject-clause-shorter
read_value-returns-in_ok-read_members-in-BeginObject-clause-shorter t c = search rules

pub read_value-returns-then-depth-eq0-2-clause-plain : goal.read_value-returns-then-depth-eq0-2-clause-plain
read_value-returns-then-depth-eq0-2-clause-plain t c = search rules

pub read_value-returns-then-depth-eq0-2-clause-shorter : goal.read_value-returns-then-depth-eq0-2-clause-shorter
read_value-returns-then-depth-eq0-2-clause-shorter t c = search rules

pub read_value-returns-then-depth-eq0-clause-plain : goal.read_value-returns-then-depth-eq0-clause-plain
read_value-returns-then-depth-eq0-clause-plain t c = search rules

pub read_value-returns-then-depth-eq0-clause-shorter : goal.read_value-returns-then-depth-eq0-clause-shorter
read_value-returns-then-depth-eq0-clause-shorter t c = search rules
