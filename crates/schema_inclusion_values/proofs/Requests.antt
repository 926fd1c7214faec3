-- Requests, and ancestors of actions, that are lost.
use Rattle.std.proofs.Common.{◌≡◌, Bool, true, false, cond, List, [], ◌∷◌, Option, Some, None, inl, refl, sym, subst}
use Rattle.std.specs.Prelude.{◌&&◌, MatchOption, option_map}
use Rattle.std.specs.Str.{bytes_eq, encode_utf8_all}
use Rattle.std.specs.Cmp.{IsTotalOrder, on_total, then_total}
use Rattle.std.proofs.lemmas.Cmp.{nat_list_cmp_total}
use Rattle.cedar_names.specs.Definitions.{same_name}
use Rattle.cedar_names.proofs.Defined.{equal_names, name_itself}
use Rattle.cedar_names.specs.Meaning.{PlainType, ActionMeaning, SchemaMeaning}
use Rattle.schema_inclusion_values.specs.Values.{Text, Name, Val, Entries, Has}
use Rattle.schema_inclusion_values.specs.Values as values
use Rattle.schema_inclusion_values.specs.Ids.{AnyOf, Fits, HasChoices, some_id}
use Rattle.schema_inclusion_values.specs.Admits.{Action, RequestValue, ActionIn, IsRequestOf, Admits, a_request}
use Rattle.schema_inclusion_values.specs.Admits.{an_action, action_order}
use Rattle.schema_inclusion_values.specs.Whole.{IsWholeAction, IsWhole, action_name}
use Rattle.schema_inclusion_values.specs.Lost.{or_else, same_key, lost_member, lost_entries, request_with, some_context}
use Rattle.schema_inclusion_values.specs.Lost.{lost_request_between, lost_request_to, lost_request_of, new_action}
use Rattle.schema_inclusion_values.specs.Lost.{lost_request, ancestors_of, lost_action}
use Rattle.schema_inclusion_values.proofs.Values.{same, same_itself, has_some}
use Rattle.schema_inclusion_values.proofs.Lost.{Finds, formed, entries_lost, member_lost}
use Rattle.schema_inclusion_values.proofs.Walks.{Stands, stands}
use Rattle.schema_inclusion_values.proofs.Entities.{name_total}

pub action_total : IsTotalOrder action_order
action_total = then_total (on_total (λ (a : Action). a.0) name_total)
    (on_total (λ (a : Action). encode_utf8_all a.1) nat_list_cmp_total)

both_true : (b c : Bool) → (b && c) ≡ true → (b ≡ true) × (c ≡ true)
both_true true c h = (refl, h)
both_true false c h = absurd (cc)

true_both : (b c : Bool) → b ≡ true → c ≡ true → (b && c) ≡ true
true_both true c h g = g
true_both false c h g = absurd (cc)

pub equal_keys : (a b : Action) → same_key a b ≡ true → a ≡ b
equal_keys a b h = let two = both_true (same_name a.0 b.0) (bytes_eq a.1 b.1) h in λ i.
    (equal_names a.0 b.0 two.0 i, same a.1 b.1 two.1 i)

pub key_itself : (a : Action) → same_key a a ≡ true
key_itself a = true_both (same_name a.0 a.0) (bytes_eq a.1 a.1) (name_itself a.0) (same_itself a.1 a.1 refl)

module _ (old new : SchemaMeaning) (full : HasChoices old) (o : ActionMeaning) (wo : IsWholeAction old o) where
  abbrev Like : RequestValue → Type 0
  Like x = (action_name o ≡ x.action) × IsRequestOf old o x

  some_had : Has (Fits old) (PlainType.Rec o.context) (values.Rec (some_context old new o))
  some_had = has_some (Fits old) (some_id old) (PlainType.Rec o.context)
      (formed old (PlainType.Rec o.context) full wo.0 wo.1)

  between : (n : ActionMeaning) (p r : Name) (lp lr : Option Name) (lc : Option Entries) → o.is_external ≡ false
      → n.is_external ≡ false → AnyOf (λ y. y ≡ p) o.principals → AnyOf (λ y. y ≡ r) o.resources
      → Finds (λ a. AnyOf (λ y. y ≡ a) o.principals) (λ a. AnyOf (λ y. y ≡ a) n.principals) lp
      → Finds (λ a. AnyOf (λ y. y ≡ a) o.resources) (λ a. AnyOf (λ y. y ≡ a) n.resources) lr
      → Finds (λ es. Has (Fits old) (PlainType.Rec o.context) (values.Rec es))
      (λ es. Has (Fits new) (PlainType.Rec n.context) (values.Rec es)) lc
      → Finds Like (IsRequestOf new n)
      (or_else (option_map (λ q. request_with old new o q r (some_context old new o)) lp)
      (or_else (option_map (λ q. request_with old new o p q (some_context old new o)) lr)
      (option_map (λ es. request_with old new o p r es) lc)))
  between n p r (Some q) lr lc own nown ip ir hp hr hc = (
    (
      refl,
      record {
        own = own;
        principal = hp.0;
        resource = ir;
        context = some_had;
      },
    ),
    λ g. hp.1 g.principal,
  )
  between n p r None (Some q) lc own nown ip ir hp hr hc = (
    (
      refl,
      record {
        own = own;
        principal = ip;
        resource = hr.0;
        context = some_had;
      },
    ),
    λ g. hr.1 g.resource,
  )
  between n p r None None (Some es) own nown ip ir hp hr hc = (
    (
      refl,
      record {
        own = own;
        principal = ip;
        resource = ir;
        context = hc.0;
      },
    ),
    λ g. hc.1 g.context,
  )
  between n p r None None None own nown ip ir hp hr hc = λ x h. record {
    own = nown;
    principal = hp x.principal h.1.principal;
    resource = hr x.resource h.1.resource;
    context = hc x.context h.1.context;
  }

  abbrev New : RequestValue → ActionMeaning → Type 0
  New x n = IsRequestOf new n x

  abbrev Found : RequestValue → Option ActionMeaning → Type 0
  Found x = Stands action_order action_total action_name same_key equal_keys key_itself (New x) (IsWholeAction new)
      (action_name o) new.actions

  abbrev RequestLost : Option RequestValue → Type 0
  RequestLost found = MatchOption found ((x : RequestValue) → action_name o ≡ x.action → IsRequestOf old o x
      → Admits new (a_request x))
      (λ x. (action_name o ≡ x.action) × IsRequestOf old o x × (Admits new (a_request x) → ⊥))

  abbrev AtAction : RequestValue → Action → Type 0
  AtAction x a = AnyOf (λ e. (action_name e ≡ a) × New x e) new.actions

  lost_between : (n : ActionMeaning) (r : Option RequestValue) → ((x : RequestValue) → Found x (Some n))
      → Finds Like (IsRequestOf new n) r → RequestLost r
  lost_between n None at h = λ x e was. subst (AtAction x) e ((at x).2 (h x (e, was)))
  lost_between n (Some x) at h = (h.0.0, h.0.1, λ g. h.1 ((at x).3 (subst (AtAction x) (sym h.0.0) g)))

  module _ (p r : Name) (ip : AnyOf (λ y. y ≡ p) o.principals) (ir : AnyOf (λ y. y ≡ r) o.resources)
      (own : o.is_external ≡ false) where
    some_request : IsRequestOf old o (request_with old new o p r (some_context old new o))
    some_request = record { own = own; principal = ip; resource = ir; context = some_had }

    lost_to : (n : ActionMeaning) (b : Bool) → n.is_external ≡ b → ((x : RequestValue) → Found x (Some n))
        → RequestLost (cond b (Some (request_with old new o p r (some_context old new o)))
        (lost_request_between old new o n p r))
    lost_to n true e at = (
      refl,
      some_request,
      λ g. let q =
          ((at (request_with old new o p r (some_context old new o))).3 g).own in absurd (cc),
    )
    lost_to n false e at =
        let wn = (at (request_with old new o p r (some_context old new o))).1 in
        lost_between n (lost_request_between old new o n p r) at
        (between n p r (lost_member same_name o.principals n.principals) (lost_member same_name o.resources n.resources)
        (lost_entries old new o.context n.context) own e ip ir
        (member_lost same_name equal_names name_itself o.principals n.principals)
        (member_lost same_name equal_names name_itself o.resources n.resources)
        (entries_lost old new full o.context n.context wo wn.0))

    lost_found : (found : Option ActionMeaning) → ((x : RequestValue) → Found x found)
        → RequestLost (lost_request_to old new o p r found)
    lost_found None at = (refl, some_request, λ g. at (request_with old new o p r (some_context old new o)) g)
    lost_found (Some n) at = lost_to n n.is_external refl at

  lost_of_lists : (ps rs : List Name) (found : Option ActionMeaning) → o.principals ≡ ps → o.resources ≡ rs
      → ((x : RequestValue) → Found x found) → o.is_external ≡ false
      → RequestLost (lost_request_of old new o found ps rs)
  lost_of_lists (p ∷ ps) (r ∷ rs) found ep er at own = lost_found p r
      (subst (λ xs. AnyOf (λ y. y ≡ p) xs) (sym ep) (inl refl))
      (subst (λ xs. AnyOf (λ y. y ≡ r) xs) (sym er) (inl refl)) own found at
  lost_of_lists [] rs found ep er at own = λ x e was.
      absurd (subst (λ xs. AnyOf (λ y. y ≡ x.principal) xs) ep was.principal)
  lost_of_lists (p ∷ ps) [] found ep er at own = λ x e was.
      absurd (subst (λ xs. AnyOf (λ y. y ≡ x.resource) xs) er was.resource)

  own_or_not : (b : Bool) (found : Option ActionMeaning) → o.is_external ≡ b → ((x : RequestValue) → Found x found)
      → RequestLost (cond b None (lost_request_of old new o found o.principals o.resources))
  own_or_not true found e at = λ x q was. let w = was.own in absurd (cc)
  own_or_not false found e at = lost_of_lists o.principals o.resources found refl refl at e

  pub request_lost : IsWhole new → RequestLost (lost_request old new o)
  request_lost wn = own_or_not o.is_external (new_action old new o) refl
      (λ x. stands action_order action_total action_name same_key equal_keys key_itself (New x) (IsWholeAction new)
      (action_name o) new.actions wn.actions_rise wn.actions)

  -- ---- ancestors

  abbrev Above : Action → ActionMeaning → Type 0
  Above b n = AnyOf (λ y. y ≡ b) n.ancestors

  abbrev FoundAbove : Action → Option ActionMeaning → Type 0
  FoundAbove b = Stands action_order action_total action_name same_key equal_keys key_itself (Above b)
      (IsWholeAction new) (action_name o) new.actions

  abbrev AboveAt : Action → Action → Type 0
  AboveAt b a = AnyOf (λ e. (action_name e ≡ a) × Above b e) new.actions

  abbrev ActionLost : Option ActionIn → Type 0
  ActionLost found = MatchOption found ((x : ActionIn) → action_name o ≡ x.action → Above x.ancestor o
      → Admits new (an_action x))
      (λ x. (action_name o ≡ x.action) × Above x.ancestor o × (Admits new (an_action x) → ⊥))

  above_to : (b : Action) (found : Option ActionMeaning) → FoundAbove b found
      → AnyOf (λ y. y ≡ b) (ancestors_of old new found) → AboveAt b (action_name o)
  above_to b None at h = absurd h
  above_to b (Some n) at h = at.2 h

  above_from : (b : Action) (found : Option ActionMeaning) → FoundAbove b found → AboveAt b (action_name o)
      → AnyOf (λ y. y ≡ b) (ancestors_of old new found)
  above_from b None at h = absurd (at h)
  above_from b (Some n) at h = at.3 h

  above_found : (found : Option ActionMeaning) (l : Option Action) → ((b : Action) → FoundAbove b found)
      → Finds (λ b. AnyOf (λ y. y ≡ b) o.ancestors) (λ b. AnyOf (λ y. y ≡ b) (ancestors_of old new found)) l
      → ActionLost (option_map (λ b. record { action = action_name o; ancestor = b }) l)
  above_found found None at h = λ x e was. subst (AboveAt x.ancestor) e
      (above_to x.ancestor found (at x.ancestor) (h x.ancestor was))
  above_found found (Some b) at h = (refl, h.0, λ g. h.1 (above_from b found (at b) g))

  pub action_lost : IsWhole new → ActionLost (lost_action old new o)
  action_lost wn = above_found (new_action old new o)
      (lost_member same_key o.ancestors (ancestors_of old new (new_action old new o)))
      (λ b. stands action_order action_total action_name same_key equal_keys key_itself (Above b) (IsWholeAction new)
      (action_name o) new.actions wn.actions_rise wn.actions)
      (member_lost same_key equal_keys key_itself o.ancestors (ancestors_of old new (new_action old new o)))
