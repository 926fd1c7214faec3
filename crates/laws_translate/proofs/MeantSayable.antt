-- What is written of a meaning whose names may be declared can be translated.
use Rattle.std.proofs.Common.{◌≡◌, ◌||◌, ℕ, Bool, true, false, cond, List, [], ◌∷◌, ◌++◌, map, filter, find, flat_map}
use Rattle.std.proofs.Common.{Option, Some, None, refl, sym, ap, ◌∙◌, subst, append-nil, append_assoc, true≢false}
use Rattle.std.proofs.Common.{is_some}
use Rattle.std.specs.BTreeMap.{is_at}
use Rattle.std.specs.BTreeSet.{insert_key}
use Rattle.std.specs.Cmp.{tied_itself}
use Rattle.std.specs.Cmp.Lexicographic.{slice_cmp, pointwise_decides, bytes_decides}
use Rattle.std.specs.List.{AllByRecursion}
use Rattle.std.specs.List.Sorted.{IsStrictlySortedBy}
use Rattle.std.specs.Ordering.{is_eq, is_lt, ordering_reverse, ordering_then, match_ordering}
use Rattle.std.specs.declared.cmp.Ordering.{Ordering}
use Rattle.std.specs.declared.cmp.Ordering.TheVariants.{Less, Equal, Greater}
use Rattle.std.proofs.lemmas.Map.Keys.{sorted_head, sorted_tail}
use Rattle.std.proofs.lemmas.Bool.{or_parts}
use Rattle.std.proofs.lemmas.Option.{same_Some}
use Rattle.cedar_data.proofs.Every.{All-append}
use Rattle.cedar_data.specs.Text.{text_cmp}
use Rattle.cedar_data.proofs.Orders.{text_total, text_exact, equal_from, all_above, texts_total}
use Rattle.cedar_data.proofs.Every.{at_middle}
use Rattle.cedar_identifiers.specs.Names.{has_cedar}
use Rattle.cedar_identifiers.specs.Words.{is_cedar}
use Rattle.cedar_names.specs.CanonicalText.{basename, namespace, in_order, namespaces}
use Rattle.cedar_names.specs.Definitions.{same_name}
use Rattle.cedar_names.specs.Meaning.{EntityMeaning, ActionMeaning, SchemaMeaning, Attributes}
use Rattle.schema_syntax_tree.specs.declared.pr.PR.TheVariants.{Principal, Resource}
use Rattle.laws_written.specs.Meant.{attributes_of_meaning, entity_as, action_as, members_of_meaning}
use Rattle.laws_written.specs.Meant.{entity_of_meaning, action_of_meaning, items_of_meaning, name_or_none}
use Rattle.laws_written.specs.Meant.{group_of_meaning, groups_of_meaning}
use Rattle.laws_written.specs.PrintedDecls.{IsSome, group_items}
use Rattle.laws_written.specs.Written.{WrittenDecl, WrittenDeclared, WrittenItem, types, context_record, outside}
use Rattle.schema_convert_openings.specs.Repeats.{NoneRepeats}
use Rattle.laws_translate.specs.FragmentsSay.{entities_of_decl, actions_of_decl, commons_of_decl, NamespaceName}
use Rattle.laws_translate.specs.FragmentsSay.{namespace_order, WrittenNamespace, items_of_namespace, opened}
use Rattle.laws_translate.specs.MeantNames.{IsOpenName, IsActionName, action_name_order, HasOpenNames}
use Rattle.laws_translate.specs.Sayable.{IsFreeNamespace, says_alike, HasLawfulMembers, AppliesWell, IsFreeCommonName}
use Rattle.laws_translate.specs.Sayable.{names_written, IsSayableNamespace, IsSayable}
use Rattle.laws_translate.proofs.Grouped.{outside_decls, filter_append, items_at}
use Rattle.laws_translate.proofs.Orders.{namespace_exact}

abbrev pub Name : Type 0
Name = List (List ℕ)

abbrev pub name_order : Name → Name → Ordering
name_order = slice_cmp text_cmp

-- names that differ, each from those behind it
abbrev AreApart : List (List ℕ) → Type 0
AreApart [] = Unit {0}
AreApart (x ∷ xs) = AllByRecursion (λ y. x ≡ y → ⊥) xs × AreApart xs

-- items of which none passes the test with one before it
module _ {A : Type 0} (test : A → A → Bool) where
  abbrev pub AreUnlike : List A → Type 0
  AreUnlike [] = Unit {0}
  AreUnlike (x ∷ xs) = AllByRecursion (λ y. test y x ≡ false) xs × AreUnlike xs

  unlike_at : (before after : List A) (x : A) → AreUnlike (before ++ x ∷ after) → find (test x) before ≡ None
  unlike_at [] after x h = refl
  unlike_at (b ∷ before) after x h = ap (λ t. cond t (Some b) (find (test x) before))
      (at_middle (λ y. test y b ≡ false) before x after h.0) ∙ unlike_at before after x h.1

  pub unlike_once : (xs : List A) → AreUnlike xs → (before after : List A) (x : A) → xs ≡ before ++ x ∷ after
      → find (test x) before ≡ None
  unlike_once xs h before after x e = unlike_at before after x (subst AreUnlike e h)

differs : (x y : List ℕ) → (y ≡ x → ⊥) → is_eq (text_cmp x y) ≡ false
differs x y h = by (text_cmp x y) refl
  where
    by : (c : Ordering) → text_cmp x y ≡ c → is_eq c ≡ false
    by Less e = refl
    by Equal e = absurd (h (sym (text_exact x y e)))
    by Greater e = refl

abbrev pub same_text : List ℕ → List ℕ → Bool
same_text x y = is_eq (text_cmp x y)

apart_unlike : (xs : List (List ℕ)) → AreApart xs → AreUnlike same_text xs
apart_unlike [] h = tt
apart_unlike (x ∷ xs) h = (all_differ xs h.0, apart_unlike xs h.1)
  where
    all_differ : (ys : List (List ℕ)) → AllByRecursion (λ y. x ≡ y → ⊥) ys
        → AllByRecursion (λ y. same_text y x ≡ false) ys
    all_differ [] k = tt
    all_differ (y ∷ ys) k = (differs y x k.0, all_differ ys k.1)

apart_once : (xs : List (List ℕ)) → AreApart xs → NoneRepeats text_cmp xs
apart_once xs h = unlike_once same_text xs (apart_unlike xs h)

-- a name is its namespace with its last component
pub rebuilt : (n : Name) → IsSome n → namespace n ++ basename n ∷ [] ≡ n
rebuilt [] h = absurd h
rebuilt (c ∷ []) h = refl
rebuilt (c ∷ d ∷ ds) h = ap (λ l. c ∷ l) (rebuilt (d ∷ ds) tt)

one_name : (a b : Name) → IsSome a → IsSome b → namespace a ≡ namespace b → basename a ≡ basename b → a ≡ b
one_name a b h k p q = sym (rebuilt a h) ∙ ((λ i. p i ++ q i ∷ []) ∙ rebuilt b k)

free_parts : (n : Name) → has_cedar n ≡ false → (has_cedar (namespace n) ≡ false) × (is_cedar (basename n) ≡ false)
free_parts [] h = (refl, refl)
free_parts (c ∷ []) h = (refl, (or_parts (is_cedar c) false h).0)
free_parts (c ∷ d ∷ ds) h =
    let both = or_parts (is_cedar c) (has_cedar (d ∷ ds)) h in
    let rest = free_parts (d ∷ ds) both.1 in
    ((λ i. both.0 i || rest.0 i), rest.1)

pub equal_names : (a b : Name) → same_name a b ≡ true → a ≡ b
equal_names a b h = (pointwise_decides (λ x y. bytes_decides x y) a b).0 h

pub less_apart : (c : Ordering) → c ≡ Less → c ≡ Equal → ⊥
less_apart c e f = true≢false (ap is_lt (sym e ∙ f))

pub equal_self : (n : Name) → name_order n n ≡ Equal
equal_self n = tied_itself texts_total n

-- the entity types of a namespace
module _ (n : Name) where
  abbrev is_entity : EntityMeaning → Bool
  is_entity e = same_name n (namespace e.name)

  abbrev is_action : ActionMeaning → Bool
  is_action a = same_name n (namespace a.ty)

  abbrev entity_base : EntityMeaning → List ℕ
  entity_base e = basename e.name

  abbrev action_name : ActionMeaning → List ℕ
  action_name a = a.id

  entities_behind : (e : EntityMeaning) → is_entity e ≡ true → IsOpenName e.name → (es : List EntityMeaning)
      → AllByRecursion (λ y. name_order e.name y ≡ Less) (map (λ x. x.name) es)
      → AllByRecursion (λ (x : EntityMeaning). IsOpenName x.name) es
      → AllByRecursion (λ y. entity_base e ≡ y → ⊥) (map entity_base (filter is_entity es))
  entities_behind e t o [] h k = tt
  entities_behind e t o (x ∷ es) h k = by (is_entity x) refl (entities_behind e t o es h.1 k.1)
    where
      by : (b : Bool) → is_entity x ≡ b → AllByRecursion (λ y. entity_base e ≡ y → ⊥)
          (map entity_base (filter is_entity es))
          → AllByRecursion (λ y. entity_base e ≡ y → ⊥)
          (map entity_base (cond b (x ∷ filter is_entity es) (filter is_entity es)))
      by true f r = (
        λ p. let same = one_name e.name x.name o.0 k.0.0
            (sym (equal_names n (namespace e.name) t) ∙ equal_names n (namespace x.name) f) p in
            less_apart (name_order e.name x.name) h.0 (ap (λ m. name_order m x.name) same ∙ equal_self x.name),
        r,
      )
      by false f r = r

  entities_apart : (es : List EntityMeaning) → IsStrictlySortedBy name_order (map (λ x. x.name) es)
      → AllByRecursion (λ (x : EntityMeaning). IsOpenName x.name) es → AreApart (map entity_base (filter is_entity es))
  entities_apart [] s k = tt
  entities_apart (e ∷ es) s k = by (is_entity e) refl
      (entities_apart es (sorted_tail name_order e.name (map (λ x. x.name) es) s) k.1)
    where
      by : (b : Bool) → is_entity e ≡ b → AreApart (map entity_base (filter is_entity es))
          → AreApart (map entity_base (cond b (e ∷ filter is_entity es) (filter is_entity es)))
      by true t r = (entities_behind e t k.0 es (sorted_head name_order e.name (map (λ x. x.name) es) s) k.1, r)
      by false t r = r

  entities_free : (es : List EntityMeaning) → AllByRecursion (λ (x : EntityMeaning). IsOpenName x.name) es
      → AllByRecursion (λ t. is_cedar t ≡ false) (map entity_base (filter is_entity es))
  entities_free [] k = tt
  entities_free (e ∷ es) k = by (is_entity e) (entities_free es k.1)
    where
      by : (b : Bool) → AllByRecursion (λ t. is_cedar t ≡ false) (map entity_base (filter is_entity es))
          → AllByRecursion (λ t. is_cedar t ≡ false)
          (map entity_base (cond b (e ∷ filter is_entity es) (filter is_entity es)))
      by true r = ((free_parts e.name k.0.1).1, r)
      by false r = r

  abbrev key : ActionMeaning → Name × List ℕ
  key a = (a.ty, a.id)

  actions_behind : (a : ActionMeaning) → is_action a ≡ true → IsActionName a.ty → (es : List ActionMeaning)
      → AllByRecursion (λ y. action_name_order (key a) y ≡ Less) (map key es)
      → AllByRecursion (λ (x : ActionMeaning). IsActionName x.ty) es
      → AllByRecursion (λ y. a.id ≡ y → ⊥) (map action_name (filter is_action es))
  actions_behind a t o [] h k = tt
  actions_behind a t o (x ∷ es) h k = by (is_action x) refl (actions_behind a t o es h.1 k.1)
    where
      by : (b : Bool) → is_action x ≡ b → AllByRecursion (λ y. a.id ≡ y → ⊥) (map action_name (filter is_action es))
          → AllByRecursion (λ y. a.id ≡ y → ⊥)
          (map action_name (cond b (x ∷ filter is_action es) (filter is_action es)))
      by true f r = (
        λ p. let same = one_name a.ty x.ty o.0.0 k.0.0.0
            (sym (equal_names n (namespace a.ty) t) ∙ equal_names n (namespace x.ty) f) (o.1 ∙ sym k.0.1) in
            less_apart (action_name_order (key a) (key x)) h.0
            ((λ i. ordering_then (name_order (same i) x.ty) (text_cmp (p i) x.id))
            ∙ ((λ i. ordering_then (equal_self x.ty i) (text_cmp x.id x.id)) ∙ tied_itself text_total x.id)),
        r,
      )
      by false f r = r

  actions_apart : (es : List ActionMeaning) → IsStrictlySortedBy action_name_order (map key es)
      → AllByRecursion (λ (x : ActionMeaning). IsActionName x.ty) es → AreApart (map action_name (filter is_action es))
  actions_apart [] s k = tt
  actions_apart (e ∷ es) s k = by (is_action e) refl
      (actions_apart es (sorted_tail action_name_order (key e) (map key es) s) k.1)
    where
      by : (b : Bool) → is_action e ≡ b → AreApart (map action_name (filter is_action es))
          → AreApart (map action_name (cond b (e ∷ filter is_action es) (filter is_action es)))
      by true t r = (actions_behind e t k.0 es (sorted_head action_name_order (key e) (map key es) s) k.1, r)
      by false t r = r

-- what the items of a namespace declare
entity_names : (x : Bool) (choices : Option (List (List ℕ))) (e : EntityMeaning)
    → (entities_of_decl (entity_as x choices e) ≡ basename e.name ∷ [])
    × (actions_of_decl (entity_as x choices e) ≡ []) × (commons_of_decl (entity_as x choices e) ≡ [])
    × AppliesWell (entity_as x choices e)
entity_names true choices e = (refl, refl, refl, tt)
entity_names false None e = (refl, refl, refl, tt)
entity_names false (Some cs) e = (refl, refl, refl, tt)

members_lawful : (ps rs : List Name) (context : Attributes) → HasLawfulMembers (members_of_meaning ps rs context)
members_lawful [] rs context = tt
members_lawful (p ∷ ps) [] context = tt
members_lawful (p ∷ ps) (r ∷ rs) context = record {
  said_once =
      unlike_once says_alike
      (types Principal (p ∷ ps) ∷ types Resource (r ∷ rs) ∷ context_record (attributes_of_meaning context) ∷ [])
      ((refl, (refl, tt)), ((refl, tt), (tt, tt)));
  filled = (tt, (tt, (tt, tt)));
  principals = refl;
  resources = refl;
}

action_names : (x : Bool) (a : ActionMeaning)
    → (entities_of_decl (action_as x a) ≡ []) × (actions_of_decl (action_as x a) ≡ a.id ∷ [])
    × (commons_of_decl (action_as x a) ≡ []) × AppliesWell (action_as x a)
action_names true a = (refl, refl, refl, tt)
action_names false a = (refl, refl, refl, members_lawful a.principals a.resources a.context)

pub names_append : (f : WrittenDecl → List (List ℕ)) (xs ys : List WrittenDeclared)
    → names_written f (xs ++ ys) ≡ names_written f xs ++ names_written f ys
names_append f [] ys = refl
names_append f (x ∷ xs) ys = ap (λ l. f x.decl ++ l) (names_append f xs ys)
    ∙ sym (append_assoc (f x.decl) (names_written f xs) (names_written f ys))

module _ (f : WrittenDecl → List (List ℕ)) where
  entities_give : (of : EntityMeaning → List (List ℕ)) → ((e : EntityMeaning) → f (entity_of_meaning e).decl ≡ of e)
      → (es : List EntityMeaning) → names_written f (map entity_of_meaning es) ≡ flat_map of es
  entities_give of h [] = refl
  entities_give of h (e ∷ es) = let rest = entities_give of h es in λ i. h e i ++ rest i

  actions_give : (of : ActionMeaning → List (List ℕ)) → ((e : ActionMeaning) → f (action_of_meaning e).decl ≡ of e)
      → (es : List ActionMeaning) → names_written f (map action_of_meaning es) ≡ flat_map of es
  actions_give of h [] = refl
  actions_give of h (e ∷ es) = let rest = actions_give of h es in λ i. h e i ++ rest i

pub flat_one : {A : Type 0} (f : A → List ℕ) (xs : List A) → flat_map (λ x. f x ∷ []) xs ≡ map f xs
flat_one f [] = refl
flat_one f (x ∷ xs) = ap (λ l. f x ∷ l) (flat_one f xs)

pub flat_none : {A : Type 0} (xs : List A) → flat_map {X = A} {A = List ℕ} (λ x. []) xs ≡ []
flat_none [] = refl
flat_none (x ∷ xs) = flat_none xs

entities_apply : (es : List EntityMeaning) → AllByRecursion (λ (d : WrittenDeclared). AppliesWell d.decl)
    (map entity_of_meaning es)
entities_apply [] = tt
entities_apply (e ∷ es) = ((entity_names e.is_external e.choices e).3, entities_apply es)

actions_apply : (es : List ActionMeaning) → AllByRecursion (λ (d : WrittenDeclared). AppliesWell d.decl)
    (map action_of_meaning es)
actions_apply [] = tt
actions_apply (e ∷ es) = ((action_names e.is_external e).3, actions_apply es)

module _ (m : SchemaMeaning) (h : HasOpenNames m) (n : Name) where
  abbrev these : List EntityMeaning
  these = filter (is_entity n) m.entities

  abbrev those : List ActionMeaning
  those = filter (is_action n) m.actions

  entities_are : names_written entities_of_decl (items_of_meaning m n) ≡ map (entity_base n) these
  entities_are =
      names_append entities_of_decl (map entity_of_meaning these) (map action_of_meaning those)
      ∙ ((λ i. (entities_give entities_of_decl (λ e. basename e.name ∷ [])
      (λ e. (entity_names e.is_external e.choices e).0) these ∙ flat_one (entity_base n) these) i
      ++ (actions_give entities_of_decl (λ a. []) (λ a. (action_names a.is_external a).0) those ∙ flat_none those) i)
      ∙ append-nil (map (entity_base n) these))

  actions_are : names_written actions_of_decl (items_of_meaning m n) ≡ map (action_name n) those
  actions_are =
      names_append actions_of_decl (map entity_of_meaning these) (map action_of_meaning those)
      ∙ (λ i. (entities_give actions_of_decl (λ e. []) (λ e. (entity_names e.is_external e.choices e).1) these
      ∙ flat_none these) i
      ++ (actions_give actions_of_decl (λ a. a.id ∷ []) (λ a. (action_names a.is_external a).1) those
      ∙ flat_one (action_name n) those) i)

  commons_are : names_written commons_of_decl (items_of_meaning m n) ≡ []
  commons_are =
      names_append commons_of_decl (map entity_of_meaning these) (map action_of_meaning those)
      ∙ (λ i. (entities_give commons_of_decl (λ e. []) (λ e. (entity_names e.is_external e.choices e).2) these
      ∙ flat_none these) i
      ++ (actions_give commons_of_decl (λ a. []) (λ a. (action_names a.is_external a).2) those ∙ flat_none those) i)

  pub namespace_sayable : (q : NamespaceName) → IsFreeNamespace q → IsSayableNamespace q (items_of_meaning m n)
  namespace_sayable q free = record {
    name_free = free;
    entities_once = subst (NoneRepeats text_cmp) (sym entities_are)
        (apart_once (map (entity_base n) these) (entities_apart n m.entities h.entities_rise h.entities));
    actions_once = subst (NoneRepeats text_cmp) (sym actions_are)
        (apart_once (map (action_name n) those) (actions_apart n m.actions h.actions_rise h.actions));
    commons_once = subst (NoneRepeats text_cmp) (sym commons_are) (apart_once [] tt);
    entities_free = subst (AllByRecursion (λ t. is_cedar t ≡ false)) (sym entities_are)
        (entities_free n m.entities h.entities);
    blocks = All-append (λ (d : WrittenDeclared). AppliesWell d.decl) (map entity_of_meaning these)
        (map action_of_meaning those) (entities_apply these) (actions_apply those);
    commons_free = subst (AllByRecursion IsFreeCommonName) (sym commons_are) tt;
  }

-- the namespaces rise, and none is reserved
all_put : (P : Name → Type 0) (ns : List Name) (n : Name) → AllByRecursion P ns → P n
    → AllByRecursion P (insert_key name_order ns n)
all_put P [] n h p = (p, tt)
all_put P (x ∷ ns) n h p = by (name_order n x) (all_put P ns n h.1 p)
  where
    by : (c : Ordering) → AllByRecursion P (insert_key name_order ns n)
        → AllByRecursion P (match_ordering c (n ∷ x ∷ ns) (x ∷ ns) (x ∷ insert_key name_order ns n))
    by Less r = (p, h)
    by Equal r = h
    by Greater r = (h.0, r)

put_rises : (ns : List Name) (n : Name) → IsStrictlySortedBy name_order ns
    → IsStrictlySortedBy name_order (insert_key name_order ns n)
unfolding IsStrictlySortedBy
put_rises [] n s = (tt, tt)
put_rises (x ∷ ns) n s = by (name_order n x) refl (put_rises ns n s.1)
  where
    by : (c : Ordering) → name_order n x ≡ c → IsStrictlySortedBy name_order (insert_key name_order ns n)
        → IsStrictlySortedBy name_order (match_ordering c (n ∷ x ∷ ns) (x ∷ ns) (x ∷ insert_key name_order ns n))
    by Less e r = ((e, all_above texts_total n x ns e s.0), s)
    by Equal e r = s
    by Greater e r =
        (all_put (λ y. name_order x y ≡ Less) ns n s.0 (texts_total.antisymm x n ∙ ap ordering_reverse e), r)

pub order_rises : (ns : List Name) → IsStrictlySortedBy name_order (in_order ns)
unfolding IsStrictlySortedBy
order_rises [] = tt
order_rises (n ∷ ns) = put_rises (in_order ns) n (order_rises ns)

pub all_ordered : (P : Name → Type 0) (ns : List Name) → AllByRecursion P ns → AllByRecursion P (in_order ns)
all_ordered P [] h = tt
all_ordered P (n ∷ ns) h = all_put P (in_order ns) n (all_ordered P ns h.1) h.0

abbrev IsFree : Name → Type 0
IsFree n = has_cedar n ≡ false

entities_in : (es : List EntityMeaning) → AllByRecursion (λ (x : EntityMeaning). IsOpenName x.name) es
    → AllByRecursion IsFree (map (λ e. namespace e.name) es)
entities_in [] h = tt
entities_in (e ∷ es) h = ((free_parts e.name h.0.1).0, entities_in es h.1)

actions_in : (es : List ActionMeaning) → AllByRecursion (λ (x : ActionMeaning). IsActionName x.ty) es
    → AllByRecursion IsFree (map (λ a. namespace a.ty) es)
actions_in [] h = tt
actions_in (e ∷ es) h = ((free_parts e.ty h.0.0.1).0, actions_in es h.1)

free_name : (n : Name) → IsFree n → IsFreeNamespace (name_or_none n)
free_name [] h = tt
free_name (c ∷ cs) h = h

pub name_back : (a b : Name) → name_or_none a ≡ name_or_none b → a ≡ b
name_back [] [] h = refl
name_back [] (b ∷ bs) h = absurd (true≢false (sym (ap is_some h)))
name_back (a ∷ as') [] h = absurd (true≢false (ap is_some h))
name_back (a ∷ as') (b ∷ bs) h = cc

module _ (m : SchemaMeaning) where
  abbrev pub items : List Name → List WrittenItem
  items ns = flat_map group_items (map (group_of_meaning m) ns)

  pub items_here : (q : NamespaceName) (n : Name)
      → items_of_namespace q (group_items (group_of_meaning m n)) ≡ cond (is_at (namespace_order q) (name_or_none n))
      (group_items (group_of_meaning m n)) []
  items_here q n = items_at q [] (name_or_none n) (items_of_meaning m n)

  pub none_behind : (p : Name) (ns : List Name) → AllByRecursion (λ y. name_order p y ≡ Less) ns
      → items_of_namespace (name_or_none p) (items ns) ≡ []
  none_behind p [] h = refl
  none_behind p (n ∷ ns) h =
      filter_append (name_or_none p) (group_items (group_of_meaning m n)) (items ns)
      ∙ (λ i. (items_here (name_or_none p) n ∙ ap (λ t. cond t (group_items (group_of_meaning m n)) [])
      (not_here (is_at (namespace_order (name_or_none p)) (name_or_none n)) refl)) i ++ none_behind p ns h.1 i)
    where
      not_here : (b : Bool) → is_at (namespace_order (name_or_none p)) (name_or_none n) ≡ b
          → is_at (namespace_order (name_or_none p)) (name_or_none n) ≡ false
      not_here false e = e
      not_here true e =
          let same =
          name_back p n
          (namespace_exact (name_or_none p) (name_or_none n)
          (equal_from (namespace_order (name_or_none p) (name_or_none n)) e)) in
          absurd (less_apart (name_order p n) h.0 (ap (λ x. name_order x n) same ∙ equal_self n))

  group_decls : (n : Name) (w : WrittenNamespace) → opened (group_items (group_of_meaning m n)) ≡ Some w
      → w.decls ≡ items_of_meaning m n
  group_decls [] w e = by (items_of_meaning m []) e
    where
      by : (ds : List WrittenDeclared) → opened (map outside ds) ≡ Some w → w.decls ≡ ds
      by [] e = cc
      by (d ∷ ds) e = ap (λ (x : WrittenNamespace). x.decls) (sym (same_Some _ w e)) ∙ outside_decls (d ∷ ds)
  group_decls (c ∷ cs) w e = ap (λ (x : WrittenNamespace). x.decls) (sym (same_Some _ w e))
      ∙ append-nil (items_of_meaning m (c ∷ cs))

  sayable_at : HasOpenNames m → (q : NamespaceName) (ns : List Name) → IsStrictlySortedBy name_order ns
      → AllByRecursion IsFree ns → (w : WrittenNamespace) → opened (items_of_namespace q (items ns)) ≡ Some w
      → IsSayableNamespace q w.decls
  sayable_at h q [] s f w e = cc
  sayable_at h q (n ∷ ns) s f w e =
      by (is_at (namespace_order q) (name_or_none n)) refl
      (ap opened (sym (filter_append q (group_items (group_of_meaning m n)) (items ns))) ∙ e)
      (sayable_at h q ns (sorted_tail name_order n ns s) f.1 w)
    where
      by : (b : Bool) → is_at (namespace_order q) (name_or_none n) ≡ b
          → opened (items_of_namespace q (group_items (group_of_meaning m n)) ++ items_of_namespace q (items ns))
          ≡ Some w
          → (opened (items_of_namespace q (items ns)) ≡ Some w → IsSayableNamespace q w.decls)
          → IsSayableNamespace q w.decls
      by true t k r =
          let here : q ≡ name_or_none n = namespace_exact q (name_or_none n)
          (equal_from (namespace_order q (name_or_none n)) t) in
          let rest : items_of_namespace q (items ns) ≡ [] = ap (λ x. items_of_namespace x (items ns)) here
          ∙ none_behind n ns (sorted_head name_order n ns s) in
          let whole : items_of_namespace q (group_items (group_of_meaning m n))
          ++ items_of_namespace q (items ns) ≡ group_items (group_of_meaning m n) =
          (λ i. (items_here q n ∙ ap (λ b. cond b (group_items (group_of_meaning m n)) []) t) i ++ rest i)
          ∙ append-nil (group_items (group_of_meaning m n)) in
          subst (λ ds. IsSayableNamespace q ds) (sym (group_decls n w (ap opened (sym whole) ∙ k)))
          (namespace_sayable m h n q (subst IsFreeNamespace (sym here) (free_name n f.0)))
      by false t k r =
          r (ap opened
          (sym (ap (λ l. l ++ items_of_namespace q (items ns))
          (items_here q n ∙ ap (λ b. cond b (group_items (group_of_meaning m n)) []) t))) ∙ k)

pub meaning_sayable : (m : SchemaMeaning) → HasOpenNames m → IsSayable (flat_map group_items (groups_of_meaning m))
meaning_sayable m h q w e =
    sayable_at m h q (namespaces m)
    (order_rises (map (λ e. namespace e.name) m.entities ++ map (λ a. namespace a.ty) m.actions))
    (all_ordered IsFree (map (λ e. namespace e.name) m.entities ++ map (λ a. namespace a.ty) m.actions)
    (All-append IsFree (map (λ e. namespace e.name) m.entities) (map (λ a. namespace a.ty) m.actions)
    (entities_in m.entities h.entities) (actions_in m.actions h.actions))) w e
