-- A joined namespace is lawful exactly where what is written of it can be translated.
use Rattle.std.proofs.Common.{◌≡◌, ◌↔◌, ◌||◌, ℕ, Bool, true, false, cond, List, [], ◌∷◌, ◌++◌, map, Option, Some, None}
use Rattle.std.proofs.Common.{option_map, find, is_some, refl, sym, ap, subst, ◌∙◌, true≢false}
use Rattle.std.proofs.lemmas.List.{map-append}
use Rattle.std.specs.List.{AllZip, AllByRecursion, list_any}
use Rattle.std.specs.Option.{option_eq}
use Rattle.std.specs.Ordering.{is_eq}
use mathlib.Core.Logic.Iff.{trans as both_ways}
use Rattle.cedar_data.specs.Text.{text_cmp}
use Rattle.cedar_data.specs.declared.node.Node.{Node}
use Rattle.cedar_identifiers.specs.Names.{texts_of, has_cedar}
use Rattle.cedar_identifiers.specs.Words.{is_cedar}
use Rattle.cedar_identifiers.specs.declared.id.Id.{Id}
use Rattle.schema_syntax_tree.specs.declared.annotated.Annotated.{Annotated}
use Rattle.schema_syntax_tree.specs.declared.app_decl.AppDecl.{AppDecl}
use Rattle.schema_syntax_tree.specs.declared.app_decl.AppDecl.TheVariants as app
use Rattle.schema_syntax_tree.specs.declared.declaration.Declaration.{Declaration}
use Rattle.schema_syntax_tree.specs.declared.declaration.Declaration.TheVariants.{Entity, Action, Common}
use Rattle.schema_syntax_tree.specs.declared.entity_decl.EntityDecl.TheVariants as tree
use Rattle.schema_syntax_tree.specs.declared.action_decl.ActionDecl.TheVariants as tree_action
use Rattle.schema_syntax_tree.specs.declared.path.Path.{Path}
use Rattle.schema_syntax_tree.specs.declared.pr.PR.{PR}
use Rattle.schema_syntax_tree.specs.declared.pr.PR.TheVariants.{Principal, Resource}
use Rattle.laws_written.specs.Written.{WrittenMember, types, context_path, context_record, WrittenDecl, entity, enum}
use Rattle.laws_written.specs.Written.{external_entity, action, external_action, common, WrittenDeclared}
use Rattle.laws_written.specs.PrintedDecls.{IsSome}
use Rattle.laws_written.specs.Shows.{SaysPath, SaysId, SaysName, SaysOptional, SaysMember, SaysApplies, SaysDecl}
use Rattle.laws_written.specs.Shows.{SaysDeclared}
use Rattle.schema_convert_faults.specs.Faults.{is_reserved_path}
use Rattle.schema_convert_faults.specs.Members.{is_same_role, says_role, says_same}
use Rattle.schema_convert_faults.specs.NamesIn.{entities_of, actions_of, commons_of, entity_names_in, action_names_in}
use Rattle.schema_convert_faults.specs.NamesIn.{common_names_in, id_cmp, action_cmp}
use Rattle.schema_convert_openings.specs.Repeats.{NoneRepeats}
use Rattle.schema_convert_faults.specs.Translatable.{IsFreeName, IsFilled, IsLawfulBlock, HasLawfulBlock}
use Rattle.schema_convert_faults.specs.Translatable.{AppliesLawfully, IsLawfulNamespace}
use Rattle.laws_translate.specs.Named.{IsNamedDecl, IsNamedDeclared}
use Rattle.laws_translate.specs.FragmentsSay.{entities_of_decl, actions_of_decl, commons_of_decl, NamespaceName}
use Rattle.laws_translate.specs.Sayable.{IsFreeNamespace, role_said, says_alike, has_role, IsFilledMember}
use Rattle.laws_translate.specs.Sayable.{AreLawfulMembers, HasLawfulMembers, AppliesWell, IsFreeCommonName}
use Rattle.laws_translate.specs.Sayable.{names_written}
use Rattle.laws_translate.specs.Sayable.{IsSayableNamespace}
use Rattle.laws_translate.proofs.Entered.{zip_append, kinds}
use Rattle.laws_translate.proofs.Openings.{Opening, name_in_tree, tree_name}

by_path : {A : Type 0} (P : A → Type 0) (x y : A) → x ≡ y → P x ↔ P y
by_path P x y e = (subst P e, subst P (sym e))

-- what is the same as one before it, of items and of what they are mapped to
module _ {A B : Type 0} (f : A → B) (same : B → B → Bool) where
  abbrev NoneBefore : {K : Type 0} → (K → K → Bool) → List K → Type 0
  NoneBefore {K} test items = (before after : List K) (x : K) → items ≡ before ++ x ∷ after
      → find (test x) before ≡ None

  find_map : (y : B) (xs : List A) → find (same y) (map f xs) ≡ option_map f (find (λ a. same y (f a)) xs)
  find_map y [] = refl
  find_map y (x ∷ xs) = ap (cond (same y (f x)) (Some (f x))) (find_map y xs) ∙ by (same y (f x))
    where
      by : (b : Bool) → cond b (Some (f x)) (option_map f (find (λ a. same y (f a)) xs)) ≡ option_map f
          (cond b (Some x) (find (λ a. same y (f a)) xs))
      by true = refl
      by false = refl

  none_back : (o : Option A) → option_map f o ≡ None → o ≡ None
  none_back None h = refl
  none_back (Some x) h = absurd (true≢false (ap is_some h))

  -- a list whose map is split is split there
  record SplitOf (xs : List A) (before : List B) (y : B) (after : List B) : Type 0 where
    front : List A
    item : A
    back : List A
    split : xs ≡ front ++ item ∷ back
    front_is : map f front ≡ before
    item_is : f item ≡ y

  one_more : (x item : A) (xs front back : List A) → xs ≡ front ++ item ∷ back → x ∷ xs ≡ (x ∷ front) ++ item ∷ back
  one_more x item xs front back h = ap (λ l. x ∷ l) h

  split_of : (xs : List A) (before : List B) (y : B) (after : List B) → map f xs ≡ before ++ y ∷ after
      → SplitOf xs before y after
  split_of [] [] y after h = cc
  split_of [] (b ∷ before) y after h = cc
  split_of (x ∷ xs) [] y after h = let e : f x ≡ y = cc in
      record { front = []; item = x; back = xs; split = refl; front_is = refl; item_is = e }
  split_of (x ∷ xs) (b ∷ before) y after h =
      let first : f x ≡ b = cc in
      let others : map f xs ≡ before ++ y ∷ after = cc in
      let s = split_of xs before y after others in
      record {
        front = x ∷ s.front;
        item = s.item;
        back = s.back;
        split =
            one_more x s.item xs s.front s.back s.split;
        front_is = (λ i. first i ∷ s.front_is i);
        item_is = s.item_is;
      }

  pub none_before_map : (xs : List A) → NoneBefore (λ a b. same (f a) (f b)) xs ↔ NoneBefore same (map f xs)
  none_before_map xs = (
    λ h before after y e.
        let s = split_of xs before y after e in
        sym (λ i. find (same (s.item_is i)) (s.front_is i))
        ∙ (find_map (f s.item) s.front ∙ ap (option_map f) (h s.front s.back s.item s.split)),
    λ h before after x e.
        none_back (find (λ a. same (f x) (f a)) before)
        (sym (find_map (f x) before) ∙ h (map f before) (map f after) (f x)
        (ap (map f) e ∙ map-append f before (x ∷ after))),
  )

module _ {A B : Type 0} (f : A → B) (P : B → Type 0) where
  all_map : (xs : List A) → AllByRecursion (λ x. P (f x)) xs ↔ AllByRecursion P (map f xs)
  all_map [] = (λ h. tt, λ h. tt)
  all_map (x ∷ xs) = let r = all_map xs in (λ h. (h.0, r.0 h.1), λ h. (h.0, r.1 h.1))

abbrev id_text : Node Id → List ℕ
id_text n = n.node.text

abbrev action_id : Node (List ℕ) → List ℕ
action_id n = n.node

ids_are : (ns : List (Node Id)) (ts : List (List ℕ)) → AllZip SaysId ns ts → map id_text ns ≡ ts
ids_are [] [] h = refl
ids_are [] (t ∷ ts) h = absurd h
ids_are (n ∷ ns) [] h = absurd h
ids_are (n ∷ ns) (t ∷ ts) h = let others = ids_are ns ts h.1 in λ i. h.0 i ∷ others i

names_are : (ns : List (Node (List ℕ))) (ts : List (List ℕ)) → AllZip SaysName ns ts → map action_id ns ≡ ts
names_are [] [] h = refl
names_are [] (t ∷ ts) h = absurd h
names_are (n ∷ ns) [] h = absurd h
names_are (n ∷ ns) (t ∷ ts) h = let others = names_are ns ts h.1 in λ i. h.0 i ∷ others i

abbrev Declared : Type 0
Declared = Annotated (Node Declaration)

entities_said : (ds : List Declared) (ws : List WrittenDeclared) → AllZip SaysDeclared ds ws
    → AllZip SaysId (entity_names_in ds) (names_written entities_of_decl ws)
entities_said [] [] h = tt
entities_said [] (w ∷ ws) h = absurd h
entities_said (d ∷ ds) [] h = absurd h
entities_said (d ∷ ds) (w ∷ ws) h = zip_append SaysId (entities_of d.item.node) (entity_names_in ds)
    (entities_of_decl w.decl) (names_written entities_of_decl ws) (kinds d.item.node w.decl h.0.0).0
    (entities_said ds ws h.1)

actions_said : (ds : List Declared) (ws : List WrittenDeclared) → AllZip SaysDeclared ds ws
    → AllZip SaysName (action_names_in ds) (names_written actions_of_decl ws)
actions_said [] [] h = tt
actions_said [] (w ∷ ws) h = absurd h
actions_said (d ∷ ds) [] h = absurd h
actions_said (d ∷ ds) (w ∷ ws) h = zip_append SaysName (actions_of d.item.node) (action_names_in ds)
    (actions_of_decl w.decl) (names_written actions_of_decl ws) (kinds d.item.node w.decl h.0.0).1
    (actions_said ds ws h.1)

commons_said : (ds : List Declared) (ws : List WrittenDeclared) → AllZip SaysDeclared ds ws
    → AllZip SaysId (common_names_in ds) (names_written commons_of_decl ws)
commons_said [] [] h = tt
commons_said [] (w ∷ ws) h = absurd h
commons_said (d ∷ ds) [] h = absurd h
commons_said (d ∷ ds) (w ∷ ws) h = zip_append SaysId (commons_of d.item.node) (common_names_in ds)
    (commons_of_decl w.decl) (names_written commons_of_decl ws) (kinds d.item.node w.decl h.0.0).2
    (commons_said ds ws h.1)

abbrev same_text : List ℕ → List ℕ → Bool
same_text a b = is_eq (text_cmp a b)

ids_once : (ns : List (Node Id)) (ts : List (List ℕ)) → AllZip SaysId ns ts
    → NoneRepeats id_cmp ns ↔ NoneRepeats text_cmp ts
ids_once ns ts h = both_ways (none_before_map id_text same_text ns)
    (by_path (NoneRepeats text_cmp) (map id_text ns) ts (ids_are ns ts h))

names_once : (ns : List (Node (List ℕ))) (ts : List (List ℕ)) → AllZip SaysName ns ts
    → NoneRepeats action_cmp ns ↔ NoneRepeats text_cmp ts
names_once ns ts h = both_ways (none_before_map action_id same_text ns)
    (by_path (NoneRepeats text_cmp) (map action_id ns) ts (names_are ns ts h))

ids_all : (P : List ℕ → Type 0) (ns : List (Node Id)) (ts : List (List ℕ)) → AllZip SaysId ns ts
    → AllByRecursion (λ (n : Node Id). P n.node.text) ns ↔ AllByRecursion P ts
ids_all P ns ts h = both_ways (all_map id_text P ns) (by_path (AllByRecursion P) (map id_text ns) ts (ids_are ns ts h))

-- the members of a block
abbrev role_in_tree : AppDecl → Option PR
role_in_tree (app.PR d) = Some d.kind.node
role_in_tree (app.Context c) = None

abbrev node_role : Node AppDecl → Option PR
node_role n = role_in_tree n.node

abbrev same_role : Option PR → Option PR → Bool
same_role a b = option_eq is_same_role a b

member_role : (n : Node AppDecl) (w : WrittenMember) → SaysMember n w → node_role n ≡ role_said w
member_role n (types role paths) (kind, found, e, same, k) = ap role_in_tree e ∙ ap Some same
member_role n (context_path p) (q, e, k) = ap role_in_tree e
member_role n (context_record xs) (r, e, k) = ap role_in_tree e

roles_are : (ns : List (Node AppDecl)) (ws : List WrittenMember) → AllZip SaysMember ns ws
    → map node_role ns ≡ map role_said ws
roles_are [] [] h = refl
roles_are [] (w ∷ ws) h = absurd h
roles_are (n ∷ ns) [] h = absurd h
roles_are (n ∷ ns) (w ∷ ws) h =
    let first = member_role n w h.0 in
    let others = roles_are ns ws h.1 in
    λ i. first i ∷ others i

same_said : (a b : AppDecl) → says_same a b ≡ same_role (role_in_tree a) (role_in_tree b)
same_said (app.PR d) (app.PR e) = refl
same_said (app.PR d) (app.Context c) = refl
same_said (app.Context c) (app.PR d) = refl
same_said (app.Context c) (app.Context d) = refl

role_said_by : (role : PR) (a : AppDecl) → says_role role a ≡ same_role (Some role) (role_in_tree a)
role_said_by role (app.PR d) = refl
role_said_by role (app.Context c) = refl

any_map : {A B : Type 0} (f : A → B) (test : B → Bool) (xs : List A)
    → list_any (λ x. test (f x)) xs ≡ list_any test (map f xs)
any_map f test [] = refl
any_map f test (x ∷ xs) = ap (λ b. test (f x) || b) (any_map f test xs)

member_filled : (n : Node AppDecl) (w : WrittenMember) → SaysMember n w → IsFilled n.node ↔ IsFilledMember w
member_filled n (types role paths) (kind, found, e, same, k) =
    both_ways (by_path IsFilled n.node (app.PR (record { kind = kind; entity_tys = found })) e) (by found paths k)
  where
    some_none : (x : List Path) → Some x ≡ None → ⊥
    some_none x h = true≢false (ap is_some h)

    by : (found : Option (List Path)) (paths : List (List (List ℕ))) → SaysOptional SaysPath found paths
        → ((found ≡ None) → ⊥) ↔ IsSome paths
    by None [] k = (λ h. h refl, λ h. absurd h)
    by None (p ∷ ps) k = absurd k
    by (Some []) [] k = absurd k
    by (Some []) (p ∷ ps) k = absurd k
    by (Some (x ∷ xs)) [] k = absurd k
    by (Some (x ∷ xs)) (p ∷ ps) k = (λ h. tt, λ h. some_none (x ∷ xs))
member_filled n (context_path p) (q, e, k) = both_ways (by_path IsFilled n.node _ e) (λ h. tt, λ h. tt)
member_filled n (context_record xs) (r, e, k) = both_ways (by_path IsFilled n.node _ e) (λ h. tt, λ h. tt)

members_filled : (ns : List (Node AppDecl)) (ws : List WrittenMember) → AllZip SaysMember ns ws
    → AllByRecursion (λ (m : Node AppDecl). IsFilled m.node) ns ↔ AllByRecursion IsFilledMember ws
members_filled [] [] h = (λ h. tt, λ h. tt)
members_filled [] (w ∷ ws) h = absurd h
members_filled (n ∷ ns) [] h = absurd h
members_filled (n ∷ ns) (w ∷ ws) h =
    let first = member_filled n w h.0 in
    let others = members_filled ns ws h.1 in
    (λ k. (first.0 k.0, others.0 k.1), λ k. (first.1 k.0, others.1 k.1))

abbrev SaidOnce : List (Node AppDecl) → Type 0
SaidOnce ns = (before after : List (Node AppDecl)) (m : Node AppDecl) → ns ≡ before ++ m ∷ after
    → find (λ b. says_same m.node b.node) before ≡ None

abbrev SaidOnceIn : List WrittenMember → Type 0
SaidOnceIn ws = (before after : List WrittenMember) (m : WrittenMember) → ws ≡ before ++ m ∷ after
    → find (says_alike m) before ≡ None

abbrev SaidOnceBy : (Node AppDecl → Node AppDecl → Bool) → List (Node AppDecl) → Type 0
SaidOnceBy test ns = (before after : List (Node AppDecl)) (m : Node AppDecl) → ns ≡ before ++ m ∷ after
    → find (test m) before ≡ None

abbrev RolesOnce : List (Option PR) → Type 0
RolesOnce rs = (before after : List (Option PR)) (r : Option PR) → rs ≡ before ++ r ∷ after
    → find (same_role r) before ≡ None

members_once : (ns : List (Node AppDecl)) (ws : List WrittenMember) → AllZip SaysMember ns ws
    → SaidOnce ns ↔ SaidOnceIn ws
members_once ns ws h =
    let roles : RolesOnce (map node_role ns) ↔ RolesOnce (map role_said ws) =
    by_path RolesOnce (map node_role ns) (map role_said ws) (roles_are ns ws h) in
    let back = none_before_map role_said same_role ws in
    both_ways
    (by_path (λ test. SaidOnceBy test ns) (λ a b. says_same a.node b.node)
    (λ a b. same_role (node_role a) (node_role b)) (λ i a b. same_said a.node b.node i))
    (both_ways (none_before_map node_role same_role ns) (both_ways roles (back.1, back.0)))

role_there : (role : PR) (ns : List (Node AppDecl)) (ws : List WrittenMember) → AllZip SaysMember ns ws
    → list_any (λ (m : Node AppDecl). says_role role m.node) ns ≡ list_any (has_role role) ws
role_there role ns ws h =
    (λ i. list_any (λ (m : Node AppDecl). role_said_by role m.node i) ns)
    ∙ (any_map node_role (same_role (Some role)) ns
    ∙ (ap (list_any (same_role (Some role))) (roles_are ns ws h)
    ∙ sym (any_map role_said (same_role (Some role)) ws)))

block_iff : (ns : List (Node AppDecl)) (ws : List WrittenMember) → AllZip SaysMember ns ws
    → IsLawfulBlock ns ↔ AreLawfulMembers ws
block_iff ns ws h =
    let once = members_once ns ws h in
    let filled = members_filled ns ws h in
    let p = role_there Principal ns ws h in
    let r = role_there Resource ns ws h in (
      λ b. record {
        said_once = once.0 b.said_once;
        filled = filled.0 b.filled;
        principals = sym p
            ∙ b.principals;
        resources = sym r ∙ b.resources;
      },
      λ b. record {
        said_once = once.1 b.said_once;
        filled = filled.1 b.filled;
        principals = p
            ∙ b.principals;
        resources = r ∙ b.resources;
      },
    )

block_applies : (block : Option (Node (List (Node AppDecl)))) (names : List (Node (List ℕ))) (ts : List (List ℕ))
    (ms : Option (List WrittenMember)) → AllZip SaysName names ts → IsSome ts → SaysApplies block ms
    → HasLawfulBlock block names ↔ HasLawfulMembers ms
block_applies None names ts None z s k = (λ h. tt, λ h. tt)
block_applies None names ts (Some ms) z s k = absurd k
block_applies (Some block) names ts None z s k = absurd k
block_applies (Some block) [] [] (Some ms) z s k = absurd s
block_applies (Some block) [] (t ∷ ts) (Some ms) z s k = absurd z
block_applies (Some block) (n ∷ names) ts (Some ms) z s k = block_iff block.node ms k

nothing_to_do : Unit {0} ↔ Unit {0}
nothing_to_do = (λ h. h, λ h. h)

decl_applies : (d : Declaration) (w : WrittenDecl) → SaysDecl d w → IsNamedDecl w → AppliesLawfully d ↔ AppliesWell w
decl_applies (Entity (tree.Standard d)) (entity names ps xs tags) k h = nothing_to_do
decl_applies (Entity (tree.Standard d)) w k h = absurd k
decl_applies (Entity (tree.Enum d)) (enum names cs) k h = nothing_to_do
decl_applies (Entity (tree.Enum d)) w k h = absurd k
decl_applies (Entity (tree.External d)) (external_entity names ps) k h = nothing_to_do
decl_applies (Entity (tree.External d)) w k h = absurd k
decl_applies (Action (tree_action.Defined d)) (action names rs ms) k h =
    block_applies d.app_decls d.names names ms k.0 h.0 k.2
decl_applies (Action (tree_action.Defined d)) w k h = absurd k
decl_applies (Action (tree_action.External d)) (external_action names rs) k h = nothing_to_do
decl_applies (Action (tree_action.External d)) w k h = absurd k
decl_applies (Common d) (common n t) k h = nothing_to_do
decl_applies (Common d) w k h = absurd k

all_apply : (ds : List Declared) (ws : List WrittenDeclared) → AllZip SaysDeclared ds ws
    → AllByRecursion IsNamedDeclared ws
    → AllByRecursion (λ (d : Declared). AppliesLawfully d.item.node) ds
    ↔ AllByRecursion (λ (w : WrittenDeclared). AppliesWell w.decl) ws
all_apply [] [] k h = (λ h. tt, λ h. tt)
all_apply [] (w ∷ ws) k h = absurd k
all_apply (d ∷ ds) [] k h = absurd k
all_apply (d ∷ ds) (w ∷ ws) k h =
    let first = decl_applies d.item.node w.decl k.0.0 h.0 in
    let others = all_apply ds ws k.1 h.1 in
    (λ l. (first.0 l.0, others.0 l.1), λ l. (first.1 l.0, others.1 l.1))

name_iff : (o : Option Path) → IsFreeName o ↔ IsFreeNamespace (name_in_tree o)
name_iff None = nothing_to_do
name_iff (Some p) = by_path (λ b. b ≡ false) (is_reserved_path p) (has_cedar (texts_of p.ids))
    (any_map (λ (i : Id). i.text) is_cedar p.ids)

-- a namespace of a tree and what is written of it
pub namespace_iff : (n : Opening) (q : NamespaceName) (ws : List WrittenDeclared) → tree_name n ≡ q
    → AllZip SaysDeclared n.item.decls ws → AllByRecursion IsNamedDeclared ws
    → IsLawfulNamespace n ↔ IsSayableNamespace q ws
namespace_iff n q ws same k h =
    let name = both_ways (name_iff n.item.name) (by_path IsFreeNamespace (tree_name n) q same) in
    let entities = entities_said n.item.decls ws k in
    let actions = actions_said n.item.decls ws k in
    let commons = commons_said n.item.decls ws k in
    let e1 = ids_once (entity_names_in n.item.decls) (names_written entities_of_decl ws) entities in
    let a1 = names_once (action_names_in n.item.decls) (names_written actions_of_decl ws) actions in
    let c1 = ids_once (common_names_in n.item.decls) (names_written commons_of_decl ws) commons in
    let e2 = ids_all (λ t. is_cedar t ≡ false) (entity_names_in n.item.decls)
    (names_written entities_of_decl ws) entities in
    let c2 = ids_all IsFreeCommonName (common_names_in n.item.decls) (names_written commons_of_decl ws) commons in
    let b = all_apply n.item.decls ws k h in (
      λ l. record {
        name_free = name.0 l.name;
        entities_once = e1.0 l.entities_once;
        actions_once =
            a1.0 l.actions_once;
        commons_once = c1.0 l.commons_once;
        entities_free = e2.0 l.entities_free;
        blocks =
            b.0 l.blocks;
        commons_free = c2.0 l.commons_free;
      },
      λ l. record {
        name = name.1 l.name_free;
        entities_once = e1.1 l.entities_once;
        actions_once =
            a1.1 l.actions_once;
        commons_once = c1.1 l.commons_once;
        entities_free = e2.1 l.entities_free;
        blocks =
            b.1 l.blocks;
        commons_free = c2.1 l.commons_free;
      },
    )
