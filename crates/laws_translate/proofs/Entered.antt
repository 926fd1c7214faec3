-- What declarations enter into a namespace's maps says what is written of them.
use Rattle.std.proofs.Common.{◌≡◌, ℕ, Bool, true, false, List, [], ◌∷◌, ◌++◌, map, Option, Some, None, refl, sym, ap}
use Rattle.std.proofs.Common.{◌∙◌, subst, true≢false, if◌then◌else◌}
use Rattle.std.specs.BTreeMap.{is_at}
use Rattle.std.specs.List.{AllZip, AllByRecursion}
use Rattle.std.specs.List.Sorted.{IsStrictlySortedBy}
use Rattle.std.specs.Option.{option_or}
use Rattle.cedar_data.specs.Maps.{map_of, last_at}
use Rattle.cedar_data.specs.Span.{Span}
use Rattle.cedar_data.specs.Text.{text_cmp}
use Rattle.cedar_data.specs.declared.node.Node.{Node}
use Rattle.cedar_data.proofs.Orders.{text_total, text_exact}
use Rattle.cedar_identifiers.specs.Words.{is_cedar}
use Rattle.cedar_identifiers.specs.declared.annotations.Annotations.{Annotations}
use Rattle.cedar_identifiers.specs.declared.id.Id.{Id}
use Rattle.cedar_identifiers.specs.declared.raw_name.RawName.{RawName}
use Rattle.cedar_identifiers.specs.declared.unreserved_id.UnreservedId.{UnreservedId}
use Rattle.schema_syntax_tree.specs.DeclaredNames.{entity_names, action_names}
use Rattle.schema_syntax_tree.specs.declared.annotated.Annotated.{Annotated}
use Rattle.schema_syntax_tree.specs.declared.declaration.Declaration.{Declaration}
use Rattle.schema_syntax_tree.specs.declared.declaration.Declaration.TheVariants.{Entity, Action, Common}
use Rattle.schema_syntax_tree.specs.declared.entity_decl.EntityDecl.TheVariants as tree
use Rattle.schema_syntax_tree.specs.declared.action_decl.ActionDecl.TheVariants as tree_action
use Rattle.schema_json.specs.declared.action_type.ActionType.{ActionType}
use Rattle.schema_json.specs.declared.common_type.CommonType.{CommonType}
use Rattle.schema_json.specs.declared.common_type.CommonTypeId.{CommonTypeId}
use Rattle.schema_json.specs.declared.entity_type.EntityType.{EntityType}
use Rattle.schema_json.specs.AsWritten.{as_written}
use Rattle.laws_written.specs.Written.{WrittenDecl, entity, enum, external_entity, action, external_action, common}
use Rattle.laws_written.specs.Written.{WrittenDeclared}
use Rattle.laws_written.specs.Shows.{SaysId, SaysName, SaysDecl, SaysDeclared}
use Rattle.schema_convert_types.specs.Types.{type_of}
use Rattle.schema_convert_fragments.specs.Declarations.{entity_type_of, action_type_of, unreserved_so}
use Rattle.schema_convert_fragments.specs.Declarations.{unreserved, declarable, each_with}
use Rattle.schema_convert_fragments.specs.Fragments.{entity_entries_of, action_entries_of, common_entry}
use Rattle.schema_convert_fragments.specs.Fragments.{common_entries_of}
use Rattle.schema_convert_fragments.specs.Fragments.{entity_entries, action_entries, common_entries}
use Rattle.schema_convert_faults.specs.NamesIn.{entities_of, actions_of, commons_of, entity_names_in, common_names_in}
use Rattle.schema_convert_faults.specs.Translatable.{IsFreeCommon}
use Rattle.laws_translate.specs.Entries.{FoundSays, EntriesSay, last_written}
use Rattle.laws_translate.specs.Named.{IsNamedDeclared}
use Rattle.laws_translate.specs.DeclarationsSay.{EntitySays, ActionSays, CommonSays}
use Rattle.laws_translate.specs.FragmentsSay.{entities_of_decl, actions_of_decl, commons_of_decl, by_names}
use Rattle.laws_translate.proofs.Declared.{entity_says, action_says, common_says}
use Rattle.laws_translate.proofs.Maps.{lookup_map, lookup_rising, map_rises}

pub zip_append : {A B : Type 0} (R : A → B → Type 0) (xs xs' : List A) (ys ys' : List B) → AllZip R xs ys
    → AllZip R xs' ys' → AllZip R (xs ++ xs') (ys ++ ys')
zip_append R [] xs' [] ys' h k = k
zip_append R [] xs' (y ∷ ys) ys' h k = absurd h
zip_append R (x ∷ xs) xs' [] ys' h k = absurd h
zip_append R (x ∷ xs) xs' (y ∷ ys) ys' h k = (h.0, zip_append R xs xs' ys ys' h.1 k)

pub all_append : {A : Type 0} (P : A → Type 0) (xs ys : List A) → AllByRecursion P (xs ++ ys)
    → AllByRecursion P xs × AllByRecursion P ys
all_append P [] ys h = (tt, h)
all_append P (x ∷ xs) ys h = let rest = all_append P xs ys h.1 in ((h.0, rest.0), rest.1)

-- the kinds of names of a declaration are those that are written
pub kinds : (d : Declaration) (w : WrittenDecl) → SaysDecl d w
    → AllZip SaysId (entities_of d) (entities_of_decl w) × AllZip SaysName (actions_of d) (actions_of_decl w)
    × AllZip SaysId (commons_of d) (commons_of_decl w)
kinds (Entity (tree.Standard d)) (entity names ps xs tags) k = (k.0, tt, tt)
kinds (Entity (tree.Standard d)) w k = absurd k
kinds (Entity (tree.Enum d)) (enum names cs) k = (k.0, tt, tt)
kinds (Entity (tree.Enum d)) w k = absurd k
kinds (Entity (tree.External d)) (external_entity names ps) k = (k.0, tt, tt)
kinds (Entity (tree.External d)) w k = absurd k
kinds (Action (tree_action.Defined d)) (action names rs ms) k = (tt, k.0, tt)
kinds (Action (tree_action.Defined d)) w k = absurd k
kinds (Action (tree_action.External d)) (external_action names rs) k = (tt, k.0, tt)
kinds (Action (tree_action.External d)) w k = absurd k
kinds (Common d) (common n t) k = (tt, tt, (k.0, tt))
kinds (Common d) w k = absurd k

-- a word that may be declared
record Declarable (id : Id) : Type 0 where
  made : UnreservedId
  is : unreserved id ≡ Some made
  same : made.id.text ≡ id.text

declarable_so : (id : Id) (b : Bool) (e : is_cedar id.text ≡ b) → b ≡ false
    → (u : UnreservedId) × (unreserved_so id b e ≡ Some u) × (u.id.text ≡ id.text)
declarable_so id true e h = absurd (true≢false h)
declarable_so id false e h = (record { id = id; unreserved = e }, refl, refl)

declarable_id : (id : Id) → is_cedar id.text ≡ false → Declarable id
declarable_id id h = let d = declarable_so id (is_cedar id.text) refl h in record { made = d.0; is = d.1; same = d.2 }

-- an entry with what is written beside the same name
abbrev pub EntryOf : {K V : Type 0} → (K → List ℕ) → (V → WrittenDeclared → Type 0) → K × V
    → List ℕ × WrittenDeclared → Type 0
EntryOf name Says e w = (name e.0 ≡ w.0) × Says e.1 w.1

found_more : {V W : Type 0} (Says : V → W → Type 0) (x : Option V) (y : Option W) (b : Bool) (v : V) (w : W)
    → FoundSays Says x y → Says v w
    → FoundSays Says (option_or x (if b then Some v else None)) (option_or y (if b then Some w else None))
found_more Says None None true v w h s = s
found_more Says None None false v w h s = tt
found_more Says None (Some y) b v w h s = absurd h
found_more Says (Some x) None b v w h s = absurd h
found_more Says (Some x) (Some y) b v w h s = h

module _ {K V : Type 0} (name : K → List ℕ) (Says : V → WrittenDeclared → Type 0) where
  last_says : (n : List ℕ) (es : List (K × V)) (ws : List (List ℕ × WrittenDeclared)) → AllZip (EntryOf name Says) es ws
      → FoundSays Says (last_at (λ k. is_at (text_cmp n) (name k)) es) (last_written ws n)
  last_says n [] [] h = tt
  last_says n [] (w ∷ ws) h = absurd h
  last_says n (e ∷ es) [] h = absurd h
  last_says n (e ∷ es) (w ∷ ws) h =
      subst (λ m. FoundSays Says
      (option_or (last_at (λ k. is_at (text_cmp n) (name k)) es)
      (if is_at (text_cmp n) (name e.0) then Some e.1 else None))
      (option_or (last_written ws n) (if is_at (text_cmp n) m then Some w.1 else None))) h.0.0
      (found_more Says (last_at (λ k. is_at (text_cmp n) (name k)) es) (last_written ws n)
      (is_at (text_cmp n) (name e.0)) e.1 w.1 (last_says n es ws h.1) h.0.1)

  -- a map of entries says what is written beside their names
  pub map_says : (es : List (K × V)) (ws : List (List ℕ × WrittenDeclared)) → AllZip (EntryOf name Says) es ws
      → EntriesSay text_cmp name Says (map_of (λ a b. text_cmp (name a) (name b)) es) (last_written ws)
  map_says es ws h = record {
    rising = map_rises V text_cmp text_total text_exact name es;
    each = λ n. subst (λ found. FoundSays Says found (last_written ws n))
        (sym (lookup_map V text_cmp text_total text_exact name n es)) (last_says n es ws h);
  }

  -- entries whose names rise say what is written beside them
  pub rising_say : (es : List (K × V)) (ws : List (List ℕ × WrittenDeclared))
      → IsStrictlySortedBy text_cmp (map (λ e. name e.0) es) → AllZip (EntryOf name Says) es ws
      → EntriesSay text_cmp name Says es (last_written ws)
  rising_say es ws up h = record {
    rising = up;
    each = λ n. subst (λ found. FoundSays Says found (last_written ws n))
        (sym (lookup_rising V text_cmp text_total text_exact name n es up)) (last_says n es ws h);
  }

  none_entered : {A : Type 0} (R : A → List ℕ → Type 0) (w : WrittenDeclared) (ts : List (List ℕ)) → AllZip R [] ts
      → AllZip (EntryOf name Says) [] (map (λ t. (t, w)) ts)
  none_entered R w [] h = tt
  none_entered R w (t ∷ ts) h = h

abbrev unreserved_text : UnreservedId → List ℕ
unreserved_text id = id.id.text

abbrev common_text : CommonTypeId → List ℕ
common_text id = id.id.id.text

abbrev action_text : List ℕ → List ℕ
action_text id = id

ids_entered : (x : EntityType RawName) (w : WrittenDeclared) → EntitySays x w
    → (names : List (Node Id)) (ts : List (List ℕ)) → AllZip SaysId names ts
    → AllByRecursion (λ (id : Node Id). is_cedar id.node.text ≡ false) names
    → AllZip (EntryOf unreserved_text EntitySays) (each_with x (declarable names)) (map (λ t. (t, w)) ts)
ids_entered x w s [] [] k h = tt
ids_entered x w s [] (t ∷ ts) k h = absurd k
ids_entered x w s (n ∷ ns) [] k h = absurd k
ids_entered x w s (n ∷ ns) (t ∷ ts) k h =
    let d = declarable_id n.node h.0 in
    rw d.is ((d.same ∙ k.0, s), ids_entered x w s ns ts k.1 h.1)

actions_entered : (x : ActionType RawName as_written) (w : WrittenDeclared) → ActionSays x w
    → (names : List (Node (List ℕ))) (ts : List (List ℕ)) → AllZip SaysName names ts
    → AllZip (EntryOf action_text ActionSays) (each_with x (map (λ n. n.node) names)) (map (λ t. (t, w)) ts)
actions_entered x w s [] [] k = tt
actions_entered x w s [] (t ∷ ts) k = absurd k
actions_entered x w s (n ∷ ns) [] k = absurd k
actions_entered x w s (n ∷ ns) (t ∷ ts) k = ((k.0, s), actions_entered x w s ns ts k.1)

common_entered : (id : Id) (c : CommonType RawName) (w : WrittenDeclared) (ts : List (List ℕ)) (n : Node Id)
    → n.node ≡ id → CommonSays c w → AllZip SaysId (n ∷ []) ts
    → is_cedar id.text ≡ false → AllZip (EntryOf common_text CommonSays) (common_entry (unreserved id) c)
    (map (λ t. (t, w)) ts)
common_entered id c w [] n e s k h = absurd k
common_entered id c w (t ∷ ts) n e s k h =
    let d = declarable_id id h in
    rw d.is ((d.same ∙ (ap (λ (i : Id). i.text) (sym e) ∙ k.0), s), none_entered common_text CommonSays SaysId w ts k.1)

module _ (notes : Annotations) (loc : Option Span) (w : WrittenDeclared) (same : notes.0 ≡ w.notes)
    (h : IsNamedDeclared w) where
  entity_entered : (d : Declaration) → SaysDecl d w.decl
      → AllByRecursion (λ (id : Node Id). is_cedar id.node.text ≡ false) (entities_of d)
      → AllZip (EntryOf unreserved_text EntitySays) (entity_entries_of d notes loc)
      (map (λ t. (t, w)) (entities_of_decl w.decl))
  entity_entered (Entity d) k free = ids_entered (entity_type_of d notes loc) w (entity_says d notes loc w k same h)
      (entity_names d) (entities_of_decl w.decl) (kinds (Entity d) w.decl k).0 free
  entity_entered (Action d) k free = none_entered unreserved_text EntitySays SaysId w (entities_of_decl w.decl)
      (kinds (Action d) w.decl k).0
  entity_entered (Common d) k free = none_entered unreserved_text EntitySays SaysId w (entities_of_decl w.decl)
      (kinds (Common d) w.decl k).0

  action_entered : (d : Declaration) → SaysDecl d w.decl
      → AllZip (EntryOf action_text ActionSays) (action_entries_of d notes loc)
      (map (λ t. (t, w)) (actions_of_decl w.decl))
  action_entered (Entity d) k = none_entered action_text ActionSays SaysName w (actions_of_decl w.decl)
      (kinds (Entity d) w.decl k).1
  action_entered (Action d) k = actions_entered (action_type_of d notes loc) w (action_says d notes loc w k same h)
      (action_names d) (actions_of_decl w.decl) (kinds (Action d) w.decl k).1
  action_entered (Common d) k = none_entered action_text ActionSays SaysName w (actions_of_decl w.decl)
      (kinds (Common d) w.decl k).1

  one_common_entered : (d : Declaration) → SaysDecl d w.decl → AllByRecursion IsFreeCommon (commons_of d)
      → AllZip (EntryOf common_text CommonSays) (common_entries_of d notes loc)
      (map (λ t. (t, w)) (commons_of_decl w.decl))
  one_common_entered (Entity d) k free = none_entered common_text CommonSays SaysId w (commons_of_decl w.decl)
      (kinds (Entity d) w.decl k).2
  one_common_entered (Action d) k free = none_entered common_text CommonSays SaysId w (commons_of_decl w.decl)
      (kinds (Action d) w.decl k).2
  one_common_entered (Common d) k free =
      common_entered d.name.node (record { ty = type_of d.def; annotations = notes; loc = loc }) w
      (commons_of_decl w.decl) d.name refl (common_says d notes loc w k same h)
      (kinds (Common d) w.decl k).2 free.0.0

abbrev Declared : Type 0
Declared = Annotated (Node Declaration)

entities_entered : (ds : List Declared) (ws : List WrittenDeclared) → AllZip SaysDeclared ds ws
    → AllByRecursion IsNamedDeclared ws
    → AllByRecursion (λ (id : Node Id). is_cedar id.node.text ≡ false) (entity_names_in ds)
    → AllZip (EntryOf unreserved_text EntitySays) (entity_entries ds) (by_names entities_of_decl ws)
entities_entered [] [] k h free = tt
entities_entered [] (w ∷ ws) k h free = absurd k
entities_entered (d ∷ ds) [] k h free = absurd k
entities_entered (d ∷ ds) (w ∷ ws) k h free =
    let both = all_append (λ (id : Node Id). is_cedar id.node.text ≡ false) (entities_of d.item.node)
    (entity_names_in ds) free in
    zip_append (EntryOf unreserved_text EntitySays) (entity_entries_of d.item.node d.annotations d.item.loc)
    (entity_entries ds) (map (λ t. (t, w)) (entities_of_decl w.decl)) (by_names entities_of_decl ws)
    (entity_entered d.annotations d.item.loc w k.0.1 h.0 d.item.node k.0.0 both.0)
    (entities_entered ds ws k.1 h.1 both.1)

all_actions_entered : (ds : List Declared) (ws : List WrittenDeclared) → AllZip SaysDeclared ds ws
    → AllByRecursion IsNamedDeclared ws
    → AllZip (EntryOf action_text ActionSays) (action_entries ds) (by_names actions_of_decl ws)
all_actions_entered [] [] k h = tt
all_actions_entered [] (w ∷ ws) k h = absurd k
all_actions_entered (d ∷ ds) [] k h = absurd k
all_actions_entered (d ∷ ds) (w ∷ ws) k h =
    zip_append (EntryOf action_text ActionSays) (action_entries_of d.item.node d.annotations d.item.loc)
    (action_entries ds) (map (λ t. (t, w)) (actions_of_decl w.decl)) (by_names actions_of_decl ws)
    (action_entered d.annotations d.item.loc w k.0.1 h.0 d.item.node k.0.0) (all_actions_entered ds ws k.1 h.1)

commons_entered : (ds : List Declared) (ws : List WrittenDeclared) → AllZip SaysDeclared ds ws
    → AllByRecursion IsNamedDeclared ws → AllByRecursion IsFreeCommon (common_names_in ds)
    → AllZip (EntryOf common_text CommonSays) (common_entries ds) (by_names commons_of_decl ws)
commons_entered [] [] k h free = tt
commons_entered [] (w ∷ ws) k h free = absurd k
commons_entered (d ∷ ds) [] k h free = absurd k
commons_entered (d ∷ ds) (w ∷ ws) k h free =
    let both = all_append IsFreeCommon (commons_of d.item.node) (common_names_in ds) free in
    zip_append (EntryOf common_text CommonSays) (common_entries_of d.item.node d.annotations d.item.loc)
    (common_entries ds) (map (λ t. (t, w)) (commons_of_decl w.decl)) (by_names commons_of_decl ws)
    (one_common_entered d.annotations d.item.loc w k.0.1 h.0 d.item.node k.0.0 both.0)
    (commons_entered ds ws k.1 h.1 both.1)

-- the maps of declarations that say what is written
module _ (ds : List Declared) (ws : List WrittenDeclared) (k : AllZip SaysDeclared ds ws)
    (h : AllByRecursion IsNamedDeclared ws) where
  pub entities_map_says : AllByRecursion (λ (id : Node Id). is_cedar id.node.text ≡ false) (entity_names_in ds)
      → EntriesSay text_cmp unreserved_text EntitySays
      (map_of (λ a b. text_cmp a.id.text b.id.text) (entity_entries ds))
      (last_written (by_names entities_of_decl ws))
  entities_map_says free = map_says unreserved_text EntitySays (entity_entries ds) (by_names entities_of_decl ws)
      (entities_entered ds ws k h free)

  pub actions_map_says : EntriesSay text_cmp action_text ActionSays (map_of text_cmp (action_entries ds))
      (last_written (by_names actions_of_decl ws))
  actions_map_says = map_says action_text ActionSays (action_entries ds) (by_names actions_of_decl ws)
      (all_actions_entered ds ws k h)

  pub commons_map_says : AllByRecursion IsFreeCommon (common_names_in ds)
      → EntriesSay text_cmp common_text CommonSays
      (map_of (λ a b. text_cmp a.id.id.text b.id.id.text) (common_entries ds))
      (last_written (by_names commons_of_decl ws))
  commons_map_says free = map_says common_text CommonSays (common_entries ds) (by_names commons_of_decl ws)
      (commons_entered ds ws k h free)
