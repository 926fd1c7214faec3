-- The namespaces of a schema's items, and the fragment of what is recovered of them.
use Rattle.std.proofs.Common.{◌≡◌, ℕ, ◌+◌, ◌<◌, List, [], ◌∷◌, ◌++◌, length, map, take, get_or, Option, refl, ap, sym}
use Rattle.std.proofs.Common.{◌∙◌}
use Rattle.std.proofs.Common.{subst, append_assoc, arith}
use denote.Ref.{Bor}
use Rattle.std.specs.List.{AllZip, flat_map}
use Rattle.std.proofs.lemmas.List.{map_push, map_more, take_more}
use Rattle.cedar_data.specs.Maps.{map_of}
use Rattle.cedar_data.proofs.Lists.{map-map}
use Rattle.cedar_identifiers.specs.declared.name.Name.{Name}
use Rattle.cedar_identifiers.specs.declared.name_text.NameText as named
use Rattle.cedar_identifiers.specs.declared.raw_name.RawName.{RawName}
use Rattle.cedar_names.specs.CanonicalText.{namespace, namespaces, in_order}
use Rattle.cedar_names.specs.Meaning.{EntityMeaning, ActionMeaning, SchemaMeaning}
use Rattle.schema_json.specs.declared.fragment.NamespaceDefinition.{NamespaceDefinition}
use Rattle.schema_build_types.specs.Content.{SchemaContent, content, entity_content, action_content}
use Rattle.schema_build_types.specs.Lacks.{namespace_lacks, schema_lacks}
use Rattle.schema_build_text.proofs.InOrder.{entity_named, action_named}
use Rattle.schema_build_text.specs.Readings.{schema_reading, entity_reading, action_reading}
use Rattle.schema_build_recovered.specs.Places.{words_of}
use Rattle.schema_build_recovered.specs.Recovered.{IsRecoveredNamespace}
use Rattle.schema_build_recovered.specs.declared.names.Namespace.{Namespace}
use Rattle.schema_build_recovered.proofs.Gathered.{lent_at, lent_long}
use Rattle.schema_build_recovered.proofs.Halves.{entity_key, action_key}
use Rattle.schema_build_recovered.proofs.Keys.{key_order, rows_are}
use Rattle.schema_build_recovered.proofs.Sides.{IsRising}
use Rattle.schema_build_recovered.proofs.Spaces.{in_order_rises}
use Rattle.schema_build_recovered.proofs.Walks.{Entities, Actions, words}

-- one more namespace, behind others
pub keyed_more : {X : Type 0} (f : X → List (List ℕ)) (front : List (List (List ℕ))) (xs : List X) (i : ℕ) (d : X)
    (all : List Namespace) (n : Namespace) → i < length xs → d ≡ get_or xs i d → words_of n.words ≡ f d
    → words all ≡ front ++ map f (take i xs) → words (all ++ n ∷ []) ≡ front ++ map f (take (i + 1) xs)
keyed_more f front xs i d all n h at e so_far =
    map_push (λ (k : Namespace). words_of k.words) all n ∙ (λ j. so_far j ++ e j ∷ [])
    ∙ append_assoc front (map f (take i xs)) (f d ∷ [])
    ∙ ap (λ l. front ++ l) (sym (map_more f xs i d h ∙ ap (λ y. map f (take i xs) ++ f y ∷ []) (sym at)))

pub lent_more : {X : Type 0} (xs : List (Bor X)) (i : ℕ) (d : Bor X) (ys : List X) → i < length xs
    → d ≡ get_or xs i d → ys ≡ take i (map (λ x. x.now) xs) → ys ++ d.now ∷ [] ≡ take (i + 1) (map (λ x. x.now) xs)
lent_more xs i d ys h at so_far =
    let all = map (λ x. x.now) xs in
    ap (λ l. l ++ d.now ∷ []) so_far
    ∙ sym (take_more all i d.now (omega (arith, h, lent_long xs))
    ∙ ap (λ y. take i all ++ y ∷ []) (sym (lent_at xs i d at)))

entity_keys : (entities : Entities)
    → map (λ (e : EntityMeaning). namespace e.name) (map entity_reading (map entity_content entities))
    ≡ map entity_key entities
entity_keys [] = refl
entity_keys (e ∷ entities) = λ i. namespace (entity_named e.0 e.1 i) ∷ entity_keys entities i

action_keys : (actions : Actions)
    → map (λ (a : ActionMeaning). namespace a.ty) (map action_reading (map action_content actions))
    ≡ map action_key actions
action_keys [] = refl
action_keys (a ∷ actions) = λ i. namespace (action_named a.0 a.1 i) ∷ action_keys actions i

pub namespaces_are : (entities : Entities) (actions : Actions)
    → in_order (map entity_key entities ++ map action_key actions)
    ≡ namespaces (schema_reading (content entities actions))
namespaces_are entities actions = ap in_order (sym (λ i. entity_keys entities i ++ action_keys actions i))

-- what all namespaces lack
pub all_lack : (c : SchemaContent) → flat_map (namespace_lacks c) (namespaces (schema_reading c)) ≡ schema_lacks c
all_lack c = λ i. flat_map (namespace_lacks c)
    (in_order (map-map (λ (e : EntityMeaning). namespace e.name) entity_reading c.entities i
    ++ map-map (λ (a : ActionMeaning). namespace a.ty) action_reading c.actions i))

-- the namespaces of a meaning rise
pub namespaces_rise : (m : SchemaMeaning) → IsRising (namespaces m)
namespaces_rise m =
    in_order_rises (map (λ (e : EntityMeaning). namespace e.name) m.entities
    ++ map (λ (a : ActionMeaning). namespace a.ty) m.actions)

-- the rows of the namespaces of a meaning are the fragment
module _ {G : named.Ghosts RawName} where
  pub fragment_is : (r m : SchemaMeaning) → r ≡ m → (rows entries : List (Option Name × NamespaceDefinition RawName G))
      → AllZip (IsRecoveredNamespace r) (namespaces r) rows → entries ≡ map_of key_order rows
      → AllZip (IsRecoveredNamespace m) (namespaces m) entries
  fragment_is r m same rows entries all e =
      let is = e ∙ rows_are (IsRecoveredNamespace {G = G} r) (λ n x h. h.name) (namespaces r) rows all
      (namespaces_rise r) in
      subst (AllZip (IsRecoveredNamespace m) (namespaces m)) (sym is)
      (subst (λ x. AllZip (IsRecoveredNamespace {G = G} x) (namespaces x) rows) same all)
