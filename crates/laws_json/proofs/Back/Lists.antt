-- What is written of lists and of the keys of objects reads back.
use Rattle.std.proofs.Common.{◌≡◌, ℕ, List, [], ◌∷◌, ◌++◌, map, Option, Some, None, refl, sym, map-id}
use Rattle.std.proofs.Common.{ap}
use Rattle.std.proofs.Common.{◌∙◌, subst, append_assoc, append-nil}
use Rattle.std.specs.List.Sorted.{IsStrictlySortedBy}
use Rattle.std.specs.Prelude.{codes, ⊤, IfSome}
use Rattle.std.specs.List.{AllByRecursion}
use Rattle.std.specs.Ordering.{match_ordering, nat_cmp, ordering_reverse}
use Rattle.std.specs.Cmp.Lexicographic.{slice_cmp}
use Rattle.std.specs.Str.{chars, encode_utf8_all}
use Rattle.std.specs.declared.cmp.Ordering.TheVariants.{Less}
use Rattle.std.proofs.lemmas.Cmp.{nat_list_cmp_total}
use Rattle.std.proofs.lemmas.Str.{chars-encodes}
use Rattle.serde_json.specs.Data.{Data, null, Members, no_members, member, put}
use Rattle.serde_json.specs.View.{items_of}
use Rattle.cedar_data.specs.Text.{text_cmp}
use Rattle.cedar_identifiers.specs.declared.eid.Eid.{Eid}
use Rattle.cedar_identifiers.specs.declared.raw_name.RawName.{RawName}
use Rattle.schema_json_values.specs.TypeValues.{put_all, object_of}
use Rattle.schema_json_values.specs.FragmentValues.{list_of, with_list, with_optional_value, name_value, choice_value}
use Rattle.schema_json_values.specs.FragmentValues.{attribute_name_entry, with_attribute_names}
use Rattle.schema_json_shapes.specs.declared.name_role.NameRole.TheVariants as role
use Rattle.schema_json_shapes.specs.Walk.{Role, AllMet, demands, item_demands, named, names, texts, text, keys, ignored}
use Rattle.schema_json_shapes.specs.Walk.{or_null, or_next}
use Rattle.schema_json_shapes.specs.Reads.{field_demands}
use Rattle.schema_json_shapes.specs.Said.{AreItems, no_item, next_item, IsListOrNone, IsNamed, IsChoice, IsOptional}
use Rattle.schema_json_shapes.specs.Said.{not_null}
use Rattle.schema_json_shapes.specs.Shapes.{key_texts, AreKeys}
use Rattle.schema_json_shapes.proofs.Demands.{both_met}
use Rattle.laws_translate.specs.Bare.{bare_name}
use Rattle.laws_json.specs.Back.Sayable as is_sayable
use Rattle.laws_json.proofs.Back.Placed.{RisesBy, rises_from, all_met}
use Rattle.laws_json.proofs.Back.Names.{raw_reads}
use Rattle.laws_json.proofs.Back.Types.{components}

-- ---- items one by one

pub items_say : {A X : Type 0} (P : Data → X → Type 0) (f : A → Data) (g : A → X) (xs : List A)
    → AllByRecursion (λ x. P (f x) (g x)) xs → AreItems P (items_of (map f xs)) (map g xs)
items_say P f g [] h = no_item
items_say P f g (x ∷ xs) h =
    next_item (f x) (items_of (map f xs)) (g x) (map g xs) h.0 (items_say P f g xs h.1)

pub items_met : {A : Type 0} (r : Role) (label : List ℕ) (f : A → Data) (xs : List A)
    → AllByRecursion (λ x. AllMet (demands r label (f x))) xs → AllMet (item_demands r label (items_of (map f xs)))
items_met r label f [] h = tt
items_met r label f (x ∷ xs) h =
    both_met (demands r label (f x)) (item_demands r label (items_of (map f xs))) h.0 (items_met r label f xs h.1)

-- ---- names

names_each : (ns : List RawName) → AllByRecursion (λ n. IsNamed (name_value components n) (bare_name n)) ns
names_each [] = tt
names_each (n ∷ ns) = (raw_reads n, names_each ns)

pub names_say : (ns : List RawName)
    → AreItems IsNamed (items_of (map (name_value components) ns)) (map bare_name ns)
names_say ns = items_say IsNamed (name_value components) bare_name ns (names_each ns)

each_name_met : (label : List ℕ) (ns : List RawName)
    → AllByRecursion (λ n. AllMet (demands (named role.Name) label (name_value components n))) ns
each_name_met label [] = tt
each_name_met label (n ∷ ns) = (((components n, (raw_reads n).0), tt), each_name_met label ns)

pub names_met : (label : List ℕ) (ns : List RawName)
    → AllMet (demands names label (list_of (map (name_value components) ns)))
names_met label ns = items_met (named role.Name) label (name_value components) ns (each_name_met label ns)

abbrev pub list_field : List Data → Option Data
list_field [] = None
list_field (d ∷ ds) = Some (list_of (d ∷ ds))

pub list_value : (key : List ℕ) (ds : List Data) (ms : Members)
    → with_list key ds ms ≡ with_optional_value key (list_field ds) ms
list_value key [] ms = refl
list_value key (d ∷ ds) ms = refl

pub parents_say : (ns : List RawName)
    → IsListOrNone IsNamed (or_next (list_field (map (name_value components) ns)) None) (map bare_name ns)
parents_say [] = refl
parents_say (n ∷ ns) = names_say (n ∷ ns)

pub parents_met : (label : List ℕ) (ns : List RawName)
    → AllMet (field_demands names label (list_field (map (name_value components) ns)))
parents_met label [] = tt
parents_met label (n ∷ ns) = names_met label (n ∷ ns)

-- ---- choices

choices_each : (cs : List Eid) → AllByRecursion (λ (e : Eid). is_sayable.IsCharacters e.0) cs
    → AllByRecursion (λ c. IsChoice (choice_value c) c) cs
choices_each [] h = tt
choices_each (c ∷ cs) h = (sym (chars-encodes c.0 h.0), choices_each cs h.1)

pub choices_say : (cs : List Eid) → AllByRecursion (λ (e : Eid). is_sayable.IsCharacters e.0) cs
    → AreItems IsChoice (items_of (map choice_value cs)) cs
choices_say cs h =
    subst (AreItems IsChoice (items_of (map choice_value cs))) (map-id cs)
    (items_say IsChoice choice_value (λ c. c) cs (choices_each cs h))

each_choice_met : (label : List ℕ) (cs : List Eid)
    → AllByRecursion (λ c. AllMet (demands text label (choice_value c))) cs
each_choice_met label [] = tt
each_choice_met label (c ∷ cs) = (tt, each_choice_met label cs)

pub choices_met : (label : List ℕ) (cs : List Eid) → AllMet (demands texts label (list_of (map choice_value cs)))
choices_met label cs = items_met text label choice_value cs (each_choice_met label cs)

-- ---- keys

-- each key of the members is below these bytes
abbrev Below : Members → List ℕ → Type 0
Below no_members k = ⊤
Below (member l d ms) k = (slice_cmp nat_cmp l k ≡ Less) × Below ms k

below_more : (ms : Members) (k q : List ℕ) (d : Data) → Below ms k → Below ms q → slice_cmp nat_cmp k q ≡ Less
    → Below (put k d ms) q
below_more no_members k q d b c h = (h, tt)
below_more (member l e ms) k q d b c h =
    subst (λ o. Below (match_ordering o (member k d (member l e ms)) (member l d ms) (member l e (put k d ms))) q)
    (sym (nat_list_cmp_total.antisymm k l ∙ ap ordering_reverse b.0)) (c.0, below_more ms k q d b.1 c.1 h)

key_put : (ms : Members) (k : List ℕ) (d : Data) → Below ms k → key_texts (put k d ms) ≡ key_texts ms ++ chars k ∷ []
key_put no_members k d b = refl
key_put (member l e ms) k d b =
    ap (λ o. key_texts (match_ordering o (member k d (member l e ms)) (member l d ms) (member l e (put k d ms))))
    (nat_list_cmp_total.antisymm k l ∙ ap ordering_reverse b.0)
    ∙ ap (λ ks. chars l ∷ ks) (key_put ms k d b.1)

abbrev AllBelow : Members → List (List ℕ) → Type 0
AllBelow ms ts = AllByRecursion (λ t. Below ms (encode_utf8_all t)) ts

all_below_more : (ms : Members) (t : List ℕ) (ts : List (List ℕ)) (d : Data) → Below ms (encode_utf8_all t)
    → AllBelow ms ts → AllByRecursion (λ u. text_cmp t u ≡ Less) ts → AllBelow (put (encode_utf8_all t) d ms) ts
all_below_more ms t [] d b a h = tt
all_below_more ms t (u ∷ us) d b a h =
    (below_more ms (encode_utf8_all t) (encode_utf8_all u) d b a.0 h.0, all_below_more ms t us d b a.1 h.1)

keys_put : (ts : List (List ℕ)) (ms : Members) → RisesBy text_cmp ts → AllByRecursion is_sayable.IsCharacters ts
    → AllBelow ms ts → key_texts (put_all (map attribute_name_entry ts) ms) ≡ key_texts ms ++ ts
keys_put [] ms r c a = sym (append-nil (key_texts ms))
keys_put (t ∷ ts) ms r c a =
    keys_put ts (put (encode_utf8_all t) null ms) r.1 c.1 (all_below_more ms t ts null a.0 a.1 r.0)
    ∙ (ap (λ ks. ks ++ ts) (key_put ms (encode_utf8_all t) null a.0 ∙ ap (λ x. key_texts ms ++ x ∷ [])
    (chars-encodes t c.0)) ∙ append_assoc (key_texts ms) (t ∷ []) ts)

none_below : (ts : List (List ℕ)) → AllBelow no_members ts
none_below [] = tt
none_below (t ∷ ts) = (tt, none_below ts)

keys_say : (ts : List (List ℕ)) → is_sayable.AreSayableNames ts
    → AreKeys (object_of (map attribute_name_entry ts)) ts
keys_say ts p = sym (keys_put ts no_members (rises_from text_cmp (λ t. t) ts
    (subst (IsStrictlySortedBy text_cmp) (sym (map-id ts)) p.0)) p.1 (none_below ts))

abbrev pub attributes_field : Option (List (List ℕ)) → Option Data
attributes_field None = None
attributes_field (Some ts) = Some (object_of (map attribute_name_entry ts))

pub attributes_value : (o : Option (List (List ℕ))) (ms : Members)
    → with_attribute_names o ms ≡ with_optional_value (codes "attributes") (attributes_field o) ms
attributes_value None ms = refl
attributes_value (Some ts) ms = refl

pub attributes_say : (o : Option (List (List ℕ))) → IfSome o is_sayable.AreSayableNames
    → IsOptional AreKeys (not_null (or_next (attributes_field o) None)) o
attributes_say None h = refl
attributes_say (Some ts) h = (ts, keys_say ts h, refl)

each_key_met : (ts : List (List ℕ)) → AllByRecursion (λ t. AllMet []
    × AllMet (demands ignored (attribute_name_entry t).0 (attribute_name_entry t).1)) ts
each_key_met [] = tt
each_key_met (t ∷ ts) = ((tt, tt), each_key_met ts)

pub attributes_met : (label : List ℕ) (o : Option (List (List ℕ)))
    → AllMet (field_demands (or_null keys) label (attributes_field o))
attributes_met label None = tt
attributes_met label (Some ts) =
    all_met (λ k. []) (λ k. ignored) attribute_name_entry ts no_members (each_key_met ts) tt
