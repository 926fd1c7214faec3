-- The text of the items in the order of the walk is the canonical text of the meaning that is printed.
use Rattle.std.proofs.Common.{◌≡◌, ℕ, Bool, true, false, List, [], ◌∷◌, ◌++◌, codes, map, cond, get_or, All, refl, ap}
use Rattle.std.proofs.Common.{sym, ◌∙◌, subst, append_assoc, Option, Some, None, if◌then◌else◌}
use Rattle.std.specs.declared.cmp.Ordering.TheVariants.{Less, Equal}
use Rattle.std.specs.Cmp.Lexicographic.{slice_cmp}
use Rattle.std.specs.List.{filter, flat_map}
use Rattle.std.specs.Str.{bytes_eq}
use Rattle.std.proofs.lemmas.Bool.{and_from}
use Rattle.std.proofs.lemmas.Cmp.{tied_itself}
use Rattle.std.proofs.lemmas.List.{append-nil, map-append}
use Rattle.std.proofs.lemmas.List.Elements.{All-head, All-tail, All-nil, filter-append}
use Rattle.std.proofs.lemmas.Map.Views.{All-insert_key}
use Rattle.std.proofs.lemmas.Slice.Eq.{bytes_eq-Decides}
use Rattle.std.specs.List.Sorted.{IsStrictlySortedBy}
use Rattle.cedar_data.specs.Text.{text_cmp}
use Rattle.cedar_data.specs.Rows.{joined_by}
use Rattle.cedar_data.proofs.Lists.{map-map}
use Rattle.cedar_data.proofs.Orders.{texts_total}
use Rattle.cedar_identifiers.specs.Names.{name_text}
use Rattle.cedar_names.specs.CanonicalText.{namespace, namespaces, line_end, in_order, items_text, namespace_text}
use Rattle.cedar_names.specs.CanonicalText.{canonical_text, entity_type_text, action_text}
use Rattle.cedar_names.specs.Definitions.{same_name}
use Rattle.cedar_names.specs.Meaning.{EntityMeaning, ActionMeaning}
use Rattle.cedar_names.proofs.Defined.{equal_names}
use Rattle.schema_build_types.specs.Content.{SchemaContent}
use Rattle.schema_build_text.specs.Items.{item_text, base_in, opening, closing, break_between, before_text, after_text}
use Rattle.schema_build_text.specs.Readings.{entity_reading, action_reading, schema_reading}
use Rattle.schema_build_text.specs.Walk.{ItemContent, entity_type, action, namespace_of, items_of, items_in}
use Rattle.schema_build_text.specs.Walk.{namespaces_of, walk}
use Rattle.schema_build_text.specs.Rows.{sorted_once}
use Rattle.schema_build_text.proofs.Grouped.{rises_sorted}
use Rattle.schema_build_text.proofs.Rowed.{in_order_is}

abbrev pub Name : Type 0
Name = List (List ℕ)

pub same_self : (n : Name) → same_name n n ≡ true
same_self [] = refl
same_self (c ∷ cs) = and_from (bytes_eq c c) (same_name cs cs) ((bytes_eq-Decides c c).1 refl) (same_self cs)

by_bool : (P : Bool → Type 0) (b : Bool) → (b ≡ true → P true) → (b ≡ false → P false) → P b
by_bool P true t f = t refl
by_bool P false t f = f refl

pub apart : (m n : Name) → slice_cmp text_cmp m n ≡ Less → same_name m n ≡ false
apart m n less = by_bool (λ b. same_name m n ≡ b → b ≡ false) (same_name m n)
    (λ e h. absurd (clash (equal_names m n e))) (λ e h. refl) refl
  where
    clash : m ≡ n → ⊥
    clash e = let tied : slice_cmp text_cmp m n ≡ Equal = ap (slice_cmp text_cmp m) (sym e)
        ∙ tied_itself texts_total m in cc

-- the text of items behind one of this namespace
abbrev pub text_behind : Option Name → List ItemContent → List ℕ
text_behind before [] = after_text before
text_behind before (z ∷ zs) =
    before_text before (namespace_of z)
    ++ (item_text (base_in (namespace_of z)) z ++ text_behind (Some (namespace_of z)) zs)

-- all of this namespace
abbrev pub AreIn : Name → List ItemContent → Type 0
AreIn n [] = Unit {0}
AreIn n (z ∷ zs) = (namespace_of z ≡ n) × AreIn n zs

-- each behind an empty line
abbrev later_texts : Name → List ItemContent → List ℕ
later_texts n [] = []
later_texts n (z ∷ zs) = line_end ++ (item_text (base_in n) z ++ later_texts n zs)

together : (n : Name) → break_between n n ≡ line_end
together n = ap (λ (b : Bool). if b then line_end else closing n ++ (line_end ++ opening n)) (same_self n)

group_text : (n : Name) (zs rest : List ItemContent) → AreIn n zs
    → text_behind (Some n) (zs ++ rest) ≡ later_texts n zs ++ text_behind (Some n) rest
group_text n [] rest a = refl
group_text n (z ∷ zs) rest a =
    ap (λ m. break_between n m ++ (item_text (base_in m) z ++ text_behind (Some m) (zs ++ rest))) a.0
    ∙ (ap (λ t. t ++ (item_text (base_in n) z ++ text_behind (Some n) (zs ++ rest))) (together n)
    ∙ (ap (λ t. line_end ++ (item_text (base_in n) z ++ t)) (group_text n zs rest a.1)
    ∙ ap (λ t. line_end ++ t) (sym
    (append_assoc (item_text (base_in n) z) (later_texts n zs) (text_behind (Some n) rest)))))

joined_texts : (n : Name) (z : ItemContent) (zs : List ItemContent)
    → joined_by line_end (map (item_text (base_in n)) (z ∷ zs)) ≡ item_text (base_in n) z ++ later_texts n zs
joined_texts n z [] = sym (append-nil (item_text (base_in n) z))
joined_texts n z (y ∷ ys) = ap (λ t. item_text (base_in n) z ++ (line_end ++ t)) (joined_texts n y ys)

-- the items of a namespace are some, and are of it
record IsGroup (n : Name) (zs : List ItemContent) : Type 0 where
  head : ItemContent
  rest : List ItemContent
  is : zs ≡ head ∷ rest
  within : AreIn n zs

module _ (items : Name → List ItemContent) where
  abbrev block : Name → List ℕ
  block n = opening n ++ (joined_by line_end (map (item_text (base_in n)) (items n)) ++ closing n)

  abbrev later_blocks : List Name → List ℕ
  later_blocks [] = []
  later_blocks (n ∷ ns) = line_end ++ (block n ++ later_blocks ns)

  -- the text of a group, behind what stands before it
  begun_text : (before : Option Name) (n : Name) (zs rest : List ItemContent) → IsGroup n zs
      → text_behind before (zs ++ rest) ≡ before_text before n
      ++ (joined_by line_end (map (item_text (base_in n)) zs) ++ text_behind (Some n) rest)
  begun_text before n zs rest g =
      let within : AreIn n (g.head ∷ g.rest) = subst (AreIn n) g.is g.within in
      ap (λ l. text_behind before (l ++ rest)) g.is
      ∙ (ap (λ m. before_text before m ++ (item_text (base_in m) g.head ++ text_behind (Some m) (g.rest ++ rest)))
      within.0
      ∙ (ap (λ t. before_text before n ++ (item_text (base_in n) g.head ++ t)) (group_text n g.rest rest within.1)
      ∙ (ap (λ t. before_text before n ++ t)
      (sym (append_assoc (item_text (base_in n) g.head) (later_texts n g.rest) (text_behind (Some n) rest)))
      ∙ (ap (λ t. before_text before n ++ (t ++ text_behind (Some n) rest)) (sym (joined_texts n g.head g.rest))
      ∙ ap (λ l. before_text before n
      ++ (joined_by line_end (map (item_text (base_in n)) l) ++ text_behind (Some n) rest)) (sym g.is)))))

  blocks_behind : (m : Name) (ns : List Name) → IsStrictlySortedBy (slice_cmp text_cmp) (m ∷ ns)
      → All (λ n. IsGroup n (items n)) ns → text_behind (Some m) (flat_map items ns) ≡ closing m ++ later_blocks ns
  unfolding IsStrictlySortedBy
  blocks_behind m [] r all = sym (append-nil (closing m))
  blocks_behind m (n ∷ ns) r all =
      let texts = joined_by line_end (map (item_text (base_in n)) (items n)) in
      begun_text (Some m) n (items n) (flat_map items ns) (All-head (λ k. IsGroup k (items k)) n ns all)
      ∙ (ap (λ (b : Bool). (if b then line_end else closing m ++ (line_end ++ opening n))
      ++ (texts ++ text_behind (Some n) (flat_map items ns))) (apart m n r.0.0)
      ∙ (ap (λ t. (closing m ++ (line_end ++ opening n)) ++ (texts ++ t))
      (blocks_behind n ns r.1 (All-tail (λ k. IsGroup k (items k)) n ns all))
      ∙ simp append_assoc))

  joined_blocks : (k : Name) (ks : List Name) → block k ++ later_blocks ks ≡ joined_by line_end (map block (k ∷ ks))
  joined_blocks k [] = append-nil (block k)
  joined_blocks k (j ∷ js) = ap (λ t. block k ++ (line_end ++ t)) (joined_blocks j js)

  blocks_text : (ns : List Name) → IsStrictlySortedBy (slice_cmp text_cmp) ns → All (λ n. IsGroup n (items n)) ns
      → text_behind None (flat_map items ns) ≡ joined_by line_end (map block ns)
  blocks_text [] r all = refl
  blocks_text (n ∷ ns) r all =
      let texts = joined_by line_end (map (item_text (base_in n)) (items n)) in
      begun_text None n (items n) (flat_map items ns) (All-head (λ k. IsGroup k (items k)) n ns all)
      ∙ (ap (λ t. opening n ++ (texts ++ t)) (blocks_behind n ns r (All-tail (λ k. IsGroup k (items k)) n ns all))
      ∙ (ap (λ t. opening n ++ t) (sym (append_assoc texts (closing n) (later_blocks ns)))
      ∙ (sym (append_assoc (opening n) (texts ++ closing n) (later_blocks ns)) ∙ joined_blocks n ns)))

-- the items of a namespace are of it
pub within : (n : Name) (xs : List ItemContent) → AreIn n (filter (λ x. same_name n (namespace_of x)) xs)
within n [] = tt
within n (x ∷ xs) = by (within n xs) (same_name n (namespace_of x)) refl
  where
    by : AreIn n (filter (λ x. same_name n (namespace_of x)) xs) → (b : Bool) → same_name n (namespace_of x) ≡ b
        → AreIn n (cond b (x ∷ filter (λ x. same_name n (namespace_of x)) xs)
        (filter (λ x. same_name n (namespace_of x)) xs))
    by more true e = (sym (equal_names n (namespace_of x) e), more)
    by more false e = more

-- and there are some
record HasItems (n : Name) (xs : List ItemContent) : Type 0 where
  head : ItemContent
  rest : List ItemContent
  is : filter (λ x. same_name n (namespace_of x)) xs ≡ head ∷ rest

more_items : (n : Name) (x : ItemContent) (xs : List ItemContent) → HasItems n xs → HasItems n (x ∷ xs)
more_items n x xs s = by (same_name n (namespace_of x)) refl
  where
    by : (b : Bool) → same_name n (namespace_of x) ≡ b → HasItems n (x ∷ xs)
    by true e = record {
      head = x;
      rest = filter (λ x. same_name n (namespace_of x)) xs;
      is = ap (λ t. cond t (x ∷ filter (λ x. same_name n (namespace_of x)) xs)
          (filter (λ x. same_name n (namespace_of x)) xs)) e;
    }
    by false e = record {
      head = s.head;
      rest = s.rest;
      is = ap (λ t. cond t (x ∷ filter (λ x. same_name n (namespace_of x)) xs)
          (filter (λ x. same_name n (namespace_of x)) xs)) e ∙ s.is;
    }

own_items : (x : ItemContent) (xs : List ItemContent) → HasItems (namespace_of x) (x ∷ xs)
own_items x xs =
    let others = filter (λ y. same_name (namespace_of x) (namespace_of y)) xs in
    record { head = x; rest = others; is = ap (λ t. cond t (x ∷ others) others) (same_self (namespace_of x)) }

all_have : (xs : List ItemContent) → All (λ n. HasItems n xs) (sorted_once (slice_cmp text_cmp) (map namespace_of xs))
all_have [] = All-nil (λ n. HasItems n [])
all_have (x ∷ xs) =
    All-insert_key (slice_cmp text_cmp) (namespace_of x) (λ n. HasItems n (x ∷ xs))
    (sorted_once (slice_cmp text_cmp) (map namespace_of xs))
    (λ i d h. more_items (get_or (sorted_once (slice_cmp text_cmp) (map namespace_of xs)) i d) x xs
    (all_have xs i d h)) (own_items x xs)

group_of : (n : Name) (xs : List ItemContent) → HasItems n xs
    → IsGroup n (filter (λ x. same_name n (namespace_of x)) xs)
group_of n xs s = record { head = s.head; rest = s.rest; is = s.is; within = within n xs }

walk_text : (c : SchemaContent)
    → text_behind None (walk c) ≡ joined_by line_end (map (block (items_in c)) (namespaces_of c))
walk_text c =
    let ns = sorted_once (slice_cmp text_cmp) (map namespace_of (items_of c)) in
    subst (λ l. text_behind None (flat_map (items_in c) l) ≡ joined_by line_end (map (block (items_in c)) l))
    (sym (in_order_is (map namespace_of (items_of c))))
    (blocks_text (items_in c) ns (rises_sorted texts_total (map namespace_of (items_of c)))
    (λ i d h. group_of (get_or ns i d) (items_of c) (all_have (items_of c) i d h)))

module _ {A B D T : Type 0} (f : A → B) (g : A → D) (p : B → Bool) (q : D → Bool) (s : B → T) (t : D → T)
    (pq : (x : A) → p (f x) ≡ q (g x)) (st : (x : A) → s (f x) ≡ t (g x)) where
  alike : (xs : List A) → map s (filter p (map f xs)) ≡ map t (filter q (map g xs))
  alike [] = refl
  alike (x ∷ xs) = ap (λ b. map s (cond b (f x ∷ filter p (map f xs)) (filter p (map f xs)))) (pq x)
      ∙ by (alike xs) (q (g x))
    where
      by : map s (filter p (map f xs)) ≡ map t (filter q (map g xs)) → (b : Bool)
          → map s (cond b (f x ∷ filter p (map f xs)) (filter p (map f xs)))
          ≡ map t (cond b (g x ∷ filter q (map g xs)) (filter q (map g xs)))
      by more true = λ i. st x i ∷ more i
      by more false = more

module _ (c : SchemaContent) where
  texts_are : (base : ℕ) (n : Name)
      → joined_by line_end (map (item_text base) (items_in c n)) ≡ items_text true base (schema_reading c) n
  texts_are base n =
      let p = λ (x : ItemContent). same_name n (namespace_of x) in
      ap (joined_by line_end)
      (ap (map (item_text base)) (filter-append p (map entity_type c.entities) (map action c.actions))
      ∙ (map-append (item_text base) (filter p (map entity_type c.entities)) (filter p (map action c.actions))
      ∙ (λ i.
      alike entity_type entity_reading p (λ (e : EntityMeaning). same_name n (namespace e.name)) (item_text base)
      (entity_type_text true base) (λ x. refl) (λ x. refl) c.entities i
      ++ alike action action_reading p (λ (a : ActionMeaning). same_name n (namespace a.ty)) (item_text base)
      (action_text true base) (λ x. refl) (λ x. refl) c.actions i)))

  block_is : (n : Name) → block (items_in c) n ≡ namespace_text true (schema_reading c) n
  block_is [] = append-nil (joined_by line_end (map (item_text 0) (items_in c []))) ∙ texts_are 0 []
  block_is (k ∷ ks) =
      ap (λ t. (codes "namespace " ++ (name_text (k ∷ ks) ++ codes " {\n")) ++ (t ++ codes "}\n"))
      (texts_are 2 (k ∷ ks))
      ∙ ap (λ t. codes "namespace " ++ t)
      (append_assoc (name_text (k ∷ ks)) (codes " {\n") (items_text true 2 (schema_reading c) (k ∷ ks) ++ codes "}\n"))

  names_are : namespaces_of c ≡ namespaces (schema_reading c)
  names_are =
      ap in_order
      (map-append namespace_of (map entity_type c.entities) (map action c.actions)
      ∙ (λ i.
      (map-map namespace_of entity_type c.entities
      ∙ sym (map-map (λ (e : EntityMeaning). namespace e.name) entity_reading c.entities)) i
      ++ (map-map namespace_of action c.actions
      ∙ sym (map-map (λ (a : ActionMeaning). namespace a.ty) action_reading c.actions)) i))

  pub printed : text_behind None (walk c) ≡ canonical_text (schema_reading c)
  printed = walk_text c ∙ (λ i. joined_by line_end (map (λ n. block_is n i) (names_are i)))
