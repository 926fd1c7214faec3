-- Members and items that are read one after another.
use Rattle.std.proofs.Common.{◌≡◌, ℕ, ◌+◌, ◌<◌, ◌≤◌, List, [], ◌∷◌, ◌++◌, length, get_or, drop, sym, ap, ◌∙◌, subst}
use Rattle.std.proofs.Common.{append_assoc, append-nil}
use Rattle.std.proofs.lemmas.List.{drop_more, drop_all}
use Rattle.serde_json.specs.Data.{Data, Items, Members, no_members, member}
use Rattle.serde_json.specs.View.{view, items_view, members_view}
use Rattle.serde_json.proofs.Views.{Entry}
use Rattle.serde_json.specs.declared.value.Value.{Value}
use Rattle.schema_json_shapes.specs.declared.shape_fault.ShapeFault.{ShapeFault}
use Rattle.schema_json_shapes.specs.Walk.{Role, Demand, AllMet, demands, member_demands, item_demands}
use Rattle.schema_json_shapes.specs.Said.{AreItems, no_item, next_item}
use Rattle.schema_json_shapes.specs.Reads.{IsDemandFault}
use Rattle.schema_json_shapes.proofs.Demands.{both_met, fails, passes}

-- ---- demands of members

module _ (key : List ℕ → List Demand) (role : List ℕ → Role) where
  -- what is left of the members, and all of them
  pub record Left (left all : Members) : Type 0 where
    pub met : AllMet (member_demands key role left) → AllMet (member_demands key role all)
    pub unmet : (e : ShapeFault) → IsDemandFault (member_demands key role left) e
        → IsDemandFault (member_demands key role all) e

  pub all_left : (es fs : List Entry) → es ≡ fs → Left (members_view es) (members_view fs)
  all_left es fs same = subst (λ ys. Left (members_view es) (members_view ys)) same
      (record { met = λ h. h; unmet = λ e h. h })

  -- the first of what is left has a fault
  pub first_fails : (k : List ℕ) (d : Data) (left all : Members) (e : ShapeFault) → Left (member k d left) all
      → IsDemandFault (key k ++ demands (role k) k d) e → IsDemandFault (member_demands key role all) e
  first_fails k d left all e l h =
      l.unmet e (subst (λ ds. IsDemandFault ds e)
      (append_assoc (key k) (demands (role k) k d) (member_demands key role left))
      (fails (key k ++ demands (role k) k d) (member_demands key role left) e h))

  pub first_passes : (k : List ℕ) (d : Data) (left all : Members) → Left (member k d left) all
      → AllMet (key k ++ demands (role k) k d) → Left left all
  first_passes k d left all l h =
      let whole = append_assoc (key k) (demands (role k) k d) (member_demands key role left) in
      record {
        met = λ m. l.met (subst AllMet whole
            (both_met (key k ++ demands (role k) k d) (member_demands key role left) h m));
        unmet = λ e m. l.unmet e (subst (λ ds. IsDemandFault ds e) whole
            (passes (key k ++ demands (role k) k d) (member_demands key role left) e h m));
      }

  pub none_left : (all : Members) → Left no_members all → AllMet (member_demands key role all)
  none_left all l = l.met tt

-- ---- items of a list

module _ (role : Role) (label : List ℕ) where
  pub record LeftItems (left all : Items) : Type 0 where
    pub met : AllMet (item_demands role label left) → AllMet (item_demands role label all)
    pub unmet : (e : ShapeFault) → IsDemandFault (item_demands role label left) e
        → IsDemandFault (item_demands role label all) e

  pub all_items_left : (ds : Items) → LeftItems ds ds
  all_items_left ds = record { met = λ h. h; unmet = λ e h. h }

  pub item_fails : (vs : List Value) (i : ℕ) (x : Value) (all : Items) (e : ShapeFault) → i < length vs
      → x ≡ get_or vs i x → LeftItems (items_view (drop i vs)) all → IsDemandFault (demands role label (view x)) e
      → IsDemandFault (item_demands role label all) e
  item_fails vs i x all e h is l f =
      let here : drop i vs ≡ x ∷ drop (i + 1) vs = drop_more vs i x h ∙ ap (λ y. y ∷ drop (i + 1) vs) (sym is) in
      l.unmet e (subst (λ d. IsDemandFault (item_demands role label (items_view d)) e) (sym here)
      (fails (demands role label (view x)) (item_demands role label (items_view (drop (i + 1) vs))) e f))

  pub item_passes : (vs : List Value) (i : ℕ) (x : Value) (all : Items) → i < length vs → x ≡ get_or vs i x
      → LeftItems (items_view (drop i vs)) all → AllMet (demands role label (view x))
      → LeftItems (items_view (drop (i + 1) vs)) all
  item_passes vs i x all h is l m =
      let here : drop i vs ≡ x ∷ drop (i + 1) vs = drop_more vs i x h ∙ ap (λ y. y ∷ drop (i + 1) vs) (sym is) in
      let rest = item_demands role label (items_view (drop (i + 1) vs)) in
      record {
        met = λ g. l.met (subst (λ d. AllMet (item_demands role label (items_view d))) (sym here)
            (both_met (demands role label (view x)) rest m g));
        unmet = λ e g. l.unmet e (subst (λ d. IsDemandFault (item_demands role label (items_view d)) e) (sym here)
            (passes (demands role label (view x)) rest e m g));
      }

  pub no_items_left : (vs : List Value) (i : ℕ) (all : Items) → length vs ≤ i → LeftItems (items_view (drop i vs)) all
      → AllMet (item_demands role label all)
  no_items_left vs i all h l = l.met
      (subst (λ d. AllMet (item_demands role label (items_view d))) (sym (drop_all i vs h)) tt)

module _ {X : Type 0} (P : Data → X → Type 0) where
  abbrev pub FoundItems : Items → Items → List X → Type 0
  FoundItems left all found = (xs : List X) → AreItems P left xs → AreItems P all (found ++ xs)

  pub no_item_found : (ds : Items) (found : List X) → found ≡ [] → FoundItems ds ds found
  no_item_found ds found e = λ xs h. subst (λ ys. AreItems P ds (ys ++ xs)) (sym e) h

  pub item_found : (vs : List Value) (i : ℕ) (v : Value) (all : Items) (found more : List X) (x : X) → i < length vs
      → v ≡ get_or vs i v → FoundItems (items_view (drop i vs)) all found → P (view v) x → more ≡ found ++ x ∷ []
      → FoundItems (items_view (drop (i + 1) vs)) all more
  item_found vs i v all found more x h is f p e = λ xs g.
      let here : drop i vs ≡ v ∷ drop (i + 1) vs = drop_more vs i v h ∙ ap (λ y. y ∷ drop (i + 1) vs) (sym is) in
      subst (AreItems P all) (sym (append_assoc found (x ∷ []) xs) ∙ ap (λ ys. ys ++ xs) (sym e))
      (f (x ∷ xs) (subst (λ d. AreItems P (items_view d) (x ∷ xs)) (sym here)
      (next_item (view v) (items_view (drop (i + 1) vs)) x xs p g)))

  pub all_items_found : (vs : List Value) (i : ℕ) (all : Items) (found : List X) → length vs ≤ i
      → FoundItems (items_view (drop i vs)) all found → AreItems P all found
  all_items_found vs i all found h f =
      let over : drop i vs ≡ [] = drop_all i vs h in
      subst (AreItems P all) (append-nil found) (f [] (subst (λ d. AreItems P (items_view d) []) (sym over) no_item))
