-- What stands in the namespaces of a fragment which says what is written of a meaning.
use Rattle.std.proofs.Common.{◌≡◌, ◌⊎◌, inl, inr, ℕ, Bool, true, false, cond, List, [], ◌∷◌, map, flat_map, Option}
use Rattle.std.proofs.Common.{Some, None, Contains, refl, sym, ap, ◌∙◌, subst, true≢false, is_some, if◌then◌else◌}
use Rattle.std.specs.BTreeMap.{is_at}
use Rattle.std.specs.Cmp.{tied_itself}
use Rattle.std.specs.Map.{lookup}
use Rattle.std.specs.Option.{option_or}
use Rattle.std.specs.Ordering.{is_eq}
use Rattle.std.specs.declared.cmp.Ordering.{Ordering}
use Rattle.std.specs.declared.cmp.Ordering.TheVariants.{Equal}
use Rattle.std.proofs.lemmas.Option.{same_Some}
use Rattle.cedar_data.specs.Text.{text_cmp}
use Rattle.cedar_data.proofs.Orders.{text_total, text_exact, equal_from}
use Rattle.cedar_identifiers.specs.declared.name.Name.{Name}
use Rattle.cedar_identifiers.specs.declared.raw_name.RawName.{RawName}
use Rattle.cedar_names.specs.CanonicalText.{namespaces}
use Rattle.cedar_names.specs.Meaning.{SchemaMeaning}
use Rattle.schema_json.specs.declared.fragment.Fragment.{Fragment}
use Rattle.schema_json.specs.declared.fragment.NamespaceDefinition.{NamespaceDefinition}
use Rattle.schema_json.specs.AsWritten.{as_written}
use Rattle.laws_written.specs.Meant.{name_or_none, groups_of_meaning}
use Rattle.laws_written.specs.PrintedDecls.{group_items}
use Rattle.laws_written.specs.Written.{WrittenDecl, WrittenDeclared, WrittenItem}
use Rattle.laws_translate.specs.Entries.{FoundSays, EntriesSay, last_written}
use Rattle.laws_translate.specs.FragmentsSay.{by_names, WrittenNamespace, NamespaceSays, NamespaceName, namespace_order}
use Rattle.laws_translate.specs.FragmentsSay.{name_components, written_in, FragmentSays}
use Rattle.laws_translate.specs.MeantNamespaces.{meant_in_namespace, IsOfMeaning}
use Rattle.laws_translate.proofs.Orders.{namespace_total, namespace_exact}
use Rattle.laws_build.proofs.Said.Members.{IsIn, in_map, map_to, in_flat, flat_to, found_there}

-- what is found says something that is written
pub found_some : {V W : Type 0} (Says : V → W → Type 0) (v : V) (o : Option W) → FoundSays Says (Some v) o
    → (w : W) × (o ≡ Some w) × Says v w
found_some Says v None h = absurd h
found_some Says v (Some w) h = (w, refl, h)

-- something is found that says what is written
pub found_value : {V W : Type 0} (Says : V → W → Type 0) (o : Option V) (w : W) → FoundSays Says o (Some w)
    → (v : V) × (o ≡ Some v)
found_value Says None w h = absurd h
found_value Says (Some v) w h = (v, refl)

pair_same : {A B : Type 0} (a c : A) (b d : B) → a ≡ c → b ≡ d
    → (let p : A × B = (a, b) in p) ≡ (let q : A × B = (c, d) in q)
pair_same a c b d e f = λ i. (e i, f i)

-- what is found beside a name stands there
pub lookup_in : {K N V : Type 0} (order : N → N → Ordering) (name : K → N) (es : List (K × V)) (n : N) (v : V)
    → lookup (λ k. is_at (order n) (name k)) es ≡ Some v
    → (k : K) × IsIn (let p : K × V = (k, v) in p) es × (order n (name k) ≡ Equal)
lookup_in order name [] n v h = absurd (true≢false (sym (ap is_some h)))
lookup_in {K} {N} {V} order name (d ∷ es) n v h =
    by (is_at (order n) (name d.0)) refl h (lookup_in order name es n v)
  where
    by : (b : Bool) → is_at (order n) (name d.0) ≡ b
        → cond b (Some d.1) (lookup (λ k. is_at (order n) (name k)) es) ≡ Some v
        → (lookup (λ k. is_at (order n) (name k)) es ≡ Some v
        → (k : K) × IsIn (let p : K × V = (k, v) in p) es × (order n (name k) ≡ Equal))
        → (k : K) × IsIn (let p : K × V = (k, v) in p) (d ∷ es) × (order n (name k) ≡ Equal)
    by true t k r =
        (d.0, inl (pair_same d.0 d.0 v d.1 refl (sym (same_Some d.1 v k))), equal_from (order n (name d.0)) t)
    by false t k r = let o = r k in (o.0, inr o.1, o.2)

-- what is written last beside a name stands beside it
last_in : {W : Type 0} (ws : List (List ℕ × W)) (n : List ℕ) (w : W) → last_written ws n ≡ Some w
    → IsIn (let p : List ℕ × W = (n, w) in p) ws
last_in [] n w h = absurd (true≢false (sym (ap is_some h)))
last_in {W} (x ∷ ws) n w h = by (last_in ws n w) (last_written ws n) refl (is_at (text_cmp n) x.0) refl h
  where
    by : (last_written ws n ≡ Some w → IsIn (let p : List ℕ × W = (n, w) in p) ws) → (o : Option W)
        → last_written ws n ≡ o → (b : Bool) → is_at (text_cmp n) x.0 ≡ b
        → option_or o (if b then Some x.1 else None) ≡ Some w
        → ((let p : List ℕ × W = (n, w) in p) ≡ x) ⊎ IsIn (let p : List ℕ × W = (n, w) in p) ws
    by r (Some v) e b t k = inr (r (e ∙ k))
    by r None e true t k = let same = text_exact n x.0 (equal_from (text_cmp n x.0) t) in let value =
        same_Some x.1 w k in inl (pair_same n x.0 w x.1 same (sym value))
    by r None e false t k = absurd (true≢false (sym (ap is_some k)))

-- where something is written beside a name, something is written there last
last_some : {W : Type 0} (ws : List (List ℕ × W)) (n : List ℕ) (w : W) → IsIn (let p : List ℕ × W = (n, w) in p) ws
    → (v : W) × (last_written ws n ≡ Some v)
last_some [] n w h = absurd h
last_some {W} (x ∷ ws) n w (inl e) = by (last_written ws n)
  where
    here : is_at (text_cmp n) x.0 ≡ true
    here = ap is_eq (ap (text_cmp n) (ap (λ (p : List ℕ × W). p.0) (sym e)) ∙ tied_itself text_total n)

    by : (o : Option W) → (v : W) × (option_or o (if is_at (text_cmp n) x.0 then Some x.1 else None) ≡ Some v)
    by (Some v) = (v, refl)
    by None = (x.1, ap (λ b. if b then Some x.1 else None) here)
last_some {W} (x ∷ ws) n w (inr k) =
    let r = last_some ws n w k in
    (r.0, ap (λ o. option_or o (if is_at (text_cmp n) x.0 then Some x.1 else None)) r.1)

module _ (names_of : WrittenDecl → List (List ℕ)) where
  -- a declaration that stands beside a name gives it
  named_by : (ds : List WrittenDeclared) (n : List ℕ) (w : WrittenDeclared)
      → IsIn (let p : List ℕ × WrittenDeclared = (n, w) in p) (by_names names_of ds)
      → IsIn w ds × IsIn n (names_of w.decl)
  named_by ds n w h =
      let o = in_flat
      (λ (d : WrittenDeclared). map (λ name. let p : List ℕ × WrittenDeclared = (name, d) in p)
      (names_of d.decl)) ds (n, w) h in
      let i = in_map (λ name. let p : List ℕ × WrittenDeclared = (name, o.0) in p) (names_of o.0.decl)
      (n, w) o.2 in
      let same : w ≡ o.0 = ap (λ (p : List ℕ × WrittenDeclared). p.1) i.2 in
      let name : n ≡ i.0 = ap (λ (p : List ℕ × WrittenDeclared). p.0) i.2 in (
        subst (λ d. IsIn d ds) (sym same) o.1,
        subst (λ d. IsIn n (names_of d.decl)) (sym same)
            (subst (λ k. IsIn k (names_of o.0.decl)) (sym name) i.1),
      )

  -- a declaration stands beside each name that it gives
  beside_name : (ds : List WrittenDeclared) (n : List ℕ) (w : WrittenDeclared) → IsIn w ds → IsIn n (names_of w.decl)
      → IsIn (let p : List ℕ × WrittenDeclared = (n, w) in p) (by_names names_of ds)
  beside_name ds n w h k =
      flat_to (λ (d : WrittenDeclared). map (λ name. let p : List ℕ × WrittenDeclared = (name, d) in p)
      (names_of d.decl)) ds w (n, w) h
      (map_to (λ name. let p : List ℕ × WrittenDeclared = (name, w) in p) (names_of w.decl) n k)

-- the entries of a map that says what is written by name
module _ {K V : Type 0} (name : K → List ℕ) (Says : V → WrittenDeclared → Type 0)
    (names_of : WrittenDecl → List (List ℕ)) (es : List (K × V)) (ds : List WrittenDeclared)
    (says : EntriesSay text_cmp name Says es (last_written (by_names names_of ds))) where
  -- each says a declaration that gives its name
  pub entry_says : (e : K × V) → IsIn e es
      → (w : WrittenDeclared) × IsIn w ds × IsIn (name e.0) (names_of w.decl) × Says e.1 w
  entry_says e h =
      let there = found_there text_cmp text_total name es e says.rising h in
      let written = last_written (by_names names_of ds) (name e.0) in
      let v = found_some Says e.1 written (subst (λ o. FoundSays Says o written) there (says.each (name e.0))) in
      let given = named_by names_of ds (name e.0) v.0 (last_in (by_names names_of ds) (name e.0) v.0 v.1) in
      (v.0, given.0, given.1, v.2)

  -- each name that a declaration gives has an entry
  pub entry_there : (w : WrittenDeclared) (n : List ℕ) → IsIn w ds → IsIn n (names_of w.decl)
      → (e : K × V) × IsIn e es × (name e.0 ≡ n)
  entry_there w n h k =
      let last = last_some (by_names names_of ds) n w (beside_name names_of ds n w h k) in
      let found = found_value Says (lookup (λ x. is_at (text_cmp n) (name x)) es) last.0
      (subst (λ o. FoundSays Says (lookup (λ x. is_at (text_cmp n) (name x)) es) o) last.1 (says.each n)) in
      let at = lookup_in text_cmp name es n found.0 found.1 in
      ((at.0, found.0), at.1, sym (text_exact n (name at.0) at.2))

abbrev pub Block : Type 0
Block = Option Name × NamespaceDefinition RawName as_written

-- the block of a namespace of the meaning
pub record IsBlockOf (m : SchemaMeaning) (e : Block) : Type 0 where
  pub name : List (List ℕ)
  pub among : Contains (namespaces m) name
  pub named : name_or_none name ≡ name_components e.0
  pub says : NamespaceSays e.1 (meant_in_namespace m name)

abbrev written : SchemaMeaning → List WrittenItem
written m = flat_map group_items (groups_of_meaning m)

module _ (m : SchemaMeaning)
    (written_of : (q : NamespaceName) (w : WrittenNamespace)
    → written_in (flat_map group_items (groups_of_meaning m)) q ≡ Some w → IsOfMeaning m q w)
    (g : Fragment RawName as_written)
    (says : FragmentSays g (flat_map group_items (groups_of_meaning m))) where
  pub block_of : (e : Block) → IsIn e g.0 → IsBlockOf m e
  block_of e h =
      let q = name_components e.0 in
      let there = found_there namespace_order namespace_total name_components g.0 e says.rising h in
      let w = found_some NamespaceSays e.1 (written_in (written m) q)
      (subst (λ o. FoundSays NamespaceSays o (written_in (written m) q)) there (says.each q)) in
      let of = written_of q w.0 w.1 in
      record { name = of.name; among = of.among; named = of.named; says = subst (NamespaceSays e.1) of.is w.2 }

  pub block_there : (q : List (List ℕ))
      → written_in (flat_map group_items (groups_of_meaning m)) (name_or_none q) ≡ Some (meant_in_namespace m q)
      → (e : Block) × IsIn e g.0 × (name_or_none q ≡ name_components e.0)
  block_there q is =
      let n = name_or_none q in
      let found = found_value NamespaceSays (lookup (λ x. is_at (namespace_order n) (name_components x)) g.0)
      (meant_in_namespace m q)
      (subst (λ o. FoundSays NamespaceSays (lookup (λ x. is_at (namespace_order n) (name_components x)) g.0) o) is
      (says.each n)) in
      let at = lookup_in namespace_order name_components g.0 n found.0 found.1 in
      ((at.0, found.0), at.1, namespace_exact n (name_components at.0) at.2)
