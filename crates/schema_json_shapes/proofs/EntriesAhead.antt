-- The entries of an object, read one after another.
use Rattle.std.proofs.Common.{◌≡◌, ℕ, List, [], ◌∷◌, ◌++◌, String, Global, string_bytes, sym, ap, ◌∙◌, subst}
use Rattle.std.proofs.Common.{append_assoc, append-nil}
use Rattle.serde_json.specs.Data.{Data, Members, member}
use Rattle.serde_json.specs.View.{view, members_view}
use Rattle.serde_json.proofs.Views.{Entry}
use Rattle.serde_json.specs.declared.value.Value.{Value}
use Rattle.schema_json_shapes.specs.declared.shape_fault.ShapeFault.{ShapeFault}
use Rattle.schema_json_shapes.specs.Walk.{Demand, AllMet}
use Rattle.schema_json_shapes.specs.Said.{AreEntries, no_entry, next_entry}
use Rattle.schema_json_shapes.specs.Reads.{IsDemandFault}
use Rattle.schema_json_shapes.proofs.Demands.{both_met, fails, passes}
use Rattle.schema_json_shapes.specs.Entries.{each_entry}

module _ {K V : Type 0} (part : List ℕ → Data → List Demand) (Key : List ℕ → K → Type 0)
    (Says : Data → V → Type 0) where
  -- what was found so far, before what is left of the entries
  pub record EntriesAhead (left all : Members) (found : List (K × V)) : Type 0 where
    pub met : AllMet (each_entry part left) → AllMet (each_entry part all)
    pub unmet : (e : ShapeFault) → IsDemandFault (each_entry part left) e → IsDemandFault (each_entry part all) e
    pub says : (es : List (K × V)) → AreEntries Key Says left es → AreEntries Key Says all (found ++ es)

  pub none_yet : (ls fs : List Entry) (found : List (K × V)) → ls ≡ fs → found ≡ []
      → EntriesAhead (members_view ls) (members_view fs) found
  none_yet ls fs found same e =
      subst (λ xs. EntriesAhead (members_view ls) (members_view xs) found) same
      (record {
        met = λ h. h;
        unmet = λ e h. h;
        says = λ es h. subst (λ ys. AreEntries Key Says (members_view ls) (ys ++ es)) (sym e) h;
      })

  step : (k : List ℕ) (d : Data) (left all : Members) (found more : List (K × V)) (x : K × V)
      → EntriesAhead (member k d left) all found → AllMet (part k d) → Key k x.0 × Says d x.1
      → more ≡ found ++ x ∷ [] → EntriesAhead left all more
  step k d left all found more x a m h e = record {
    met = λ g. a.met (both_met (part k d) (each_entry part left) m g);
    unmet = λ f g. a.unmet f (passes (part k d) (each_entry part left) f m g);
    says = λ es g. subst (AreEntries Key Says all) (sym (append_assoc found (x ∷ []) es) ∙ ap (λ ys. ys ++ es) (sym e))
        (a.says (x ∷ es) (next_entry k d left x.0 x.1 es h.0 h.1 g));
  }

  -- the next entry is read
  pub one_more : (es : List Entry) (key : String Global) (v : Value) (left : List Entry) (all : Members) (n : List ℕ)
      (found more : List (K × V)) (x : K × V) → EntriesAhead (members_view es) all found → es ≡ (key, v) ∷ left
      → n ≡ string_bytes key → AllMet (part n (view v)) × (Key n x.0 × Says (view v) x.1) → more ≡ found ++ x ∷ []
      → EntriesAhead (members_view left) all more
  one_more es key v left all n found more x a steps is h e =
      let said = subst (λ m. AllMet (part m (view v)) × (Key m x.0 × Says (view v) x.1)) is h in
      step (string_bytes key) (view v) (members_view left) all found more x
      (subst (λ xs. EntriesAhead (members_view xs) all found) steps a) said.0 said.1 e

  -- the next entry has a fault
  pub next_fails : (es : List Entry) (key : String Global) (v : Value) (left : List Entry) (all : Members) (n : List ℕ)
      (found : List (K × V)) (e : ShapeFault) → EntriesAhead (members_view es) all found → es ≡ (key, v) ∷ left
      → n ≡ string_bytes key → IsDemandFault (part n (view v)) e → IsDemandFault (each_entry part all) e
  next_fails es key v left all n found e a steps is h =
      let here = subst (λ xs. EntriesAhead (members_view xs) all found) steps a in
      here.unmet e (fails (part (string_bytes key) (view v)) (each_entry part (members_view left)) e
      (subst (λ m. IsDemandFault (part m (view v)) e) is h))

  pub all_read : (es : List Entry) (all : Members) (found : List (K × V)) → EntriesAhead (members_view es) all found
      → es ≡ [] → AllMet (each_entry part all) × AreEntries Key Says all found
  all_read es all found a e =
      let here = subst (λ xs. EntriesAhead (members_view xs) all found) e a in
      (here.met tt, subst (AreEntries Key Says all) (append-nil found) (here.says [] no_entry))
