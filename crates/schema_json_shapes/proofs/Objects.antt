-- Values that are objects or lists, and those that are not.
use Rattle.std.proofs.Common.{◌≡◌, ℕ, List, [], ◌++◌, Option, Some, None, Result, refl, sym, ap, ◌∙◌, subst}
use Rattle.std.proofs.Common.{append_assoc, append-nil}
use Rattle.serde_json.specs.Data.{Data, null, boolean, number, string, array, object, Items, no_items, item, Members}
use Rattle.serde_json.specs.Data.{no_members, member}
use Rattle.serde_json.specs.Find.{as_object, as_array}
use Rattle.schema_json_shapes.specs.declared.shape_fault.ShapeFault.{ShapeFault}
use Rattle.schema_json_shapes.specs.Walk.{Role, Demand, AllMet, demands, ignored, or_null, null_demands, flag_demands}
use Rattle.schema_json_shapes.specs.Walk.{number_demands, string_demands, array_demands, object_demands, without_null}
use Rattle.schema_json_shapes.specs.Walk.{wrong_type, item_demands, item_role, member_demands, key_demands, member_role}
use Rattle.schema_json_shapes.specs.Said.{not_null, IsOptional}
use Rattle.schema_json_shapes.specs.Reads.{IsDemandFault, ReadsValue, field_demands}
use Rattle.schema_json_shapes.specs.Entries.{of_object, each_entry, entry_demands}
use Rattle.schema_json_shapes.proofs.Demands.{fails}

-- a role of objects alone
pub record OnlyObjects (r : Role) (n : List ℕ) : Type 0 where
  pub on_null : null_demands r n ≡ wrong_type n
  pub on_flag : flag_demands (without_null r) n ≡ wrong_type n
  pub on_number : number_demands (without_null r) n ≡ wrong_type n
  pub on_string : (s : List ℕ) → string_demands (without_null r) n s ≡ wrong_type n
  pub on_array : array_demands (without_null r) n ≡ wrong_type n

kept : (ds es : List Demand) (e : ShapeFault) → ds ≡ es → IsDemandFault es e → IsDemandFault ds e
kept ds es e same h = subst (λ xs. IsDemandFault xs e) (sym same) h

pub no_object : (r : Role) (n : List ℕ) → OnlyObjects r n → (d : Data) (e : ShapeFault) → None ≡ as_object d
    → IsDemandFault (wrong_type n) e → IsDemandFault (demands r n d) e
no_object r n o null e h f = kept _ _ e o.on_null f
no_object r n o (boolean b) e h f = kept _ _ e o.on_flag f
no_object r n o (number x) e h f = kept _ _ e o.on_number f
no_object r n o (string s) e h f = kept _ _ e (o.on_string s) f
no_object r n o (array ds) e h f = fails _ _ e (kept _ _ e o.on_array f)
no_object r n o (object ms) e h f = absurd (cc)

pub an_object : (d : Data) (ms : Members) → Some ms ≡ as_object d → object ms ≡ d
an_object null ms e = absurd (cc)
an_object (boolean b) ms e = absurd (cc)
an_object (number x) ms e = absurd (cc)
an_object (string s) ms e = absurd (cc)
an_object (array ds) ms e = absurd (cc)
an_object (object os) ms e = cc

-- what is read of an object is read of the value
pub reads_object : {A : Type 0} (result : Result A ShapeFault) (r : Role) (n : List ℕ) (d : Data) (ms : Members)
    (P : Data → A → Type 0) → Some ms ≡ as_object d → ReadsValue result (demands r n (object ms)) (P (object ms))
    → ReadsValue result (demands r n d) (P d)
reads_object result r n d ms P e h = subst (λ x. ReadsValue result (demands r n x) (P x)) (an_object d ms e) h

-- a role of lists alone
pub record OnlyArrays (r : Role) (n : List ℕ) : Type 0 where
  pub on_null : null_demands r n ≡ wrong_type n
  pub on_flag : flag_demands (without_null r) n ≡ wrong_type n
  pub on_number : number_demands (without_null r) n ≡ wrong_type n
  pub on_string : (s : List ℕ) → string_demands (without_null r) n s ≡ wrong_type n
  pub on_object : (ms : Members) → object_demands (without_null r) n ms ≡ wrong_type n

pub no_array : (r : Role) (n : List ℕ) → OnlyArrays r n → (d : Data) (e : ShapeFault) → None ≡ as_array d
    → IsDemandFault (wrong_type n) e → IsDemandFault (demands r n d) e
no_array r n o null e h f = kept _ _ e o.on_null f
no_array r n o (boolean b) e h f = kept _ _ e o.on_flag f
no_array r n o (number x) e h f = kept _ _ e o.on_number f
no_array r n o (string s) e h f = kept _ _ e (o.on_string s) f
no_array r n o (array ds) e h f = absurd (cc)
no_array r n o (object ms) e h f = fails _ _ e (kept _ _ e (o.on_object ms) f)

pub an_array : (d : Data) (ds : Items) → Some ds ≡ as_array d → array ds ≡ d
an_array null ds e = absurd (cc)
an_array (boolean b) ds e = absurd (cc)
an_array (number x) ds e = absurd (cc)
an_array (string s) ds e = absurd (cc)
an_array (array es) ds e = cc
an_array (object ms) ds e = absurd (cc)

pub reads_array : {A : Type 0} (result : Result A ShapeFault) (r : Role) (n : List ℕ) (d : Data) (ds : Items)
    (P : Data → A → Type 0) → Some ds ≡ as_array d → ReadsValue result (demands r n (array ds)) (P (array ds))
    → ReadsValue result (demands r n d) (P d)
reads_array result r n d ds P e h = subst (λ x. ReadsValue result (demands r n x) (P x)) (an_array d ds e) h

-- null is as if nothing were there
pub given_demands : (r : Role) (n : List ℕ) (o : Option Data) → without_null (or_null r) ≡ without_null r
    → field_demands (or_null r) n o ≡ field_demands r n (not_null o)
given_demands r n None e = refl
given_demands r n (Some null) e = refl
given_demands r n (Some (boolean b)) e = ap (λ x. flag_demands x n) e
given_demands r n (Some (number x)) e = ap (λ y. number_demands y n) e
given_demands r n (Some (string s)) e = ap (λ x. string_demands x n s) e
given_demands r n (Some (array ds)) e = ap (λ x. array_demands x n ++ item_demands (item_role x) n ds) e
given_demands r n (Some (object ms)) e =
    ap (λ x. object_demands x n ms ++ member_demands (key_demands x) (member_role x ms) ms) e

module _ {X : Type 0} (r : Role) (n : List ℕ) (P : Data → X → Type 0) where
  pub given_some : (o : Option Data) (d : Data) (x : X) → without_null (or_null r) ≡ without_null r
      → Some d ≡ not_null o
      → AllMet (demands r n d) → P d x → AllMet (field_demands (or_null r) n o) × IsOptional P (not_null o) (Some x)
  given_some o d x b e m p = (
    subst AllMet (sym (given_demands r n o b)) (subst (λ q. AllMet (field_demands r n q)) e m),
    subst (λ q. IsOptional P q (Some x)) e (x, p, refl),
  )

  pub given_none : (o : Option Data) → without_null (or_null r) ≡ without_null r → None ≡ not_null o
      → AllMet (field_demands (or_null r) n o) × IsOptional P (not_null o) None
  given_none o b e = (
    subst AllMet (sym (given_demands r n o b)) (subst (λ q. AllMet (field_demands r n q)) e tt),
    subst (λ q. IsOptional P q None) e refl,
  )

pub given_fails : (r : Role) (n : List ℕ) (o : Option Data) (d : Data) (e : ShapeFault)
    → without_null (or_null r) ≡ without_null r
    → Some d ≡ not_null o → IsDemandFault (demands r n d) e → IsDemandFault (field_demands (or_null r) n o) e
given_fails r n o d e b is f =
    subst (λ ds. IsDemandFault ds e) (sym (given_demands r n o b))
    (subst (λ q. IsDemandFault (field_demands r n q) e) is f)

-- nothing is asked of what is not read
mutual
  pub nothing_asked : (n : List ℕ) (d : Data) → demands ignored n d ≡ []
  nothing_asked n null = refl
  nothing_asked n (boolean b) = refl
  nothing_asked n (number x) = refl
  nothing_asked n (string s) = refl
  nothing_asked n (array ds) = no_items_asked n ds
  nothing_asked n (object ms) = no_members_asked ms

  no_items_asked : (n : List ℕ) (ds : Items) → item_demands ignored n ds ≡ []
  no_items_asked n no_items = refl
  no_items_asked n (item d ds) = ap (λ x. x ++ item_demands ignored n ds) (nothing_asked n d) ∙ no_items_asked n ds

  pub no_members_asked : (ms : Members) → member_demands (λ k. []) (λ k. ignored) ms ≡ []
  no_members_asked no_members = refl
  no_members_asked (member k d ms) = ap (λ x. x ++ member_demands (λ l. []) (λ l. ignored) ms) (nothing_asked k d)
      ∙ no_members_asked ms

-- ---- objects whose members are read alike

-- what is asked of the members is asked of them one by one
pub each_asked : (key : List ℕ → List Demand) (role : Role) (ms : Members)
    → each_entry (λ k d. key k ++ demands role k d) ms ≡ member_demands key (λ k. role) ms
each_asked key role no_members = refl
each_asked key role (member k d ms) =
    append_assoc (key k) (demands role k d) (each_entry (λ l e. key l ++ demands role l e) ms)
    ∙ ap (λ x. key k ++ (demands role k d ++ x)) (each_asked key role ms)

-- a role of objects of such entries
pub record OfEntries (r : Role) (n : List ℕ) : Type 0 where
  pub only : OnlyObjects r n
  pub items : item_role (without_null r) ≡ ignored
  pub own : (ms : Members) → each_entry (entry_demands r) ms ≡ demands r n (object ms)

pub entries_asked : (r : Role) (n : List ℕ) → OfEntries r n → (d : Data)
    → of_object (each_entry (entry_demands r)) n d ≡ demands r n d
entries_asked r n o null = sym o.only.on_null
entries_asked r n o (boolean b) = sym o.only.on_flag
entries_asked r n o (number x) = sym o.only.on_number
entries_asked r n o (string s) = sym (o.only.on_string s)
entries_asked r n o (array ds) = sym (ap (λ x. array_demands (without_null r) n ++ item_demands x n ds) o.items
    ∙ (ap (λ x. array_demands (without_null r) n ++ x) (no_items_asked n ds)
    ∙ (append-nil (array_demands (without_null r) n) ∙ o.only.on_array)))
entries_asked r n o (object ms) = o.own ms

-- what is read of the entries is read of the value
pub reads_entries : {A : Type 0} (result : Result A ShapeFault) (r : Role) (n : List ℕ) (d : Data) (P : A → Type 0)
    → OfEntries r n → ReadsValue result (of_object (each_entry (entry_demands r)) n d) P
    → ReadsValue result (demands r n d) P
reads_entries result r n d P o h = subst (λ ds. ReadsValue result ds P) (entries_asked r n o d) h
