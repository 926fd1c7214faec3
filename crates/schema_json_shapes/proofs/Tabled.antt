-- The members of an object that fits its table.
use Rattle.std.proofs.Common.{◌≡◌, ℕ, Bool, true, false, not, cond, List, [], ◌∷◌, Option, Some, None, inl, inr, refl}
use Rattle.std.proofs.Common.{sym, ap, ◌∙◌, subst, true≢false}
use Rattle.std.specs.Prelude.{◌⊎◌, ◌||◌, option_map, is_some}
use Rattle.std.specs.List.{list_any, list_all}
use Rattle.std.specs.Ordering.{nat_cmp, match_ordering}
use Rattle.std.specs.Cmp.Lexicographic.{slice_cmp}
use Rattle.std.specs.Str.{bytes_eq, chars}
use Rattle.std.specs.declared.cmp.Ordering.{Ordering}
use Rattle.std.specs.declared.cmp.Ordering.TheVariants.{Less, Equal, Greater}
use Rattle.std.proofs.lemmas.Slice.Eq.{bytes_eq-Decides}
use Rattle.std.proofs.lemmas.Map.Text.{is_eq-slice_cmp}
use Rattle.std.proofs.lemmas.Bool.{and_parts}
use Rattle.std.proofs.Common.{is_eq}
use Rattle.serde_json.specs.Data.{Data, Members, no_members, member}
use Rattle.serde_json.specs.Find.{get_member}
use Rattle.schema_json_shapes.specs.declared.shape_fault.ShapeFault.TheVariants.{UnknownField, MissingField}
use Rattle.schema_json_shapes.specs.Tables.{Field, needs, is_field, first_unknown, first_missing, is_missing}
use Rattle.schema_json_shapes.specs.Walk.{Role, AllMet, fits_table, member_demands, is_there}
use Rattle.schema_json_shapes.proofs.Order.{Rises, Among, NamesRise, Listed, no_key, fields_demands, in_order}

abbrev pub among : List (List ℕ) → List Field → Bool
among names fs = list_all (λ f. list_any (bytes_eq f.name) names) fs

found_at : (k n : List ℕ) (ns : List (List ℕ)) (b : Bool) → bytes_eq k n ≡ b
    → (list_any (bytes_eq k) ns ≡ true → Among k ns) → (b || list_any (bytes_eq k) ns) ≡ true → Among k (n ∷ ns)
found_at k n ns true e rest h = inl ((bytes_eq-Decides k n).0 e)
found_at k n ns false e rest h = inr (rest h)

found : (k : List ℕ) (ns : List (List ℕ)) → list_any (bytes_eq k) ns ≡ true → Among k ns
found k [] e = absurd (cc)
found k (n ∷ ns) e = found_at k n ns (bytes_eq k n) refl (found k ns) e

module _ (ns : List (List ℕ)) where
  of_table_at : (f : Field) (fs : List Field) (k : List ℕ) (b : Bool) → bytes_eq f.name k ≡ b
      → (among ns fs ≡ true → is_field fs k ≡ true → Among k ns) → among ns (f ∷ fs) ≡ true
      → (b || is_field fs k) ≡ true → Among k ns
  of_table_at f fs k true e rest h g =
      subst (λ x. Among x ns) ((bytes_eq-Decides f.name k).0 e) (found f.name ns (and_parts _ _ h).0)
  of_table_at f fs k false e rest h g = rest (and_parts _ _ h).1 g

  of_table : (fs : List Field) (k : List ℕ) → among ns fs ≡ true → is_field fs k ≡ true → Among k ns
  of_table [] k h e = absurd (cc)
  of_table (f ∷ fs) k h e = of_table_at f fs k (bytes_eq f.name k) refl (of_table fs k) h e

  known_at : (fs : List Field) (k : List ℕ) (d : Data) (ms : Members) (b : Bool) → is_field fs k ≡ b
      → among ns fs ≡ true → (first_unknown fs ms ≡ None → Listed ns ms)
      → cond b (first_unknown fs ms) (Some k) ≡ None → Listed ns (member k d ms)
  known_at fs k d ms true e h rest g = (of_table fs k h e, rest g)
  known_at fs k d ms false e h rest g = absurd (cc)

  pub known : (fs : List Field) (ms : Members) → among ns fs ≡ true → first_unknown fs ms ≡ None → Listed ns ms
  known fs no_members h e = tt
  known fs (member k d ms) h e = known_at fs k d ms (is_field fs k) refl h (known fs ms h) e

pub nothing_mapped : {A B : Type 0} (f : A → B) (o : Option A) → option_map f o ≡ None → o ≡ None
nothing_mapped f None e = refl
nothing_mapped f (Some k) e = absurd (cc)

pub no_unknown : (fs : List Field) (ms : Members) → AllMet (fits_table fs ms) → first_unknown fs ms ≡ None
no_unknown fs ms h = nothing_mapped (λ k. UnknownField (chars k)) _ h.0

pub none_missing : (fs : List Field) (ms : Members) → AllMet (fits_table fs ms) → first_missing fs ms ≡ None
none_missing fs ms h = nothing_mapped (λ k. MissingField (chars k)) _ h.1.0

-- an object that fits its table has the demands of its fields, name by name
pub tabled : (role : List ℕ → Role) (ns : List (List ℕ)) (fs : List Field) (ms : Members) → NamesRise ns
    → among ns fs ≡ true → Rises ms → AllMet (fits_table fs ms)
    → member_demands no_key role ms ≡ fields_demands role ns ms
tabled role ns fs ms rise all rises h = in_order role ns ms rise rises (known ns fs ms all (no_unknown fs ms h))

-- ---- a field that is needed is there, and one that is unknown is not

there_at : (o : Option Data) → not (is_some o) ≡ false → is_there o ≡ true
there_at None e = absurd (cc)
there_at (Some d) e = refl

abbrev pub Needs : List ℕ → List Field → Type 0
Needs n [] = ⊥
Needs n (f ∷ fs) = (f ≡ needs n) ⊎ Needs n fs

first_there : (b : Bool) (n : List ℕ) (rest : Option (List ℕ)) → cond b (Some n) rest ≡ None
    → (b ≡ false) × (rest ≡ None)
first_there true n rest e = absurd (cc)
first_there false n rest e = (refl, e)

pub needed_there : (n : List ℕ) (fs : List Field) (ms : Members) → Needs n fs → first_missing fs ms ≡ None
    → is_there (get_member n ms) ≡ true
needed_there n [] ms h e = absurd h
needed_there n (f ∷ fs) ms (inl is) e =
    there_at (get_member n ms) (subst (λ g. is_missing g ms ≡ false) is
    (first_there (is_missing f ms) f.name (first_missing fs ms) e).0)
needed_there n (f ∷ fs) ms (inr h) e =
    needed_there n fs ms h (first_there (is_missing f ms) f.name (first_missing fs ms) e).1

unknown_here : (o : Ordering) (b : Bool) (d : Data) (k : List ℕ) (p : Option Data) (rest : Option (List ℕ))
    → (is_eq o ≡ true → b ≡ false) → cond b rest (Some k) ≡ None → p ≡ None → match_ordering o p (Some d) p ≡ None
unknown_here Less b d k p rest f e h = h
unknown_here Equal true d k p rest f e h = absurd (true≢false (f refl))
unknown_here Equal false d k p rest f e h = absurd (cc)
unknown_here Greater b d k p rest f e h = h

rest_known : (b : Bool) (k : List ℕ) (rest : Option (List ℕ)) → cond b rest (Some k) ≡ None → rest ≡ None
rest_known true k rest e = e
rest_known false k rest e = absurd (cc)

pub unknown_absent : (n : List ℕ) (fs : List Field) (ms : Members) → is_field fs n ≡ false
    → first_unknown fs ms ≡ None → get_member n ms ≡ None
unknown_absent n fs no_members h e = refl
unknown_absent n fs (member k d ms) h e =
    unknown_here (slice_cmp nat_cmp n k) (is_field fs k) d k (get_member n ms) (first_unknown fs ms)
    (λ q. ap (is_field fs) (sym ((bytes_eq-Decides n k).0 (sym (is_eq-slice_cmp n k) ∙ q))) ∙ h) e
    (unknown_absent n fs ms h (rest_known (is_field fs k) k (first_unknown fs ms) e))
