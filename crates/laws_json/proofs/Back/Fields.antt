-- Objects that are made of fields, each of which may be absent: what is found in them, and what they must keep.
use Rattle.std.proofs.Common.{◌≡◌, ℕ, Bool, true, false, not, cond, List, [], ◌∷◌, ◌++◌, Option, Some, None, refl, sym}
use Rattle.std.proofs.Common.{ap, ◌∙◌, subst, is_eq}
use Rattle.std.specs.Prelude.{◌&&◌, is_some, ⊤, option_map}
use Rattle.std.specs.Ordering.{match_ordering, nat_cmp}
use Rattle.std.specs.Cmp.Lexicographic.{slice_cmp}
use Rattle.std.specs.Str.{chars}
use Rattle.std.specs.declared.cmp.Ordering.{Ordering}
use Rattle.std.specs.declared.cmp.Ordering.TheVariants.{Less, Equal, Greater}
use Rattle.std.proofs.lemmas.Cmp.{nat_list_cmp_total, tied_itself}
use Rattle.std.proofs.lemmas.Map.Text.{is_eq-slice_cmp}
use Rattle.std.proofs.lemmas.Slice.Eq.{bytes_eq-Decides}
use Rattle.serde_json.specs.Data.{Data, Members, no_members, member, put}
use Rattle.serde_json.specs.Find.{get_member}
use Rattle.serde_json.proofs.Views.{get_member-put, get_member-put_other}
use Rattle.std.specs.Prelude.{codes}
use Rattle.schema_json_values.specs.FragmentValues.{with_optional_value}
use Rattle.schema_json_shapes.specs.Tables.{Field, is_field, first_unknown, first_missing}
use Rattle.schema_json_shapes.specs.Walk.{Role, Demand, AllMet, demands, member_demands, fits_table, or_next}
use Rattle.schema_json_shapes.specs.Walk.{present, flag_or, conflict, external_conflict, enum_conflict, is_there}
use Rattle.schema_json_shapes.specs.Walk.{not_enum}
use Rattle.schema_json_shapes.specs.Reads.{field_demands}
use Rattle.schema_json_shapes.specs.declared.shape_fault.ShapeFault.{ShapeFault}
use Rattle.schema_json_shapes.specs.declared.shape_fault.ShapeFault.TheVariants.{ExternalConflict, EnumConflict}
use Rattle.schema_json_shapes.specs.declared.shape_fault.ShapeFault.TheVariants.{UnknownField, MissingField}
use Rattle.schema_json_shapes.proofs.Demands.{both_met, first_met, second_met}

-- fields, the last that was put first
abbrev pub Fields : Type 0
Fields = List (List ℕ × Option Data)

abbrev pub made : Fields → Members
made [] = no_members
made (f ∷ fs) = with_optional_value f.0 f.1 (made fs)

-- ---- what is found

less_equal : Less ≡ Equal → ⊥
less_equal e = cc

greater_equal : Greater ≡ Equal → ⊥
greater_equal e = cc

same_key : (q k : List ℕ) → q ≡ k → slice_cmp nat_cmp q k ≡ Equal
same_key q k e = ap (slice_cmp nat_cmp q) (sym e) ∙ tied_itself nat_list_cmp_total q

pub key_same : (q k : List ℕ) → slice_cmp nat_cmp q k ≡ Equal → q ≡ k
key_same q k e = (bytes_eq-Decides q k).0 (sym (is_eq-slice_cmp q k) ∙ ap is_eq e)

get_put_at : (o : Ordering) (q k : List ℕ) (d : Data) (ms : Members) → slice_cmp nat_cmp q k ≡ o
    → get_member q (put k d ms) ≡ match_ordering o (get_member q ms) (Some d) (get_member q ms)
get_put_at Less q k d ms e = get_member-put_other q k d ms (λ s. less_equal (sym e ∙ same_key q k s))
get_put_at Equal q k d ms e =
    ap (λ x. get_member q (put x d ms)) (sym (key_same q k e)) ∙ get_member-put q d ms
get_put_at Greater q k d ms e = get_member-put_other q k d ms (λ s. greater_equal (sym e ∙ same_key q k s))

get_put : (q k : List ℕ) (d : Data) (ms : Members)
    → get_member q (put k d ms)
    ≡ match_ordering (slice_cmp nat_cmp q k) (get_member q ms) (Some d) (get_member q ms)
get_put q k d ms = get_put_at (slice_cmp nat_cmp q k) q k d ms refl

abbrev pub found : List ℕ → Fields → Option Data
found q [] = None
found q (f ∷ fs) = match_ordering (slice_cmp nat_cmp q f.0) (found q fs) (or_next f.1 (found q fs)) (found q fs)

same_all : {X : Type 0} (o : Ordering) (x : X) → x ≡ match_ordering o x x x
same_all Less x = refl
same_all Equal x = refl
same_all Greater x = refl

pub get_made : (q : List ℕ) (fs : Fields) → get_member q (made fs) ≡ found q fs
get_made q [] = refl
get_made q ((k, None) ∷ fs) = get_made q fs ∙ same_all (slice_cmp nat_cmp q k) (found q fs)
get_made q ((k, Some d) ∷ fs) =
    get_put q k d (made fs)
    ∙ ap (λ o. match_ordering (slice_cmp nat_cmp q k) o (Some d) o) (get_made q fs)

-- ---- the table of an object

abbrev pub Known : List Field → Fields → Type 0
Known ts [] = ⊤
Known ts ((k, None) ∷ fs) = Known ts fs
Known ts ((k, Some d) ∷ fs) = (is_field ts k ≡ true) × Known ts fs

known_after : (ts : List Field) (b : Bool) (l : List ℕ) (old new : Option (List ℕ)) → cond b old (Some l) ≡ None
    → (old ≡ None → new ≡ None) → cond b new (Some l) ≡ None
known_after ts true l old new e f = f e
known_after ts false l old new e f = absurd (cc)

put_known_at : (o : Ordering) (ts : List Field) (k l : List ℕ) (d f : Data) (ms : Members) → is_field ts k ≡ true
    → first_unknown ts (member l f ms) ≡ None
    → (first_unknown ts ms ≡ None → first_unknown ts (put k d ms) ≡ None)
    → first_unknown ts (match_ordering o (member k d (member l f ms)) (member l d ms) (member l f (put k d ms))) ≡ None
put_known_at Less ts k l d f ms h e later =
    ap (λ b. cond b (first_unknown ts (member l f ms)) (Some k)) h ∙ e
put_known_at Equal ts k l d f ms h e later = e
put_known_at Greater ts k l d f ms h e later =
    known_after ts (is_field ts l) l (first_unknown ts ms) (first_unknown ts (put k d ms)) e later

put_known : (ts : List Field) (k : List ℕ) (d : Data) (ms : Members) → is_field ts k ≡ true
    → first_unknown ts ms ≡ None → first_unknown ts (put k d ms) ≡ None
put_known ts k d no_members h e = ap (λ b. cond b None (Some k)) h
put_known ts k d (member l f ms) h e =
    put_known_at (slice_cmp nat_cmp k l) ts k l d f ms h e (λ r. put_known ts k d ms h r)

known_made : (ts : List Field) (fs : Fields) → Known ts fs → first_unknown ts (made fs) ≡ None
known_made ts [] h = refl
known_made ts ((k, None) ∷ fs) h = known_made ts fs h
known_made ts ((k, Some d) ∷ fs) h = put_known ts k d (made fs) h.0 (known_made ts fs h.1)

abbrev pub complete : List Field → Fields → Bool
complete [] fs = true
complete (t ∷ ts) fs = not (t.needed && not (is_some (found t.name fs))) && complete ts fs

missing_at : (b : Bool) (n : List ℕ) (rest : Option (List ℕ)) (others : Bool) → (not b && others) ≡ true
    → (others ≡ true → rest ≡ None) → cond b (Some n) rest ≡ None
missing_at true n rest others h f = absurd (cc)
missing_at false n rest others h f = f h

complete_made : (ts : List Field) (fs : Fields) → complete ts fs ≡ true → first_missing ts (made fs) ≡ None
complete_made [] fs h = refl
complete_made (t ∷ ts) fs h =
    ap (λ o. cond (t.needed && not (is_some o)) (Some t.name) (first_missing ts (made fs))) (get_made t.name fs)
    ∙ missing_at (t.needed && not (is_some (found t.name fs))) t.name (first_missing ts (made fs)) (complete ts fs) h
    (complete_made ts fs)

pub fits : (ts : List Field) (fs : Fields) → Known ts fs → complete ts fs ≡ true → AllMet (fits_table ts (made fs))
fits ts fs k h = (
  ap (option_map (λ n. UnknownField (chars n))) (known_made ts fs k),
  (ap (option_map (λ n. MissingField (chars n))) (complete_made ts fs h), tt),
)

-- ---- what the members must keep

module _ (key : List ℕ → List Demand) (role : List ℕ → Role) where
  abbrev MemberMet : List ℕ → Data → Type 0
  MemberMet k d = AllMet (key k) × AllMet (demands (role k) k d)

  abbrev Met : Members → Type 0
  Met ms = AllMet (member_demands key role ms)

  joined : (k : List ℕ) (d : Data) (ms : Members) → MemberMet k d → Met ms → Met (member k d ms)
  joined k d ms h m =
      both_met (key k) (demands (role k) k d ++ member_demands key role ms) h.0
      (both_met (demands (role k) k d) (member_demands key role ms) h.1 m)

  first_part : (k : List ℕ) (d : Data) (ms : Members) → Met (member k d ms) → MemberMet k d
  first_part k d ms m =
      let rest = demands (role k) k d ++ member_demands key role ms in (
        first_met (key k) rest m,
        first_met (demands (role k) k d) (member_demands key role ms) (second_met (key k) rest m),
      )

  rest_part : (k : List ℕ) (d : Data) (ms : Members) → Met (member k d ms) → Met ms
  rest_part k d ms m =
      second_met (demands (role k) k d) (member_demands key role ms)
      (second_met (key k) (demands (role k) k d ++ member_demands key role ms) m)

  put_met_at : (o : Ordering) (k l : List ℕ) (d f : Data) (ms : Members) → slice_cmp nat_cmp k l ≡ o → MemberMet k d
      → Met (member l f ms) → Met (put k d ms)
      → Met (match_ordering o (member k d (member l f ms)) (member l d ms) (member l f (put k d ms)))
  put_met_at Less k l d f ms e h m later = joined k d (member l f ms) h m
  put_met_at Equal k l d f ms e h m later =
      joined l d ms (subst (λ x. MemberMet x d) (key_same k l e) h) (rest_part l f ms m)
  put_met_at Greater k l d f ms e h m later = joined l f (put k d ms) (first_part l f ms m) later

  pub put_met : (k : List ℕ) (d : Data) (ms : Members) → MemberMet k d → Met ms → Met (put k d ms)
  put_met k d no_members h m = joined k d no_members h tt
  put_met k d (member l f ms) h m =
      put_met_at (slice_cmp nat_cmp k l) k l d f ms refl h m (put_met k d ms h (rest_part l f ms m))

  abbrev pub AllFit : Fields → Type 0
  AllFit [] = ⊤
  AllFit ((k, None) ∷ fs) = AllFit fs
  AllFit ((k, Some d) ∷ fs) = (AllMet (key k) × AllMet (demands (role k) k d)) × AllFit fs

  pub made_met : (fs : Fields) → AllFit fs → AllMet (member_demands key role (made fs))
  made_met [] h = tt
  made_met ((k, None) ∷ fs) h = made_met fs h
  made_met ((k, Some d) ∷ fs) h = put_met k d (made fs) h.0 (made_met fs h.1)

  pub fit_field : (k : List ℕ) (o : Option Data) (fs : Fields) → AllMet (key k) → AllMet (field_demands (role k) k o)
      → AllFit fs → AllFit ((k, o) ∷ fs)
  fit_field k None fs h m rest = rest
  fit_field k (Some d) fs h m rest = ((h, m), rest)

pub known_field : (ts : List Field) (k : List ℕ) (o : Option Data) (fs : Fields) → is_field ts k ≡ true → Known ts fs
    → Known ts ((k, o) ∷ fs)
known_field ts k None fs h rest = rest
known_field ts k (Some d) fs h rest = (h, rest)

-- ---- what may not stand beside `external: true`

abbrev pub present_in : (Option Data → Bool) → List (List ℕ) → Fields → List (List ℕ)
present_in test [] fs = []
present_in test (n ∷ ns) fs = cond (test (found n fs)) (n ∷ present_in test ns fs) (present_in test ns fs)

present_made : (test : Option Data → Bool) (ns : List (List ℕ)) (fs : Fields)
    → present test ns (made fs) ≡ present_in test ns fs
present_made test [] fs = refl
present_made test (n ∷ ns) fs =
    ap (λ o. cond (test o) (n ∷ present test ns (made fs)) (present test ns (made fs))) (get_made n fs)
    ∙ ap (λ l. cond (test (found n fs)) (n ∷ l) l) (present_made test ns fs)

abbrev pub external_in : (Option Data → Bool) → List (List ℕ) → Fields → Option ShapeFault
external_in test ns fs =
    cond (flag_or false (found (codes "external") fs)) (conflict ExternalConflict (present_in test ns fs)) None

pub external_made : (test : Option Data → Bool) (ns : List (List ℕ)) (fs : Fields)
    → external_conflict test ns (made fs) (get_member (codes "external") (made fs)) ≡ external_in test ns fs
external_made test ns fs =
    ap (λ o. cond (flag_or false o) (conflict ExternalConflict (present test ns (made fs))) None)
    (get_made (codes "external") fs)
    ∙ ap (λ l. cond (flag_or false (found (codes "external") fs)) (conflict ExternalConflict l) None)
    (present_made test ns fs)

pub enum_made : (fs : Fields)
    → enum_conflict (made fs) (get_member (codes "enum") (made fs))
    ≡ cond (is_there (found (codes "enum") fs)) (conflict EnumConflict (present_in is_there not_enum fs)) None
enum_made fs =
    ap (λ o. cond (is_there o) (conflict EnumConflict (present is_there not_enum (made fs))) None)
    (get_made (codes "enum") fs)
    ∙ ap (λ l. cond (is_there (found (codes "enum") fs)) (conflict EnumConflict l) None)
    (present_made is_there not_enum fs)
