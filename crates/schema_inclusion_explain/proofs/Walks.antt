-- Walks along the members of a set, the entries of a record and tags.
use denote.Param.Weighed.{most}
use Rattle.std.proofs.Common.{◌≡◌, ℕ, ℤ, zero, suc, ◌+◌, ◌<◌, ◌≤◌, Bool, true, false, List, [], ◌∷◌, length, drop}
use Rattle.std.proofs.Common.{get_or}
use Rattle.std.proofs.Common.{Option, Some, None, refl, sym, ap, ◌∙◌, arith}
use Rattle.std.specs.Option.{option_map}
use Rattle.std.specs.Ordering.{match_ordering}
use Rattle.std.specs.declared.cmp.Ordering.{Ordering}
use Rattle.cedar_data.specs.Text.{text_cmp}
use Rattle.cedar_names.specs.Meaning.{Attributes}
use Rattle.schema_build_types.specs.declared.types.Type.{«Type»}
use Rattle.schema_build_text.proofs.Rowed.{dropped}
use Rattle.schema_inclusion_types.specs.Kinds.{plain, plain_attrs, Attrs}
use Rattle.schema_inclusion_values.specs.Lost.{or_else}
use Rattle.schema_inclusion_values.specs.Seen.{value_of, layer_value, entries_value}
use Rattle.schema_inclusion_values.specs.Values.{Text, Name, Val}
use Rattle.schema_inclusion_values.specs.Values as values
use Rattle.schema_inclusion_values.specs.declared.val.Val.{Val as Held, Val-F, fold-roll-Val}
use Rattle.schema_inclusion_values.specs.declared.val.Val.TheVariants as held
use Rattle.schema_inclusion_shown.specs.Members.{members_value}
use Rattle.schema_inclusion_reasons.specs.Places.{attr, member}
use Rattle.schema_inclusion_reasons.specs.Misfits.{is_unknown}
use Rattle.schema_inclusion_reasons.specs.FirstMisfit.{Found, Named, behind_step, behind_name, with_name}
use Rattle.schema_inclusion_reasons.specs.FirstMisfit.{members_misfit}
use Rattle.schema_inclusion_reasons.specs.FirstMisfit.{rises, rises_behind, required_or, misfit}
use Rattle.schema_inclusion_reasons.specs.FirstMisfit.{named_misfit, each_misfit}
use Rattle.schema_inclusion_explain.specs.Walks.{with_attribute, Goes, Fits}
use Rattle.schema_inclusion_explain.specs.declared.places.Found as found

-- ---- what values in memory stand for

pub truth_stands : (b : Bool) → value_of (held.Bool b) ≡ values.Truth b
truth_stands b = ap value_of (sym (held.rolls-Bool b)) ∙ fold-roll-Val Val layer_value (Val-F.Bool b)

pub number_stands : (n : ℤ) → value_of (held.Long n) ≡ values.Number n
number_stands n = ap value_of (sym (held.rolls-Long n)) ∙ fold-roll-Val Val layer_value (Val-F.Long n)

pub text_stands : (s : Text) → value_of (held.Str s) ≡ values.Str s
text_stands s = ap value_of (sym (held.rolls-Str s)) ∙ fold-roll-Val Val layer_value (Val-F.Str s)

pub set_stands : (members : List Held) → value_of (held.Set members) ≡ values.Set (members_value members)
set_stands members = ap value_of (sym (held.rolls-Set members)) ∙ fold-roll-Val Val layer_value (Val-F.Set members)

pub record_stands : (attributes : List (Text × Held)) → value_of (held.Rec attributes)
    ≡ values.Rec (entries_value attributes)
record_stands attributes = ap value_of (sym (held.rolls-Rec attributes))
    ∙ fold-roll-Val Val layer_value (Val-F.Rec attributes)

-- ---- one item, and those behind it

pub member_step : (f : Val → Option Found) (ms : List Held) (i at : ℕ) (d : Held) (o : Option Found) → i < length ms
    → d ≡ get_or ms i d → f (value_of d) ≡ o
    → members_misfit f at (members_value (drop i ms))
    ≡ or_else (option_map (λ g. behind_step (member at) g) o)
    (members_misfit f (at + 1) (members_value (drop (i + 1) ms)))
member_step f ms i at d o h e q = ap (λ l. members_misfit f at (members_value l)) (dropped ms i d h e)
    ∙ ap (λ x. or_else (option_map (λ g. behind_step (member at) g) x)
    (members_misfit f (at + 1) (members_value (drop (i + 1) ms)))) q

pub tag_step : (f : Val → Option Found) (ts : List (Text × Held)) (i : ℕ) (d : Text × Held) (o : Option Found)
    → i < length ts → d ≡ get_or ts i d → f (value_of d.1) ≡ o
    → each_misfit f (entries_value (drop i ts))
    ≡ or_else (option_map (λ g. behind_step (attr d.0) g) o) (each_misfit f (entries_value (drop (i + 1) ts)))
tag_step f ts i d o h e q = ap (λ l. each_misfit f (entries_value l)) (dropped ts i d h e)
    ∙ ap (λ x. or_else (option_map (λ g. behind_step (attr d.0) g) x)
    (each_misfit f (entries_value (drop (i + 1) ts)))) q

-- ---- whether names rise

pub rises_step : (es : List (Text × Held)) (at : ℕ) (d e : Text × Held) → at + 1 < length es → d ≡ get_or es at d
    → e ≡ get_or es (at + 1) e → (o : Ordering) → text_cmp d.0 e.0 ≡ o
    → rises (entries_value (drop at es)) ≡ match_ordering o (rises (entries_value (drop (at + 1) es))) false false
rises_step es at d e h p q o r =
    let first : drop at es ≡ d ∷ drop (at + 1) es = dropped es at d (omega arith) p in
    let second : drop (at + 1) es ≡ e ∷ drop (at + 1 + 1) es = dropped es (at + 1) e h q in
    ap (λ l. rises (entries_value l)) first
    ∙ (ap (λ l. rises (entries_value (d ∷ l))) second
    ∙ (ap (λ x. match_ordering x (rises_behind e.0 (entries_value (drop (at + 1 + 1) es))) false false) r
    ∙ ap (λ l. match_ordering o (rises (entries_value l)) false false) (sym second)))

pub rises_last : (es : List (Text × Held)) (at : ℕ) → length es ≤ at + 1 → rises (entries_value (drop at es)) ≡ true
rises_last [] zero h = refl
rises_last [] (suc at) h = refl
rises_last (e ∷ []) zero h = refl
rises_last (e ∷ f ∷ es) zero h = absurd (omega arith)
rises_last (e ∷ es) (suc at) h = rises_last es at (omega arith)

-- ---- attributes

module _ (fits : Name → Text → Bool) (es : List (Text × Held)) where
  -- where the entries are at their end
  pub ended : (next : ℕ) (a : List ℕ × («Type» × Bool)) (fs : Attributes) → length es ≤ next
      → named_misfit fits (with_attribute a fs) (entries_value (drop next es))
      ≡ required_or a.1.1 a.0 (named_misfit fits fs (entries_value (drop next es)))
  ended next a fs h =
      let none : drop next es ≡ [] = ends es next h in
      ap (λ l. named_misfit fits (with_attribute a fs) (entries_value l)) none
      ∙ ap (λ l. required_or a.1.1 a.0 (named_misfit fits fs (entries_value l))) (sym none)
    where
      ends : (xs : List (Text × Held)) (i : ℕ) → length xs ≤ i → drop i xs ≡ []
      ends [] zero h = refl
      ends [] (suc i) h = refl
      ends (x ∷ xs) zero h = absurd (omega arith)
      ends (x ∷ xs) (suc i) h = ends xs i (omega arith)

  -- the entry that stands next, and those behind it
  pub compared : (next : ℕ) (d : Text × Held) (a : List ℕ × («Type» × Bool)) (fs : Attributes) → next < length es
      → d ≡ get_or es next d → (o : Ordering) → text_cmp d.0 a.0 ≡ o
      → named_misfit fits (with_attribute a fs) (entries_value (drop next es))
      ≡ match_ordering o (Some (d.0, [], is_unknown))
      (or_else (option_map (λ g. with_name a.0 g) (misfit fits (plain a.1.0) (value_of d.1)))
      (named_misfit fits fs (entries_value (drop (next + 1) es))))
      (required_or a.1.1 a.0 (named_misfit fits fs (entries_value (drop next es))))
  compared next d a fs h e o q =
      let first : drop next es ≡ d ∷ drop (next + 1) es = dropped es next d h e in
      let taken = or_else (option_map (λ g. with_name a.0 g) (misfit fits (plain a.1.0) (value_of d.1)))
      (named_misfit fits fs (entries_value (drop (next + 1) es))) in
      ap (λ l. named_misfit fits (with_attribute a fs) (entries_value l)) first
      ∙ (ap (λ x. match_ordering x (Some (d.0, [], is_unknown)) taken
      (required_or a.1.1 a.0 (named_misfit fits fs (entries_value (d ∷ drop (next + 1) es))))) q
      ∙ ap (λ l. match_ordering o (Some (d.0, [], is_unknown)) taken
      (required_or a.1.1 a.0 (named_misfit fits fs (entries_value l)))) (sym first))

  -- the misfit of the value, or the rest
  pub present_goes : (name : Text) (o : Option Found) (rest : ℕ → Option Named) (next place : ℕ)
      (f : Option found.Found) → Fits o name next place f
      → Goes (or_else (option_map (λ g. with_name name g) o) (rest (next + 1))) (rest place) f
  present_goes name None rest next place None h = ap rest (sym h.1)
  present_goes name (Some g) rest next place None h = absurd (let k = h.0 in cc)
  present_goes name None rest next place (Some f) h = absurd (let k = h.1 in cc)
  present_goes name (Some g) rest next place (Some f) h = h.1

  pub goes_along : (all again rest : Option Named) (f : Option found.Found) → all ≡ again → Goes again rest f
      → Goes all rest f
  goes_along all again rest None e h = e ∙ h
  goes_along all again rest (Some f) e h = ap (option_map behind_name) e ∙ h

-- one attribute of those that are looked for
pub attribute_step : (fits : Name → Text → Bool) (xs : Attrs) (i : ℕ) (d : List ℕ × («Type» × Bool)) (next : ℕ)
    (es : List (Text × Held)) → i < length xs → d ≡ get_or xs i d
    → named_misfit fits (plain_attrs (drop i xs)) (entries_value (drop next es))
    ≡ named_misfit fits (with_attribute d (plain_attrs (drop (i + 1) xs))) (entries_value (drop next es))
attribute_step fits xs i d next es h e =
    ap (λ l. named_misfit fits (plain_attrs l) (entries_value (drop next es))) (dropped xs i d h e)

pub most_in : {X : Type 0} (f : X → ℕ) (xs : List X) (i : ℕ) (d : X) → i < length xs → f (get_or xs i d) ≤ most f xs
most_in f [] i d h = absurd (omega arith)
most_in f (x ∷ xs) zero d h = omega arith
most_in f (x ∷ xs) (suc i) d h = omega (arith, most_in f xs i d (omega arith))
