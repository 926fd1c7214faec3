-- What a lawful JSON value has, its members and the values of its maps have.
use Rattle.std.proofs.Common.{◌≡◌, ℕ, List, [], ◌++◌, All, Contains, Option, Some, None, Ordering, refl, sym}
use Rattle.std.proofs.Common.{subst}
use Rattle.std.proofs.Common.{inl, inr}
use Rattle.std.specs.Cmp.Lexicographic.{slice_cmp}
use Rattle.std.specs.Map.{values_of}
use Rattle.std.specs.Ordering.{nat_cmp, match_ordering}
use Rattle.std.specs.declared.cmp.Ordering.TheVariants.{Less, Equal, Greater}
use Rattle.std.proofs.lemmas.List.Elements.{All-nil, All-contains}
use Rattle.std.proofs.lemmas.Map.Lookups.{exact_bytes}
use Rattle.serde_json.specs.Data.{Data, null, boolean, number, string, array, object, Members, no_members, member}
use Rattle.serde_json.specs.Find.{get_member}
use Rattle.cedar_data.specs.Maps.{map_of}
use Rattle.cedar_data.proofs.Lists.{contains_map, all_of}
use Rattle.schema_json_shapes.specs.Reads.{field_demands}
use Rattle.schema_json_shapes.specs.Said.{AreEntries, no_entry, next_entry, IsMap, IsMapOrNone}
use Rattle.schema_json_shapes.specs.Walk.{Demand, AllMet, Role, member_role, key_demands, without_null, object_demands}
use Rattle.schema_json_shapes.specs.Walk.{demands}
use Rattle.schema_json_shapes.specs.Walk.{member_demands}
use Rattle.schema_json_shapes.proofs.Demands.{first_met, second_met}
use Rattle.schema_build_hierarchy.proofs.Once.{contains_cases}
use Rattle.laws_build.proofs.Closure.Formed.{values_kept}
use Rattle.laws_build.proofs.Closure.Lists.{has_none}

-- a member that is there is lawful
module _ (key : List ℕ → List Demand) (role : List ℕ → Role) where
  by_order : (n k : List ℕ) (d : Data) (ms : Members) (c : Ordering) → slice_cmp nat_cmp n k ≡ c
      → AllMet (demands (role k) k d) → AllMet (field_demands (role n) n (get_member n ms))
      → AllMet (field_demands (role n) n (match_ordering c (get_member n ms) (Some d) (get_member n ms)))
  by_order n k d ms Less e here later = later
  by_order n k d ms Equal e here later = subst (λ l. AllMet (demands (role l) l d)) (sym (exact_bytes n k e)) here
  by_order n k d ms Greater e here later = later

  pub member_met : (n : List ℕ) (ms : Members) → AllMet (member_demands key role ms)
      → AllMet (field_demands (role n) n (get_member n ms))
  member_met n no_members met = tt
  member_met n (member k d ms) met =
      let behind = second_met (key k) (demands (role k) k d ++ member_demands key role ms) met in
      by_order n k d ms (slice_cmp nat_cmp n k) refl
      (first_met (demands (role k) k d) (member_demands key role ms) behind)
      (member_met n ms (second_met (demands (role k) k d) (member_demands key role ms) behind))

-- the values of a map, whose members are all read as one thing
module _ {K V : Type 0} (order : K → K → Ordering) (Key : List ℕ → K → Type 0) (Value : Data → V → Type 0)
    (r within : Role) (one : (ms : Members) (k : List ℕ) → member_role (without_null r) ms k ≡ within) (P : V → Type 0)
    (each : (k : List ℕ) (d : Data) (v : V) → AllMet (demands within k d) → Value d v → P v) where
  entries_have : (whole ms : Members) (es : List (K × V)) → AreEntries Key Value ms es
      → AllMet (member_demands (key_demands (without_null r)) (member_role (without_null r) whole) ms)
      → (e : K × V) → Contains es e → P e.1
  entries_have whole ms es no_entry met e c = has_none e c
  entries_have whole ms es (next_entry k d rest key v more is says others) met e c =
      let first = demands (member_role (without_null r) whole k) k d in
      let later = member_demands (key_demands (without_null r)) (member_role (without_null r) whole) rest in
      let behind = second_met (key_demands (without_null r) k) (first ++ later) met in
      elim (contains_cases (key, v) more e c) [
        | inl same ↦ subst (λ (z : K × V). P z.1) same
            (each k d v (subst (λ q. AllMet (demands q k d)) (one whole k) (first_met first later behind)) says)
        | inr there ↦ entries_have whole rest more others (second_met first later behind) e there
      ]

  pub map_has : (n : List ℕ) (d : Data) (es : List (K × V)) → IsMap order Key Value d es → AllMet (demands r n d)
      → All (λ e. P e.1) es
  map_has n null es h met = absurd h
  map_has n (boolean b) es h met = absurd h
  map_has n (number x) es h met = absurd h
  map_has n (string s) es h met = absurd h
  map_has n (array ds) es h met = absurd h
  map_has n (object ms) es (entries, are, is) met =
      let values = values_kept order P [] entries (All-nil P) (entries_have ms ms entries are
      (second_met (object_demands (without_null r) n ms)
      (member_demands (key_demands (without_null r)) (member_role (without_null r) ms) ms) met)) in
      subst (λ (l : List (K × V)). All (λ e. P e.1) l) (sym is)
      (all_of (λ (e : K × V). P e.1) (map_of order entries)
      (λ e c. All-contains P (values_of (map_of order entries)) e.1 values
      (contains_map (λ (z : K × V). z.1) (map_of order entries) e c)))

  pub map_or_none_has : (n : List ℕ) (o : Option Data) (es : List (K × V)) → IsMapOrNone order Key Value o es
      → AllMet (field_demands r n o) → All (λ e. P e.1) es
  map_or_none_has n None es h met =
      subst (λ (l : List (K × V)). All (λ e. P e.1) l) (sym h) (All-nil (λ (e : K × V). P e.1))
  map_or_none_has n (Some d) es h met = map_has n d es h met
