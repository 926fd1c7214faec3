-- The declared common types that are lent are those of the fragment.
use Rattle.std.proofs.Common.{◌≡◌, ℕ, suc, ◌≤◌, List, [], ◌∷◌, length, map, All, Contains, Option, Some, refl, sym, ap}
use Rattle.std.proofs.Common.{◌∙◌, subst, arith}
use Rattle.std.specs.Prelude.{slice_get}
use Rattle.std.specs.Borrow.{Bor}
use Rattle.std.specs.List.{flat_map}
use Rattle.std.specs.Map.{values_of}
use Rattle.std.specs.Option.{option_map}
use Rattle.std.proofs.lemmas.List.{map-append, length-map}
use Rattle.std.proofs.lemmas.List.Elements.{All-nil, All-cons, All-append, All-contains}
use Rattle.std.proofs.lemmas.Option.{slice_get-map, slice_get_within, get_or_from_slice_get}
use Rattle.cedar_data.specs.Entries.{on_value}
use Rattle.cedar_identifiers.specs.declared.internal_name.InternalName.{InternalName}
use Rattle.cedar_identifiers.specs.declared.name.Name.{Name}
use Rattle.cedar_identifiers.specs.declared.name_text.NameText as named
use Rattle.cedar_identifiers.specs.declared.raw_name.RawName.{RawName}
use Rattle.cedar_names.specs.Orders.{names_in_order}
use Rattle.cedar_names.specs.declared.extension_table.ExtensionTable.{ExtensionTable}
use Rattle.schema_json.specs.declared.fragment.Fragment.{Fragment}
use Rattle.schema_json.specs.declared.fragment.NamespaceDefinition.{NamespaceDefinition}
use Rattle.schema_json.specs.declared.types.Type.{«Type»}
use Rattle.schema_json_walk.specs.Walk.{parts}
use Rattle.schema_build_graph.specs.declared.order_fault.OrderFault.{OrderFault}
use Rattle.schema_build_graph.specs.declared.order_fault.OrderFault.TheVariants.{Cycle, Memory}
use Rattle.schema_build_expand.specs.Commons.{AreCommons}
use Rattle.schema_build_expand.specs.Rows.{IsMeant, AreMeant, NoneRound, IsCycleFault}
use Rattle.schema_build_expand.specs.Scope.{Scope}
use Rattle.schema_build_scope.specs.Commons.{TypeAt, full_common_entry, declared_commons, commons_in_order}
use Rattle.schema_build_scope.specs.FragmentScope.{declaration, fragment_scope}
use Rattle.schema_build_scope.specs.LentRounds.{IsRoundFault, NoneReachesItself}
use Rattle.schema_build_scope.specs.Parts.{AreTypesMeant}
use Rattle.schema_build_scope.proofs.Apart.{seen_at}
use Rattle.schema_build_scope.proofs.Entries.{map_values}
use Rattle.schema_build_scope.proofs.Found.{fragment_apart}
use Rattle.schema_build_scope.proofs.Rounds.{round_named, round_ranked, round_below}

-- what holds of each value of what items give
each_value : {A K V : Type 0} (Q : V → Type 0) (g : A → List (K × V)) (xs : List A)
    → ((x : A) → Contains xs x → All Q (values_of (g x))) → All Q (values_of (flat_map g xs))
each_value Q g [] h = All-nil Q
each_value {A} {K} {V} Q g (x ∷ xs) h =
    subst (All Q) (sym (map-append (λ (e : K × V). e.1) (g x) (flat_map g xs)))
    (All-append Q (values_of (g x)) (values_of (flat_map g xs)) (h x (0, omega arith, refl))
    (each_value Q g xs (λ y (k, lt, e). h y (suc k, omega (arith, lt), e))))

each_entry : {A K V : Type 0} (Q : V → Type 0) (g : A → K × V) (xs : List A)
    → ((x : A) → Contains xs x → Q (g x).1) → All Q (values_of (map g xs))
each_entry Q g [] h = All-nil Q
each_entry Q g (x ∷ xs) h =
    All-cons Q (g x).1 (values_of (map g xs)) (h x (0, omega arith, refl))
    (each_entry Q g xs (λ y (k, lt, e). h y (suc k, omega (arith, lt), e)))

module _ {G : named.Ghosts RawName} (f : Fragment RawName G) (table : ExtensionTable) where
  abbrev s : Scope RawName
  s = fragment_scope f table

  abbrev IsValueMeant : TypeAt → Type 0
  IsValueMeant v = All (IsMeant s v.place) (parts v.ty)

  values_meant : AreTypesMeant f table → All IsValueMeant (values_of (commons_in_order f))
  values_meant meant =
      map_values names_in_order IsValueMeant (declared_commons f)
      (each_value IsValueMeant (λ (e : Option Name × NamespaceDefinition RawName G). map (full_common_entry e.0)
      e.1.common_types) f.0
      (λ e in_f. each_entry IsValueMeant (full_common_entry e.0) e.1.common_types
      (λ d in_n. meant.commons e.0 e.1 d in_f in_n)))

  module _ {R V : Type 0} (h : V → TypeAt) (entries : List (InternalName × V))
      (known : map (on_value h) entries ≡ commons_in_order f) (scope : R → Scope RawName)
      (place : R → Option InternalName) (commons : List (R × Bor («Type» RawName)))
      (lent : map (λ (c : R × Bor («Type» RawName)). let a : TypeAt = record { place = place c.0; ty = c.1.now } in a)
      commons
      ≡ map (λ (e : InternalName × V). h e.1) entries) where
    abbrev at_lent : R × Bor («Type» RawName) → TypeAt
    at_lent c = record { place = place c.0; ty = c.1.now }

    -- the declaration of each rank
    entry_of : (k : ℕ) (c : R × Bor («Type» RawName)) → slice_get commons k ≡ Some c
        → (e : InternalName × TypeAt) × (slice_get (commons_in_order f) k ≡ Some e) × (e.1 ≡ at_lent c)
    entry_of k c at =
        let in_map : slice_get (map (λ (e : InternalName × V). h e.1) entries) k ≡ Some (at_lent c) =
        ap (λ l. slice_get l k) (sym lent) ∙ slice_get-map at_lent commons k ∙ ap (option_map at_lent) at in
        let e = seen_at (λ (d : InternalName × V). h d.1) entries k (at_lent c) in_map in
        let there : slice_get (commons_in_order f) k ≡ Some (on_value h e.0) =
        ap (λ l. slice_get l k) (sym known) ∙ slice_get-map (on_value h) entries k ∙ ap (option_map (on_value h)) e.1 in
        (on_value h e.0, there, e.2)

    pub lent_commons_are : ((k : ℕ) (c : R × Bor («Type» RawName)) → slice_get commons k ≡ Some c → scope c.0 ≡ s)
        → AreCommons s scope place commons
    lent_commons_are scopes k c at =
        let e = entry_of k c at in (
          scopes k c at,
          (
            declaration e.0,
            slice_get-map declaration (commons_in_order f) k ∙ ap (option_map declaration) e.1,
            ap (λ (v : TypeAt). v.place) e.2,
            ap (λ (v : TypeAt). v.ty) e.2,
          ),
        )

    pub lent_meant : AreTypesMeant f table → AreMeant s place commons
    lent_meant meant k c at =
        let e = entry_of k c at in
        let vs = values_of (commons_in_order f) in
        let there : slice_get vs k ≡ Some e.0.1 =
        slice_get-map (λ (x : InternalName × TypeAt). x.1) (commons_in_order f) k ∙ ap (option_map (λ x. x.1)) e.1 in
        subst IsValueMeant e.2
        (All-contains IsValueMeant vs e.0.1 (values_meant meant)
        (k, slice_get_within vs k e.0.1 there, get_or_from_slice_get vs k e.0.1 e.0.1 there))

    pub lent_count : length s.commons ≡ length commons
    lent_count =
        length-map (commons_in_order f) declaration
        ∙ ap length (sym known) ∙ length-map entries (on_value h)
        ∙ sym (length-map entries (λ (e : InternalName × V). h e.1)) ∙ ap length (sym lent)
        ∙ length-map commons at_lent

    module _ (are : AreCommons s scope place commons) where
      pub none_reaches : NoneRound s place commons → NoneReachesItself s
      none_reaches none name round =
          let r = round_ranked s scope place commons are lent_count (fragment_apart f table) name round in
          none r.0 r.2

      pub round_fault : (fault : OrderFault) → IsCycleFault s place commons fault → IsRoundFault s fault
      round_fault (Cycle v) h =
          let d = round_below s scope place commons are lent_count (fragment_apart f table) v h.round in
          record {
            ty = d.0;
            here = d.1;
            round = round_named s scope place commons are lent_count (fragment_apart f table) v d.0.name
                (d.0, d.1, refl) h.round;
            least = λ u other at round.
                let r = round_ranked s scope place commons are lent_count (fragment_apart f table) other.name round in
                let same : r.0 ≡ u = fragment_apart f table other.name r.0 u r.1 (other, at, refl) in
                subst (λ k. v ≤ k) same (h.least r.0 r.2);
          }
      round_fault Memory h = tt
