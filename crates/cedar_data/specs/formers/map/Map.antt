-- `Map` as a type that may hold the type that holds it, by its values.
use Rattle.std.specs.Prelude.{◌≡◌, Bool, List, [], map}
use mathlib.Core.Path.{refl, sym}
use mathlib.Core.Former.{Former, this, list, via, children}
use denote.RattleType.{RattleType}
use denote.HoleLaws.{Alike}
use denote.HolePlaces.{Recodes, struct_places, laid}
use denote.Hole.Carrier.{listed}
use denote.Hole.Fix.{over}
use denote.Param.Weighed.{Weighed, most}
use denote.Model.Placed.{view_places}
use Rattle.std.specs.formers.vec.Vec as vec
use denote.Struct.Tuple.{Tuple, tuple_type}
use denote.HolePlaces.{stays}
use mathlib.Core.List.{◌∷◌}
use mathlib.Core.Path.{subst}
use Rattle.std.specs.List.Sorted.{IsStrictlySortedBy, IsStrictlySortedBy-prop}
use Rattle.cedar_data.specs.Entries.{entry, on_value, entries_puts, values_listed, entries_recoded, keys_on_values}
use Rattle.std.specs.Map.{keys_of}
use Rattle.std.specs.Map.{values_of}
use Rattle.std.specs.declared.cmp.Ord as ord
use Rattle.std.specs.declared.cmp.PartialEq as eq
use Rattle.std.specs.declared.cmp.PartialOrd as partial
use Rattle.std.specs.declared.cmp.Ordering.{Ordering}
use Rattle.std.specs.Prelude.{Option}
use Rattle.std.specs.Cmp.Lexicographic.{pointwise, slice_cmp, slice_partial_cmp}
use Rattle.std.specs.Cmp.Derive.Mapped.{pointwise-map, lex_map, slice_partial_cmp-map, items_map}
use Rattle.std.specs.Hash.{HashWrites, slice}
use Rattle.std.specs.declared.alloc.Global.{Global}
use Rattle.std.specs.contracts.alloc.Global as heap
use Rattle.std.specs.contracts.impls.GlobalAllocator.TheImpl.{ghosts}
use Rattle.cedar_data.specs.declared.map.Map.TheInside.{Inside}
use Rattle.cedar_data.specs.declared.map.Map.TheView.{view, invariant}
use Rattle.cedar_data.specs.contracts.map.Map as C
use Rattle.cedar_data.specs.contracts.map.Map.TheInside as I

abbrev pub the_former : Former {0} → Type 0 → Former {0}
the_former g K = list (entry g K)

abbrev pub the_weighed : {g : Former {0}} → Weighed g → (K : Type 0) → Weighed (the_former g K)
the_weighed w K = record { weight = λ X μ m. most (w.weight X μ) (values_of m); puts = λ X μ m. entries_puts w K X μ m }

pub the_empty : (K : Type 0) → K → List (K × ⊥)
the_empty K k = []

abbrev pub the_items : (K X : Type 0) → List (K × X) → List X
the_items K X m = values_of m

pub the_items_listed : (K X : Type 0) (m : List (K × X))
    → listed _ (children (the_former this K) X m) ≡ the_items K X m
the_items_listed K X m = values_listed K X m

abbrev fields : Type 0 → Former {0}
fields K = via (vec.the_former (entry this K) Global) (λ X. Inside K X) (λ X a. a.entries)
    (λ X v. record { entries = v }) (λ X a. refl) (λ X v. refl)

module _ (K : RattleType) (G : ord.Ghosts K.Denot) (G' : eq.Ghosts K.Denot) (G'' : partial.Ghosts K.Denot)
    (R R' : RattleType) (h : R.Denot → R'.Denot) where
  abbrev pair_of : RattleType → RattleType
  pair_of S = Tuple (K ∷ (S ∷ []))

  pair_places : Alike R R' h → Alike (pair_of R) (pair_of R') (on_value h)
  pair_places a = struct_places (tuple_type (K ∷ (R ∷ []))) (tuple_type (K ∷ (R' ∷ []))) (λ x. x, (h, tt))
      (on_value h) (λ d. refl) refl (stays K, (laid _ _ _ a, tt))

  same_keys : (es : List (K.Denot × R.Denot)) → keys_of (map (on_value h) es) ≡ keys_of es
  same_keys es = keys_on_values h es

  pub the_places : Alike R R' h
      → Alike (C.the_row K R G G' G'') (C.the_row K R' G G' G'') ((the_former this K.Denot).map R.Denot R'.Denot h)
  the_places a = view_places (fields K.Denot) (the_former this K.Denot) (λ X. view K.Denot X G G' G'')
      (λ X Y k u. refl) (λ X u. refl)
      R.Denot R'.Denot h (C.the_row K R G G' G'').coded (C.the_row K R' G G' G'').coded
      (invariant K.Denot R.Denot G G' G'') (invariant K.Denot R'.Denot G G' G'')
      (λ u. IsStrictlySortedBy-prop G.cmp _) (λ u. IsStrictlySortedBy-prop G.cmp _)
      (λ u s. subst (IsStrictlySortedBy G.cmp) (sym (same_keys u.entries.items)) s)
      (λ u s. subst (IsStrictlySortedBy G.cmp) (same_keys u.entries.items) s)
      (over (I.the_row K R G G' G'')) (over (I.the_row K R' G G' G''))
      (struct_places (I.the_type K R G G' G'') (I.the_type K R' G G' G'') (vec.mapped (on_value h), tt) _ (λ d. refl)
      refl (laid _ _ _ (vec.the_places heap.the_row ghosts (pair_of R) (pair_of R') (on_value h) (pair_places a)), tt))

  pub the_codes_placed : Recodes R R' h
      → Recodes (C.the_row K R G G' G'') (C.the_row K R' G G' G'') ((the_former this K.Denot).map R.Denot R'.Denot h)
  the_codes_placed e m = entries_recoded K R R' h e m

module _ {K X Y : Type 0} (h : X → Y) where
  pub entries_eq : (F : K × Y → K × Y → Bool) (es fs : List (K × X))
      → pointwise F (map (on_value h) es) (map (on_value h) fs)
      ≡ pointwise (λ p q. F (on_value h p) (on_value h q)) es fs
  entries_eq = pointwise-map (on_value h)

  pub entries_cmp : (F : K × Y → K × Y → Ordering) (es fs : List (K × X))
      → slice_cmp F (map (on_value h) es) (map (on_value h) fs)
      ≡ slice_cmp (λ p q. F (on_value h p) (on_value h q)) es fs
  entries_cmp = lex_map (on_value h)

  pub entries_partial_cmp : (F : K × Y → K × Y → Option Ordering) (es fs : List (K × X))
      → slice_partial_cmp F (map (on_value h) es) (map (on_value h) fs)
      ≡ slice_partial_cmp (λ p q. F (on_value h p) (on_value h q)) es fs
  entries_partial_cmp = slice_partial_cmp-map (on_value h)

  pub entries_hashed : (F : K × Y → HashWrites) (es : List (K × X))
      → slice F (map (on_value h) es) ≡ slice (λ p. F (on_value h p)) es
  entries_hashed = items_map (on_value h)

pub ruleset naturals = (entries_eq, entries_cmp, entries_partial_cmp, entries_hashed)
