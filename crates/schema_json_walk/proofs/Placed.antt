-- Parts of one namespace, each told with it.
use Rattle.std.proofs.Common.{inl, inr, List, [], ◌∷◌, sym, subst, Option}
use Rattle.std.specs.List.{FoldsTo, flat_map}
use Rattle.cedar_identifiers.specs.declared.name.Name.{Name}
use Rattle.cedar_identifiers.specs.declared.name_text.NameText as named
use Rattle.schema_json.specs.declared.fragment.NamespaceDefinition.{NamespaceDefinition}
use Rattle.schema_json_walk.specs.Parts.{Part}
use Rattle.schema_json_walk.specs.Visits.{StopsAmong, takes_placed, refuses_placed}
use Rattle.schema_json_walk.specs.Walk.{itself, of_namespace}
use Rattle.schema_json_walk.proofs.ByParts.{namespace_by_parts}

module _ {Ns P S E : Type 0} (R : Ns → S → P → S → Type 0) (Q : Ns → S → P → E → Type 0) (ns : Ns) where
  all_placed : (ps : List P) (s t : S) → FoldsTo (R ns) s ps t
      → FoldsTo (takes_placed R) s (flat_map (λ part. let q : Ns × P = (ns, part) in q ∷ []) ps) t
  all_placed [] s t h = h
  all_placed (p ∷ ps) s t h = (h.0, h.1, all_placed ps h.0 t h.2)

  stop_placed : (ps : List P) (s : S) (e : E) → StopsAmong (R ns) (Q ns) s ps e
      → StopsAmong (takes_placed R) (refuses_placed Q) s (flat_map (λ part. let q : Ns × P = (ns, part) in q ∷ []) ps) e
  stop_placed [] s e h = h
  stop_placed (p ∷ ps) s e (inl h) = inl h
  stop_placed (p ∷ ps) s e (inr k) = inr (k.0, k.1, stop_placed ps k.0 e k.2)

module _ {N S E : Type 0} {G : named.Ghosts N} (R : Option Name → S → Part N → S → Type 0)
    (Q : Option Name → S → Part N → E → Type 0) (ns : Option Name) (n : NamespaceDefinition N G) where
  pub namespace_placed : (s t : S) → FoldsTo (R ns) s (of_namespace itself n) t
      → FoldsTo (takes_placed R) s (of_namespace (λ part. let q : Option Name × Part N = (ns, part) in q ∷ []) n) t
  namespace_placed s t h =
      subst (λ l. FoldsTo (takes_placed R) s l t)
      (sym (namespace_by_parts (λ part. let q : Option Name × Part N = (ns, part) in q ∷ []) n))
      (all_placed R Q ns (of_namespace itself n) s t h)

  pub namespace_stops : (s : S) (e : E) → StopsAmong (R ns) (Q ns) s (of_namespace itself n) e
      → StopsAmong (takes_placed R) (refuses_placed Q) s
      (of_namespace (λ part. let q : Option Name × Part N = (ns, part) in q ∷ []) n) e
  namespace_stops s e h =
      subst (λ l. StopsAmong (takes_placed R) (refuses_placed Q) s l e)
      (sym (namespace_by_parts (λ part. let q : Option Name × Part N = (ns, part) in q ∷ []) n))
      (stop_placed R Q ns (of_namespace itself n) s e h)
