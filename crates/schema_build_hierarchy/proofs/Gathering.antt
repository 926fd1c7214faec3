-- What a finder holds once it was told parts.
use Rattle.std.proofs.Common.{◌≡◌, List, [], ◌∷◌, ◌++◌, refl, sym, ap, ◌∙◌, subst, append_assoc, append-nil, Option}
use Rattle.std.specs.List.{FoldsTo, flat_map}
use Rattle.cedar_identifiers.specs.declared.internal_name.InternalName.{InternalName}
use Rattle.cedar_identifiers.specs.declared.name.Name.{Name}
use Rattle.cedar_identifiers.specs.declared.raw_name.RawName.{RawName}
use Rattle.schema_json_walk.specs.Parts.{Part}
use Rattle.schema_json_walk.specs.Visits.{takes_placed}
use Rattle.schema_resolve_definitions.specs.Tests.{Tests, tests_of}
use Rattle.schema_build_hierarchy.specs.Finding.{Finds}
use Rattle.schema_build_hierarchy.specs.Rows.{undeclared_part}
use Rattle.schema_build_hierarchy.specs.declared.use_finder.UseFinder.{UseFinder}

abbrev taken : Option Name → UseFinder → Part RawName → UseFinder → Type 0
taken ns before part after = Finds
    (undeclared_part (tests_of before.defs.now) (tests_of before.own) ns part) before after

abbrev met : Tests → Tests → Option Name × Part RawName → List InternalName
met t own e = undeclared_part t own e.0 e.1

-- what all parts give
pub finds_all : (ps : List (Option Name × Part RawName)) (a c : UseFinder) → FoldsTo (takes_placed taken) a ps c
    → Finds (flat_map (met (tests_of a.defs.now) (tests_of a.own)) ps) a c
finds_all [] a c h = subst (λ g. Finds [] a g) h
    (record { defs = refl; own = refl; uses = sym (append-nil a.uses.items) })
finds_all (p ∷ ps) a c h =
    let first = h.1 in
    let rest = finds_all ps h.0 c h.2 in
    let mine = met (tests_of a.defs.now) (tests_of a.own) in
    let same : flat_map (met (tests_of h.0.defs.now) (tests_of h.0.own)) ps ≡ flat_map mine ps =
    (λ i. flat_map (met (tests_of (first.defs i)) (tests_of (first.own i))) ps) in
    record {
      defs = rest.defs ∙ first.defs;
      own = rest.own ∙ first.own;
      uses = rest.uses ∙ ap (λ l. h.0.uses.items ++ l) same ∙ ap (λ l. l ++ flat_map mine ps) first.uses
          ∙ append_assoc a.uses.items (mine p) (flat_map mine ps);
    }
