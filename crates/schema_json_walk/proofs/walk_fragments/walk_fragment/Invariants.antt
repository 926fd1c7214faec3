use Rattle.std.proofs.Common.{take, ◌∷◌, []}
use Rattle.std.specs.Prelude.{Option}
use Rattle.std.specs.List.{FoldsTo, flat_map}
use Rattle.cedar_identifiers.specs.declared.name.Name.{Name}
use Rattle.schema_json_walk.specs.Parts.{Part}
use Rattle.schema_json_walk.specs.Visits.{takes_placed}
use Rattle.schema_json_walk.specs.Walk.{of_entry}
use Rattle.schema_json_walk.proofs.walk_fragments.walk_fragment.Given as goal

abbrev pub invariant-loop-ns : goal.invariant-loop-ns
invariant-loop-ns g l =
    FoldsTo (takes_placed g.V.Visitor.takes) l.initial.visitor
    (flat_map (of_entry (λ ns part. let placed : Option Name × Part g.row.N.Denot = (ns, part) in placed ∷ []))
    (take l.ns-index l.ns-items))
    l.visitor
