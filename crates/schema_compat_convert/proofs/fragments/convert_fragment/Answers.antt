use Rattle.std.proofs.Common.{subst}
use Rattle.std.specs.List.{AllZip, flat_map}
use Rattle.schema_json.proofs.Namespaces.{names_order, map_made}
use Rattle.schema_json_shapes.specs.Walk.{AllMet}
use Rattle.schema_compat_convert.specs.Demands.{asks_entry}
use Rattle.schema_compat_convert.specs.Converted.{EntryBecomes}
use Rattle.schema_compat_convert.proofs.fragments.convert_fragment.Goals as goal

pub returns : goal.returns
returns c =
    let entries = c.in_ok-entries.entries.items in
    let made = map_made _ names_order entries c.in_ok-namespaces.namespaces c.in_ok-namespaces.ensures.entries in
    let h = subst (λ es. AllMet (flat_map asks_entry es) × AllZip EntryBecomes es entries) c.into_vec.ensures.entries
    c.in_ok-entries.ensures in
    (h.0, (entries, h.1, made))
