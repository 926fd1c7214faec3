use Rattle.std.proofs.Common.{ap, ◌∙◌, sym}
use Rattle.std.specs.Prelude.{option_map, Some}
use Rattle.schema_convert_fragments.specs.Fragments.{declarable_name, namespace_key}
use Rattle.schema_convert_types.specs.Names.{internal_name_of}
use Rattle.schema_convert_fragments.proofs.namespaces.namespace_key.Goals as goal

pub returns-in-Some-2 : goal.returns-in-Some-2
returns-in-Some-2 c = ap (option_map Some)
    (sym c.in-Some-2.is
    ∙ (c.in_ok-declared_key-in-Some.ensures ∙ ap (λ p. declarable_name (internal_name_of p)) c.get.ensures))
    ∙ ap namespace_key (sym c.in-Some.is)
