use Rattle.std.proofs.Common.{ap, sym, ◌∙◌}
use Rattle.std.specs.List.{list_any}
use Rattle.std.specs.Option.{option_copied}
use Rattle.std.specs.Str.{bytes_eq}
use Rattle.schema_resolve_lookup.specs.Sought.{words_before, passes}
use Rattle.schema_resolve_lookup.proofs.Looked.{commons_given}
use Rattle.schema_resolve_lookup.proofs.declared_in.declares_common.Goals as goal

pub returns-in-Some : goal.returns-in-Some
returns-in-Some c =
    let word = c.args.sought.last.now.text in
    c.has_common.ensures
    ∙ sym (commons_given c.args.searched.now.fragment.now (words_before c.args.sought.namespace) word
    ∙ c.namespace_of.ensures _
    ∙ ap (λ n. passes (option_copied n) (λ n. list_any (λ e. bytes_eq word e.0.id.id.text) n.common_types))
    c.in-Some.is)

pub returns-in-None : goal.returns-in-None
returns-in-None c =
    let word = c.args.sought.last.now.text in
    sym (commons_given c.args.searched.now.fragment.now (words_before c.args.sought.namespace) word
    ∙ c.namespace_of.ensures _
    ∙ ap (λ n. passes (option_copied n) (λ n. list_any (λ e. bytes_eq word e.0.id.id.text) n.common_types))
    c.in-None.is)
