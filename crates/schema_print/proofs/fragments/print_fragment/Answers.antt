use Rattle.std.proofs.Common.{codes, map, true, false, ap, sym, ◌∙◌, ◌++◌, List, Option}
use Rattle.std.specs.Str.{encode_utf8_all}
use Rattle.std.proofs.lemmas.List.{at_drop_all}
use Rattle.cedar_data.specs.Rows.{row_behind}
use Rattle.schema_syntax_tokens.specs.Laid.{laid}
use Rattle.cedar_identifiers.specs.declared.name.Name.{Name}
use Rattle.schema_json.specs.declared.fragment.NamespaceDefinition.{NamespaceDefinition}
use Rattle.schema_print_text.specs.Growing.{then, begun, round, adds_all}
use Rattle.schema_print.specs.PrintedFragments.{block_pieces}
use Rattle.schema_print.proofs.Rows.{row_step, joined_row}
use Rattle.schema_print.proofs.fragments.print_fragment.Goals as goal

pub loop-name-init : goal.loop-name-init
loop-name-init g c = begun _ _

pub loop-name-preserved : goal.loop-name-preserved
loop-name-preserved g c =
    round (then c.in_ok-push_between.ensures c.in_ok-push_namespace.ensures) c.loop-name.invariant
    (row_step (λ b. laid (block_pieces g.N.NameText.components true b)) (codes "\n") c.loop-name.behind _
    c.loop-name.name-index c.loop-name-item.result c.loop-name-test.true c.loop-name-item.is)

pub returns : goal.returns
returns g c =
    let names = g.N.NameText.components in
    let one = λ (bs : List (Option Name × NamespaceDefinition g.row.N.Denot g.N.NameText)). row_behind (codes "\n")
    false (map (λ b. laid (block_pieces names true b)) bs) in
    let e = adds_all c.loop-name.invariant
    (at_drop_all (λ bs. row_behind (codes "\n") c.loop-name.behind (map (λ b. laid (block_pieces names true b)) bs))
    c.as_slice-name-items.result.now c.loop-name.name-index c.loop-name-test.false) in
    e.grown ∙ (ap (λ t. encode_utf8_all t ++ one c.as_slice-name-items.result.now) c.new-text.ensures
    ∙ (ap one c.as_slice-name-items.ensures.entries ∙ sym (joined_row (block_pieces names true) c.args.fragment.now.0)))
