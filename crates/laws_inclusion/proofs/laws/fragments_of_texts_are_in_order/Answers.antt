use Rattle.std.proofs.Common.{sym, subst}
use Rattle.laws_written.specs.Lexemes.{lexemes_at}
use Rattle.schema_build.specs.FaultsTold.{IsInOrder}
use Rattle.laws_build.proofs.Closure.Scanned.{tokens_spell, faultless}
use Rattle.laws_build.proofs.Closure.Spelled.{schema_good}
use Rattle.laws_inclusion.proofs.laws.fragments_of_texts_are_in_order.Goals as goal

pub returns : goal.returns
returns c = λ text table f warnings (tree, is, t).
    let u = lexemes_at text is.tokens in
    let spells = tokens_spell text is.tokens _ is.are.scans in
    let said = c.trees_are_spelled.ensures text is.tokens is.tree.items tree u is.tree.syntax is.tree.tree
    (faultless text is.tree.items is.tree.lawful) spells in
    let good = schema_good u said.written said.spell in
    let says = c.fragments_say_what_trees_say.ensures tree said.written said.says good.0 t.lawful in
    subst IsInOrder (sym t.is) (c.rearranged_texts_declare_the_same.ensures.ordered _ said.written says)
