use Rattle.std.proofs.Common.{sym, subst}
use Rattle.laws_written.specs.Lexemes.{lexemes_at}
use Rattle.laws_build.specs.Closure.WellFormed.{IsWellFormed}
use Rattle.laws_build.proofs.Closure.Scanned.{tokens_spell, faultless}
use Rattle.laws_build.proofs.Closure.Spelled.{schema_good}
use Rattle.laws_build.proofs.closed_meanings.fragments_of_texts_are_well_formed.Goals as goal

pub returns : goal.returns
returns c = λ text table f warnings (tree, is, t).
    let u = lexemes_at text is.tokens in
    let spells = tokens_spell text is.tokens _ is.are.scans in
    let said = c.trees_are_spelled.ensures text is.tokens is.tree.items tree u is.tree.syntax is.tree.tree
    (faultless text is.tree.items is.tree.lawful) spells in
    let good = schema_good u said.written said.spell in
    let says = c.fragments_say_what_trees_say.ensures tree said.written said.says good.0 t.lawful in
    let sayable = (c.faults_depend_on_what_is_said.ensures tree said.written said.says good.0).0 t.lawful in
    subst IsWellFormed (sym t.is)
    (c.fragments_that_say_are_well_formed.ensures _ said.written says sayable good.1)
