use Rattle.std.proofs.Common.{ap, sym, ◌∙◌, not}
use Rattle.std.specs.List.{list_any}
use Rattle.std.specs.Str.{bytes_eq}
use Rattle.schema_resolve_definitions.specs.Declarations.{declared}
use Rattle.schema_resolve_definitions.specs.Defined.{builtins}
use Rattle.schema_resolve_definitions.specs.Tests.{tests_of}
use Rattle.schema_resolve_lookup.proofs.Builtin.{told_behind, told_alone, told_other, shown_alone, not_hidden}
use Rattle.schema_resolve_lookup.proofs.builtins_in.names_builtin.Goals as goal

pub returns-in-Some : goal.returns-in-Some
returns-in-Some c =
    let words = builtins c.args.table.now in
    told_behind (tests_of (declared c.args.searched.now.fragment.now)) c.args.sought.namespace c.in-Some.before
    c.args.sought.last.now.text words _ c.in-Some.is
    (ap (λ w. list_any (bytes_eq w) words) (sym c.as_str.ensures)
    ∙ (sym c.is_builtin_word.ensures ∙ c.if-is_builtin_word.true))
    c.is_under_cedar.ensures

pub returns-then-not-may_hide : goal.returns-then-not-may_hide
returns-then-not-may_hide c =
    let t = tests_of (declared c.args.searched.now.fragment.now) in
    let words = builtins c.args.table.now in
    let word = c.args.sought.last.now.text in
    let builtin = ap (λ w. list_any (bytes_eq w) words) (sym c.as_str.ensures)
    ∙ (sym c.is_builtin_word.ensures ∙ c.if-is_builtin_word.true) in
    let may = c.if-not-may_hide.true in
    ap not may ∙ shown_alone t c.args.sought.namespace word words c.in-None.is builtin
    (not_hidden t word words builtin (c.requires may))

pub returns-else-not-may_hide : goal.returns-else-not-may_hide
returns-else-not-may_hide c =
    let words = builtins c.args.table.now in
    told_alone (tests_of (declared c.args.searched.now.fragment.now)) c.args.sought.namespace c.args.sought.last.now.text words
    _ c.in-None.is
    (ap (λ w. list_any (bytes_eq w) words) (sym c.as_str.ensures)
    ∙ (sym c.is_builtin_word.ensures ∙ c.if-is_builtin_word.true))
    c.is_declared.ensures

pub returns-else-is_builtin_word : goal.returns-else-is_builtin_word
returns-else-is_builtin_word c =
    let words = builtins c.args.table.now in
    told_other (tests_of (declared c.args.searched.now.fragment.now)) c.args.sought.namespace c.args.sought.last.now.text words _
    c.if-is_builtin_word.false
    (c.is_builtin_word.ensures ∙ ap (λ w. list_any (bytes_eq w) words) c.as_str.ensures)
