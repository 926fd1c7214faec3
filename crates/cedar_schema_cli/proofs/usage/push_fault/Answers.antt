use Rattle.std.proofs.Common.{◌≡◌, ◌++◌, sym, subst, codes, OnOk}
use Rattle.cedar_schema_cli.specs.Usage.{fault_line, word_shown}
use Rattle.cedar_schema_cli.proofs.usage.push_fault.Goals as goal

pub returns-in-NoSuchCommand : goal.returns-in-NoSuchCommand
returns-in-NoSuchCommand c =
    let out = c.args.out.now in
    let new = c.push_word.new.out in
    subst (λ fault. OnOk c.push_word.result (new ≡ out ++ fault_line fault)) (sym c.in-NoSuchCommand.is)
    (subst (λ word. OnOk c.push_word.result (new ≡ out
    ++ (codes "error: no such command: `" ++ (word_shown word ++ codes "`\n")))) c.as_str.ensures.value
    c.push_word.ensures)

pub returns-in-NoSuchOption : goal.returns-in-NoSuchOption
returns-in-NoSuchOption c =
    let out = c.args.out.now in
    let new = c.push_word-in-NoSuchOption.new.out in
    subst (λ fault. OnOk c.push_word-in-NoSuchOption.result (new ≡ out ++ fault_line fault))
    (sym c.in-NoSuchOption.is)
    (subst (λ word. OnOk c.push_word-in-NoSuchOption.result (new ≡ out
    ++ (codes "error: no such option: `" ++ (word_shown word ++ codes "`\n"))))
    c.as_str-in-NoSuchOption.ensures.value c.push_word-in-NoSuchOption.ensures)

pub returns-in-NoNames : goal.returns-in-NoNames
returns-in-NoNames c =
    subst (λ fault. OnOk c.push-in-NoNames.result (c.push-in-NoNames.new.out ≡ c.args.out.now ++ fault_line fault))
    (sym c.in-NoNames.is) c.push-in-NoNames.ensures
