use Rattle.std.proofs.Common.{List, [], ◌∷◌, ◌++◌, ℕ, ap, ◌∙◌}
use Rattle.cedar_data.specs.declared.node.Node.{Node}
use Rattle.schema_syntax_tree.proofs.type_decl.TypeDeclDecl.names.Goals as goal

pub returns : goal.returns
returns c =
    let placed : List ℕ → Node (List ℕ) = λ text. record { node = text; loc = c.args.self.now.name.loc } in
    c.in_ok-push.ensures.items
    ∙ (ap (λ names. names ++ placed c.in_ok-from_str.field-0 ∷ []) c.new-names.ensures.items
    ∙ ap (λ text. placed text ∷ []) (c.in_ok-from_str.ensures ∙ c.as_str.ensures.characters))
