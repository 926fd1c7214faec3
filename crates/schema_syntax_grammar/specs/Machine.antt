-- The machine: a stack of what may still come, one token at a time.
use Rattle.std.specs.Prelude.{List, [], ◌∷◌, ◌++◌, Bool, true, false, ◌&&◌, Option, Some, None, is_some}
use Rattle.schema_syntax_grammar.specs.declared.token_kind.TokenKind.{TokenKind}
use Rattle.schema_syntax_grammar.specs.declared.token_kind.TokenKind.TheVariants.{End}
use Rattle.schema_syntax_grammar.specs.declared.symbol.Symbol.{Symbol}
use Rattle.schema_syntax_grammar.specs.Table.{after_front, is_nullable}

-- the stack after a token, where the topmost symbol goes on by o, and the rest of the stack by t
abbrev pub advance : Option (List Symbol) → Bool → List Symbol → Option (List Symbol) → Option (List Symbol)
advance (Some next) b s t = Some (next ++ s)
advance None true s t = t
advance None false s t = None

-- The stack behind a token of the kind, and None where none may come.
abbrev pub step : List Symbol → TokenKind → Option (List Symbol)
step [] k = None
step (x ∷ s) k = advance (after_front x k) (is_nullable x) s (step s k)

-- every symbol may stand for nothing
abbrev pub all_nullable : List Symbol → Bool
all_nullable [] = true
all_nullable (x ∷ s) = is_nullable x && all_nullable s

abbrev pub on_some : Option (List Symbol) → (List Symbol → Bool) → Bool
on_some None f = false
on_some (Some s) f = f s

-- may these kinds stand for the stack?
abbrev pub accepts : List Symbol → List TokenKind → Bool
accepts s [] = all_nullable s
accepts s (k ∷ w) = on_some (step s k) (λ t. accepts t w)

abbrev pub bind : Option (List Symbol) → (List Symbol → Option (List Symbol)) → Option (List Symbol)
bind None f = None
bind (Some s) f = f s

-- the stack after these kinds
abbrev pub run : List Symbol → List TokenKind → Option (List Symbol)
run s [] = Some s
run s (k ∷ w) = bind (step s k) (λ t. run t w)

-- the test that the code makes of each kind
abbrev pub may : List Symbol → TokenKind → Bool
may stack End = all_nullable stack
may stack k = is_some (step stack k)
