-- What each token does, by the machine.
use Rattle.std.specs.Prelude.{ℕ, ◌+◌, List, [], ◌∷◌, Option, Some, None, Bool, true, false}
use Rattle.schema_syntax_grammar.specs.declared.token_kind.TokenKind.{TokenKind}
use Rattle.schema_syntax_grammar.specs.declared.token_kind.TokenKind.TheVariants.{KwNamespace, At, Identifier}
use Rattle.schema_syntax_grammar.specs.declared.symbol.Symbol.{Symbol}
use Rattle.schema_syntax_grammar.specs.declared.symbol.Symbol.TheVariants.{Schema, Item, ContextType, Types, Paths}
use Rattle.schema_syntax_grammar.specs.declared.symbol.Symbol.TheVariants.{Refs, RefList, AnyType}
use Rattle.schema_syntax_grammar.specs.Table.{after_front, is_nullable}
use Rattle.schema_syntax_grammar.specs.Machine.{step}
use Rattle.schema_assist_places.specs.declared.role.Role.{Role}
use Rattle.schema_assist_places.specs.declared.role.Role.TheVariants.{TypePath, EntityPath, ContextPath, ActionRef}
use Rattle.schema_assist_places.specs.Duties.{begun}
use Rattle.schema_assist_places.specs.declared.duty.Duty.{Duty}
use Rattle.schema_assist_places.specs.declared.duty.Duty.TheVariants.{Begins, Opens, Outside, Plain}

abbrev pub item_duty : TokenKind → Duty
item_duty KwNamespace = Opens
item_duty At = Plain
item_duty _ = Outside

-- what a token does that this symbol takes
abbrev pub duty_of : Symbol → TokenKind → Duty
duty_of Schema k = item_duty k
duty_of Item k = item_duty k
duty_of ContextType k = begun ContextPath k
duty_of Types k = begun EntityPath k
duty_of Paths k = begun EntityPath k
duty_of Refs k = begun ActionRef k
duty_of RefList k = begun ActionRef k
duty_of AnyType k = begun TypePath k
duty_of _ k = Plain

abbrev pub duty_or : Option (List Symbol) → Bool → Duty → Duty → Duty
duty_or (Some next) b here below = here
duty_or None true here below = below
duty_or None false here below = Plain

-- what a token does that this stack takes
abbrev pub taken : List Symbol → TokenKind → Duty
taken [] k = Plain
taken (x ∷ s) k = duty_or (after_front x k) (is_nullable x) (duty_of x k) (taken s k)

abbrev pub on_stack : Option (List Symbol) → (List Symbol → List Duty) → List Duty
on_stack None f = []
on_stack (Some s) f = f s

-- what each token does, for a stack
abbrev pub trace : List Symbol → List TokenKind → List Duty
trace s [] = []
trace s (k ∷ w) = taken s k ∷ on_stack (step s k) (λ t. trace t w)

abbrev pub role_in : Duty → Option Role
role_in (Begins role) = Some role
role_in _ = None

-- the role of an identifier that comes next
abbrev pub role_of : List Symbol → Option Role
role_of s = role_in (taken s Identifier)

-- the place of the word `namespace` before the namespace that is open after the token at place i, which does this
abbrev pub space_after : Option ℕ → ℕ → Duty → Option ℕ
space_after now i Opens = Some i
space_after now i Outside = None
space_after now i _ = now

-- the namespace that is open after tokens that do these, from the place i on
abbrev pub space_behind : ℕ → Option ℕ → List Duty → Option ℕ
space_behind i now [] = now
space_behind i now (d ∷ ds) = space_behind (i + 1) (space_after now i d) ds

-- the namespace that is open behind kinds
abbrev pub space_of : List TokenKind → Option ℕ
space_of front = space_behind 0 None (trace (Schema ∷ []) front)
