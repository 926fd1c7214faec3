-- In which namespace each token of a schema stands.
use Rattle.std.specs.Prelude.{◌≡◌, ℕ, ◌+◌, List, [], ◌∷◌, ◌++◌, length, slice_get, Option, Some, None}
use Rattle.schema_syntax_grammar.specs.Grammar.{Nonterminal, Phrase, Sentence, Kinds, more_items, namespace_item}
use Rattle.schema_assist_places.specs.declared.role.Role.{Role}
use Rattle.schema_assist_places.specs.Roles.{roles}

-- this one for each of the kinds
abbrev pub alls : Option ℕ → Kinds → List (Option ℕ)
alls home [] = []
alls home (k ∷ w) = home ∷ alls home w

-- For each token of a schema that begins at place i: the place of the word `namespace`, for the declarations of a
-- namespace, and else nothing.
unfoldable pub homes : {p : Nonterminal} {w : Kinds} → ℕ → Phrase p w → List (Option ℕ)
homes i (more_items {a = a} d r) = homes i d ++ homes (i + length a) r
homes i (namespace_item {a = a} {p = p} {d = d} n q r) =
    alls None a ++ None ∷ (alls None p ++ None ∷ (alls (Some (i + length a)) d ++ None ∷ []))
homes {w = w} i _ = alls None w

-- Some kinds complete the front to a sentence, in which the first of them is an identifier that begins a path in this
-- role, inside the namespace whose word `namespace` is at this place, or in none.
abbrev pub StandsIn : Kinds → Role → Option ℕ → Type 0
StandsIn front role home = (more : Kinds) × (s : Sentence (front ++ more))
    × (slice_get (roles s) (length front) ≡ Some (Some role))
    × (slice_get (homes 0 s) (length front) ≡ Some home)
