-- What a stack stands for, and that the machine accepts exactly that.
use Rattle.std.proofs.Common.{◌≡◌, List, [], ◌∷◌, ◌++◌, Bool, true, false, ◌&&◌, Option, Some, None, refl, sym, ap, ◌∙◌}
use Rattle.std.proofs.Common.{subst, append_assoc}
use Rattle.schema_syntax_grammar.specs.declared.token_kind.TokenKind.{TokenKind}
use Rattle.schema_syntax_grammar.specs.declared.symbol.Symbol.{Symbol}
use Rattle.schema_syntax_grammar.specs.Table.{after_front, is_nullable}
use Rattle.schema_syntax_grammar.specs.Machine.{advance, step, on_some, accepts}

-- the kinds are what the symbols stand for, in turn
pub data Forest : List Symbol → List TokenKind → Type 0 where
  nothing : Forest [] []
  skip : {x : Symbol} {s : List Symbol} {w : List TokenKind} → is_nullable x ≡ true → Forest s w → Forest (x ∷ s) w
  take : {x : Symbol} {k : TokenKind} {next s : List Symbol} {u v : List TokenKind} → after_front x k ≡ Some next
      → Forest next u → Forest s v → Forest (x ∷ s) (k ∷ (u ++ v))

-- a forest of two stacks is a forest of each
pub record Cut (a b : List Symbol) (w : List TokenKind) : Type 0 where
  pub left : List TokenKind
  pub right : List TokenKind
  pub joined : w ≡ left ++ right
  pub first : Forest a left
  pub second : Forest b right

cut : (a b : List Symbol) (w : List TokenKind) → Forest (a ++ b) w → Cut a b w
cut [] b w f = record { left = []; right = w; joined = refl; first = nothing; second = f }
cut (x ∷ a) b w (skip n f) = let c = cut a b w f in
    record { left = c.left; right = c.right; joined = c.joined; first = skip n c.first; second = c.second }
cut (x ∷ a) b w (take {k = k} {u = u} {v = v} g f h) =
    let c = cut a b v h in
    record {
      left = k ∷ (u ++ c.left);
      right = c.right;
      joined = ap (λ r. k ∷ (u ++ r)) c.joined
          ∙ ap (λ r. k ∷ r) (sym (append_assoc u c.left c.right));
      first = take g f c.first;
      second = c.second;
    }

-- a token, and then a forest of what comes after it and of the rest
pub takes : {x : Symbol} {k : TokenKind} {next s : List Symbol} {w : List TokenKind} → after_front x k ≡ Some next
    → Forest (next ++ s) w → Forest (x ∷ s) (k ∷ w)
takes {x = x} {k = k} {next = next} {s = s} {w = w} g f =
    let c = cut next s w f in
    subst (λ v. Forest (x ∷ s) (k ∷ v)) (sym c.joined) (take g c.first c.second)

-- the left part of a test
pub and_left : (a b : Bool) → a && b ≡ true → a ≡ true
and_left true b e = refl
and_left false b e = e

-- the right part of a test
pub and_right : (a b : Bool) → a && b ≡ true → b ≡ true
and_right true b e = e
and_right false b e = cc

-- what is accepted, by how the first symbol goes on
stands_at : (k : TokenKind) (w : List TokenKind) (x : Symbol) (s : List Symbol) (o : Option (List Symbol)) (n : Bool)
    → after_front x k ≡ o → is_nullable x ≡ n → ((t : List Symbol) → accepts t w ≡ true → Forest t w)
    → (accepts s (k ∷ w) ≡ true → Forest s (k ∷ w)) → on_some (advance o n s (step s k)) (λ t. accepts t w) ≡ true
    → Forest (x ∷ s) (k ∷ w)
stands_at k w x s (Some next) n g m later below h =
    takes g (later (next ++ s) h)
stands_at k w x s None true g m later below h = skip m (below h)
stands_at k w x s None false g m later below h = cc

-- what is accepted, the stack stands for
pub stands : (w : List TokenKind) (s : List Symbol) → accepts s w ≡ true → Forest s w
stands [] [] e = nothing
stands [] (x ∷ s) e = skip (and_left _ _ e) (stands [] s (and_right _ _ e))
stands (k ∷ w) [] e = cc
stands (k ∷ w) (x ∷ s) e = stands_at k w x s (after_front x k) (is_nullable x) refl refl (λ t h. stands w t h)
    (λ h. stands (k ∷ w) s h) e
