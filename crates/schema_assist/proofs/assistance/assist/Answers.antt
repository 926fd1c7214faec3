use Rattle.std.proofs.Common.{ℕ, List, Contains, sym, subst}
use Rattle.std.specs.Prelude.{◌↔◌}
use Rattle.schema_syntax_tokens.specs.TokenLists.{kinds_of}
use Rattle.schema_assist_places.specs.Behind.{IsPlaceBehind}
use Rattle.schema_assist.specs.Assistance.{IsNameBehind}
use Rattle.schema_assist.proofs.assistance.assist.Goals as goal

pub names_behind-requires-clause-place : goal.names_behind-requires-clause-place
names_behind-requires-clause-place c =
    subst (λ ts. IsPlaceBehind (kinds_of ts) c.in_ok-partial.field-0.standing.place) (sym c.deref.ensures.value)
    c.in_ok-partial.ensures.standing.place

pub returns-clause-assistance : goal.returns-clause-assistance
returns-clause-assistance c =
    let read = c.in_ok-partial.field-0 in
    let told = c.in_ok-partial.ensures in
    record {
      front = read.front.items;
      before = told.front;
      expected = told.standing.expected;
      rising = c.in_ok-names.ensures.rising;
      names = subst (λ ts. (s : List ℕ) → (Contains c.in_ok-names.names.items s
          ↔ IsNameBehind c.args.text.now ts read.partial c.args.known.now c.args.table.now s)) c.deref.ensures.value
          c.in_ok-names.ensures.names;
    }
