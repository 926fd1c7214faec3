-- Bytes that are two messages.
use Rattle.std.proofs.Common.{◌≡◌, ℕ, List, [], ◌∷◌, sym, subst}
use Rattle.cedar_messages.specs.Messages.{BeginsWith, AreMessages, none, next}

-- what two messages begin with
pub two_begin : (bytes old new : List ℕ) → AreMessages bytes (old ∷ new ∷ [])
    → (rest : List ℕ) × BeginsWith bytes old rest × BeginsWith rest new []
two_begin bytes old new (next _ _ rest _ h (next _ _ more _ k none)) = (rest, h, k)

pub two_messages_are : (bytes old rest new more : List ℕ) → BeginsWith bytes old rest → BeginsWith rest new more
    → more ≡ [] → AreMessages bytes (old ∷ new ∷ [])
two_messages_are bytes old rest new more h k e =
    next bytes old rest (new ∷ []) h (next rest new more [] k (subst (λ m. AreMessages m []) (sym e) none))
