-- References to actions with the same id and the same type are the same.
use Rattle.std.specs.Prelude.{◌≡◌, true, Option}
use Rattle.std.proofs.Math.Bool.{Bool-set}
use Rattle.std.proofs.Common.{subst}
use Rattle.cedar_data.specs.declared.text.Text.{Text}
use Rattle.cedar_identifiers.specs.declared.name_text.NameText as named
use Rattle.schema_json.specs.Presence.{is_where_due}
use Rattle.schema_json.specs.declared.action_type.ActionEntityUID.{ActionEntityUID}

module _ (N : Type 0) (G : named.Ghosts N) where
  action_from : (x y : Text) (s t : Option N) (same : x ≡ y) (e : s ≡ t) (p : is_where_due G.TYPED s ≡ true)
      (q : is_where_due G.TYPED t ≡ true)
      → (let a : ActionEntityUID N G = record { id = x; ty = s; typed = p } in a)
      ≡ (let b : ActionEntityUID N G = record { id = y; ty = t; typed = q } in b)
  action_from x y s t same e p q =
      let P : Option N → Type 0 = λ z. (r : is_where_due G.TYPED z ≡ true)
      → (let a : ActionEntityUID N G = record { id = x; ty = s; typed = p } in a)
      ≡ (let b : ActionEntityUID N G = record { id = y; ty = z; typed = r } in b) in
      subst P e (λ r i. record { id = same i; ty = s; typed = Bool-set _ _ p r i }) q

  pub action_same : (a b : ActionEntityUID N G) → a.id ≡ b.id → a.ty ≡ b.ty → a ≡ b
  action_same a b same e = action_from a.id b.id a.ty b.ty same e a.typed b.typed
