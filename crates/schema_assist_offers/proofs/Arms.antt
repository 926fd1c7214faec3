-- How lists grow, by what is added.
use Rattle.std.proofs.Common.{◌≡◌, ℕ, true, false, List, [], ◌∷◌, ◌++◌, refl, sym, ap, ◌∙◌, subst, codes}
use Rattle.std.proofs.Common.{append-nil}
use Rattle.std.proofs.Common.{append_assoc}
use Rattle.std.specs.Prelude.{OnOk, Result, Ok, Err}
use Rattle.schema_resolve_lookup.specs.Sought.{is_some_list}
use Rattle.schema_assist_places.specs.declared.role.Role.{Role}
use Rattle.schema_assist_places.specs.declared.role.Role.TheVariants.{TypePath}
use Rattle.schema_assist_offers.specs.Offers.{kind_for}
use Rattle.schema_assist_offers.specs.Spellings.{Question, spelled, spelled_type}

-- what is added for a role
pub in_role : {E : Type 0} (r : Result (Unit {0}) E) (old new : List (List ℕ)) (f : Role → List (List ℕ))
    (role given : Role) → role ≡ given → OnOk r (new ≡ old ++ f given) → OnOk r (new ≡ old ++ f role)
in_role r old new f role given e h = subst (λ x. OnOk r (new ≡ old ++ f x)) (sym e) h

-- three lists are added in turn
pub three_added : {E : Type 0} (r : Result (Unit {0}) E) (old one two new xs ys zs : List (List ℕ)) → one ≡ old ++ xs
    → two ≡ one ++ ys → OnOk r (new ≡ two ++ zs) → OnOk r (new ≡ old ++ (xs ++ (ys ++ zs)))
three_added (Ok x) old one two new xs ys zs a b h =
    h ∙ ap (λ l. l ++ zs) (b ∙ ap (λ l. l ++ ys) a) ∙ append_assoc (old ++ xs) ys zs ∙ append_assoc old xs (ys ++ zs)
three_added (Err x) old one two new xs ys zs a b h = h

-- the type of actions, where there are any
type_there : {A : Type 0} (q : Question) (before : List (List ℕ)) (actions : List A) → is_some_list actions ≡ true
    → spelled_type q before actions ≡ spelled q (kind_for TypePath) before (codes "Action")
type_there q before [] h = cc
type_there q before (a ∷ actions) h = refl

pub type_added : {A E : Type 0} (r : Result (Unit {0}) E) (q : Question) (before : List (List ℕ)) (actions : List A)
    (old new : List (List ℕ)) → is_some_list actions ≡ true
    → OnOk r (new ≡ old ++ spelled q (kind_for TypePath) before (codes "Action"))
    → OnOk r (new ≡ old ++ spelled_type q before actions)
type_added r q before actions old new h added =
    subst (λ l. OnOk r (new ≡ old ++ l)) (sym (type_there q before actions h)) added

pub no_type : {A : Type 0} (q : Question) (before : List (List ℕ)) (actions : List A) (old : List (List ℕ))
    → is_some_list actions ≡ false → old ≡ old ++ spelled_type q before actions
no_type q before [] old h = sym (append-nil old)
no_type q before (a ∷ actions) old h = cc
