-- Words with the same text are the same, and so are names with the same components and place.
use Rattle.std.specs.Prelude.{◌≡◌, true, false, List, [], ◌∷◌}
use Rattle.std.proofs.Math.Bool.{Bool-set}
use Rattle.std.proofs.Common.{refl, subst}
use Rattle.cedar_data.specs.declared.text.Text.{Text}
use Rattle.cedar_data.specs.Words.{is_word}
use Rattle.cedar_identifiers.specs.Words.{is_id, is_cedar}
use Rattle.cedar_identifiers.specs.Names.{components_of, has_cedar, texts_of}
use Rattle.cedar_identifiers.specs.declared.any_id.AnyId.{AnyId}
use Rattle.cedar_identifiers.specs.declared.id.Id.{Id}
use Rattle.cedar_identifiers.specs.declared.unreserved_id.UnreservedId.{UnreservedId}
use Rattle.cedar_identifiers.specs.declared.internal_name.InternalName.{InternalName}
use Rattle.cedar_identifiers.specs.declared.name.Name.{Name}

-- any words
any_id_from : (x y : Text) (e : x ≡ y) (p : is_word x ≡ true) (q : is_word y ≡ true)
    → (let a : AnyId = record { text = x; word = p } in a) ≡ (let b : AnyId = record { text = y; word = q } in b)
any_id_from x y e p q =
    let P : Text → Type 0 = λ z. (r : is_word z ≡ true)
    → (let a : AnyId = record { text = x; word = p } in a) ≡ (let b : AnyId = record { text = z; word = r } in b) in
    subst P e (λ r i. record { text = x; word = Bool-set _ _ p r i }) q

pub any_id_same : (a b : AnyId) → a.text ≡ b.text → a ≡ b
any_id_same a b e = any_id_from a.text b.text e a.word b.word

-- words that may stand in names
id_from : (x y : Text) (e : x ≡ y) (p : is_id x ≡ true) (q : is_id y ≡ true)
    → (let a : Id = record { text = x; word = p } in a) ≡ (let b : Id = record { text = y; word = q } in b)
id_from x y e p q =
    let P : Text → Type 0 = λ z. (r : is_id z ≡ true)
    → (let a : Id = record { text = x; word = p } in a) ≡ (let b : Id = record { text = z; word = r } in b) in
    subst P e (λ r i. record { text = x; word = Bool-set _ _ p r i }) q

pub id_same : (a b : Id) → a.text ≡ b.text → a ≡ b
id_same a b e = id_from a.text b.text e a.word b.word

pub ids_same : (is js : List Id) → texts_of is ≡ texts_of js → is ≡ js
ids_same [] [] e = refl
ids_same [] (j ∷ js) e = cc
ids_same (i ∷ is) [] e = cc
ids_same (i ∷ is) (j ∷ js) e =
    let first = id_same i j (cc) in
    let others = ids_same is js (cc) in
    λ k. first k ∷ others k

-- words that may stand in declared names
unreserved_from : (x y : Id) (e : x ≡ y) (p : is_cedar x.text ≡ false) (q : is_cedar y.text ≡ false)
    → (let a : UnreservedId = record { id = x; unreserved = p } in a)
    ≡ (let b : UnreservedId = record { id = y; unreserved = q } in b)
unreserved_from x y e p q =
    let P : Id → Type 0 = λ z. (r : is_cedar z.text ≡ false)
    → (let a : UnreservedId = record { id = x; unreserved = p } in a)
    ≡ (let b : UnreservedId = record { id = z; unreserved = r } in b) in
    subst P e (λ r i. record { id = x; unreserved = Bool-set _ _ p r i }) q

pub unreserved_id_is : (a b : UnreservedId) → a.id ≡ b.id → a ≡ b
unreserved_id_is a b e = unreserved_from a.id b.id e a.unreserved b.unreserved

pub unreserved_id_same : (a b : UnreservedId) → a.id.text ≡ b.id.text → a ≡ b
unreserved_id_same a b e = unreserved_id_is a b (id_same a.id b.id e)

-- names without `__cedar`
name_from : (x y : InternalName) (e : x ≡ y) (p : has_cedar (components_of x) ≡ false)
    (q : has_cedar (components_of y) ≡ false)
    → (let a : Name = record { name = x; unreserved = p } in a)
    ≡ (let b : Name = record { name = y; unreserved = q } in b)
name_from x y e p q =
    let P : InternalName → Type 0 = λ z. (r : has_cedar (components_of z) ≡ false)
    → (let a : Name = record { name = x; unreserved = p } in a)
    ≡ (let b : Name = record { name = z; unreserved = r } in b) in
    subst P e (λ r i. record { name = x; unreserved = Bool-set _ _ p r i }) q

pub name_same : (a b : Name) → a.name ≡ b.name → a ≡ b
name_same a b e = name_from a.name b.name e a.unreserved b.unreserved
