-- Names that may be declared, found by a test.
use Rattle.std.proofs.Common.{◌≡◌, Bool, true, false, Option, Some, None, refl, ap, ◌∙◌}
use Rattle.std.specs.Option.{MatchOption}
use Rattle.cedar_identifiers.specs.Names.{components_of, has_cedar}
use Rattle.cedar_identifiers.proofs.Same.{name_same, unreserved_id_is}
use Rattle.cedar_identifiers.specs.Words.{is_cedar}
use Rattle.cedar_identifiers.specs.declared.id.Id.{Id}
use Rattle.cedar_identifiers.specs.declared.internal_name.InternalName.{InternalName}
use Rattle.cedar_identifiers.specs.declared.name.Name.{Name}
use Rattle.cedar_identifiers.specs.declared.unreserved_id.UnreservedId.{UnreservedId}
use Rattle.schema_convert_fragments.specs.Declarations.{unreserved, unreserved_so}
use Rattle.schema_convert_fragments.specs.Fragments.{declarable_name, declarable_name_so}

no_id : (id : Id) (b : Bool) (e : is_cedar id.text ≡ b) → b ≡ true → None ≡ unreserved_so id b e
no_id id true e h = refl
no_id id false e h = cc

some_id : (id : Id) (u : UnreservedId) → u.id ≡ id → (b : Bool) (e : is_cedar id.text ≡ b)
    → Some u ≡ unreserved_so id b e
some_id id u h true e = let f : is_cedar u.id.text ≡ true = ap (λ i. is_cedar i.text) h
    ∙ e in absurd (cc (u.unreserved))
some_id id u h false e = ap Some (unreserved_id_is u (record { id = id; unreserved = e }) h)

pub unreserved_is : (id : Id) (r : Option UnreservedId) → MatchOption r (is_cedar id.text ≡ true) (λ u. u.id ≡ id)
    → r ≡ unreserved id
unreserved_is id None h = no_id id (is_cedar id.text) refl h
unreserved_is id (Some u) h = some_id id u h (is_cedar id.text) refl

no_name : (name : InternalName) (b : Bool) (e : has_cedar (components_of name) ≡ b) → b ≡ true
    → None ≡ declarable_name_so name b e
no_name name true e h = refl
no_name name false e h = cc

some_name : (name : InternalName) (d : Name) → d.name ≡ name → (b : Bool) (e : has_cedar (components_of name) ≡ b)
    → Some d ≡ declarable_name_so name b e
some_name name d h true e = let f : has_cedar (components_of d.name) ≡ true = ap (λ n. has_cedar (components_of n)) h
    ∙ e in absurd (cc (d.unreserved))
some_name name d h false e = ap Some (name_same d (record { name = name; unreserved = e }) h)

pub declared_is : (name : InternalName) (r : Option Name)
    → MatchOption r (has_cedar (components_of name) ≡ true) (λ d. d.name ≡ name) → r ≡ declarable_name name
declared_is name None h = no_name name (has_cedar (components_of name)) refl h
declared_is name (Some d) h = some_name name d h (has_cedar (components_of name)) refl
