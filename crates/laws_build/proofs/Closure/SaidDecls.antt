-- Declarations that say what is written are well formed.
use Rattle.std.proofs.Common.{◌≡◌, ℕ, Bool, true, false, ◌||◌, List, [], ◌∷◌, map, Option, Some, None, is_some, refl}
use Rattle.std.proofs.Common.{sym, subst, true≢false}
use Rattle.std.specs.Prelude.{if◌then◌else◌}
use Rattle.std.specs.List.{AllByRecursion, filter_map, list_any}
use Rattle.std.specs.Option.{option_or, unwrap_or}
use Rattle.cedar_data.specs.Maps.{last_at}
use Rattle.cedar_identifiers.specs.declared.eid.Eid.{Eid}
use Rattle.cedar_identifiers.specs.declared.raw_name.RawName.{RawName}
use Rattle.schema_syntax_tree.specs.declared.pr.PR.{PR}
use Rattle.schema_syntax_tree.specs.declared.pr.PR.TheVariants.{Principal, Resource}
use Rattle.schema_json.specs.Shapes.{is_empty_type}
use Rattle.schema_json.specs.declared.types.Type.{«Type»}
use Rattle.schema_json.specs.declared.action_type.ActionEntityUID.{ActionEntityUID}
use Rattle.schema_json.specs.declared.action_type.ApplySpec.{ApplySpec}
use Rattle.schema_json.specs.declared.entity_type.EntityTypeKind.{EntityTypeKind}
use Rattle.schema_json.specs.declared.entity_type.EntityTypeKind.TheVariants.{Standard, Enum}
use Rattle.schema_json.specs.AsWritten.{as_written}
use Rattle.laws_written.specs.PrintedDecls.{IsSome}
use Rattle.laws_written.specs.Written.{WrittenType, no_more, rec, WrittenMember, types, context_path}
use Rattle.laws_written.specs.Written.{context_record}
use Rattle.laws_written.specs.Written.{WrittenDecl, entity, enum, external_entity, action, external_action, common}
use Rattle.schema_convert_faults.specs.Members.{is_same_role}
use Rattle.laws_translate.specs.DeclarationsSay.{written_paths, TagsSay, KindSays, CommonIs, role_and_types, types_in}
use Rattle.laws_translate.specs.DeclarationsSay.{ContextOr, SpecSays, members_said, AppliesSay}
use Rattle.laws_translate.specs.Sayable.{has_role, IsFilledMember, HasLawfulMembers, AppliesWell}
use Rattle.laws_build.specs.Closure.Chosen.{IsChosenDecl}
use Rattle.laws_build.specs.Closure.WellFormed.{Rises, TagsRise, IsKindFormed, AreRolesFormed, IsSpecFormed}
use Rattle.laws_build.proofs.Closure.SaidTypes.{said_rises, common_rises, nothing_said}

tags_said : (tags : Option («Type» RawName)) (t : Option WrittenType) → TagsSay tags t → TagsRise tags
tags_said None None h = tt
tags_said (Some s) (Some t) h = said_rises s t h
tags_said None (Some t) h = absurd h
tags_said (Some s) None h = absurd h

tags_absent : (tags : Option («Type» RawName)) → tags ≡ None → TagsRise tags
tags_absent tags e = subst TagsRise (sym e) tt

some_ids : (ids : List Eid) → IsSome (map (λ c. c.0) ids) → IsSome ids
some_ids [] h = h
some_ids (x ∷ xs) h = tt

pub kind_said : (external : Bool) (kind : EntityTypeKind RawName) (d : WrittenDecl) → IsChosenDecl d
    → KindSays external kind d → IsKindFormed kind
kind_said external (Standard e) (entity names parents xs tags) c h =
    (said_rises e.shape.0 (rec xs) h.2, tags_said e.tags tags h.3)
kind_said external (Standard e) (external_entity names parents) c h =
    (said_rises e.shape.0 (rec no_more) h.2, tags_absent e.tags h.3)
kind_said external (Standard e) (enum names choices) c h = absurd h
kind_said external (Standard e) (action names refs members) c h = absurd h
kind_said external (Standard e) (external_action names refs) c h = absurd h
kind_said external (Standard e) (common name t) c h = absurd h
kind_said external (Enum ids) (enum names choices) c h = some_ids ids (subst IsSome (sym h.1) c)
kind_said external (Enum ids) (entity names parents xs tags) c h = absurd h
kind_said external (Enum ids) (external_entity names parents) c h = absurd h
kind_said external (Enum ids) (action names refs members) c h = absurd h
kind_said external (Enum ids) (external_action names refs) c h = absurd h
kind_said external (Enum ids) (common name t) c h = absurd h

pub common_said : (s : «Type» RawName) (d : WrittenDecl) → CommonIs s d → Rises RawName s
common_said s (common name t) h = said_rises s t h
common_said s (entity names parents xs tags) h = absurd h
common_said s (external_entity names parents) h = absurd h
common_said s (enum names choices) h = absurd h
common_said s (action names refs members) h = absurd h
common_said s (external_action names refs) h = absurd h

-- the context that is said rises
context_said : (s : «Type» RawName) (ms : List WrittenMember) (Else : Type 0) → (Else → Rises RawName s)
    → ContextOr Else s ms → Rises RawName s
context_said s [] Else f h = f h
context_said s (types role paths ∷ ms) Else f h = context_said s ms Else f h
context_said s (context_path p ∷ ms) Else f h =
    context_said s ms _ (λ (name, loc, e, same). common_rises s name loc e) h
context_said s (context_record xs ∷ ms) Else f h = context_said s ms _ (said_rises s (rec xs)) h

-- the types of a role that a lawful block has
abbrev IsFilledFound : Option (List (List (List ℕ))) → Type 0
IsFilledFound None = Unit {0}
IsFilledFound (Some paths) = IsSome paths

some_found : (o : Option (List (List (List ℕ)))) → is_some o ≡ true → IsFilledFound o → IsSome (unwrap_or o [])
some_found None e h = absurd (true≢false (sym e))
some_found (Some paths) e h = h

module _ (role : PR) where
  abbrev last : List WrittenMember → Option (List (List (List ℕ)))
  last ms = last_at (is_same_role role) (filter_map role_and_types ms)

  behind_filled : (o : Option (List (List (List ℕ)))) (b : Bool) (paths : List (List (List ℕ))) → IsFilledFound o
      → IsSome paths → IsFilledFound (option_or o (if b then Some paths else None))
  behind_filled (Some found) b paths h k = h
  behind_filled None true paths h k = k
  behind_filled None false paths h k = tt

  last_filled : (ms : List WrittenMember) → AllByRecursion IsFilledMember ms → IsFilledFound (last ms)
  last_filled [] h = tt
  last_filled (types r paths ∷ ms) h =
      behind_filled (last ms) (is_same_role role r) paths (last_filled ms h.1) h.0
  last_filled (context_path p ∷ ms) h = last_filled ms h.1
  last_filled (context_record xs ∷ ms) h = last_filled ms h.1

  behind_some : (o : Option (List (List (List ℕ)))) (b c : Bool) (paths : List (List (List ℕ))) → (b || c) ≡ true
      → (c ≡ true → is_some o ≡ true) → is_some (option_or o (if b then Some paths else None)) ≡ true
  behind_some (Some found) b c paths e f = refl
  behind_some None true c paths e f = refl
  behind_some None false c paths e f = f e

  last_some : (ms : List WrittenMember) → list_any (has_role role) ms ≡ true → is_some (last ms) ≡ true
  last_some [] e = absurd (true≢false (sym e))
  last_some (types r paths ∷ ms) e =
      behind_some (last ms) (is_same_role role r) (list_any (has_role role) ms) paths e (last_some ms)
  last_some (context_path p ∷ ms) e = last_some ms e
  last_some (context_record xs ∷ ms) e = last_some ms e

  types_some : (ms : List WrittenMember) → list_any (has_role role) ms ≡ true → AllByRecursion IsFilledMember ms
      → IsSome (types_in role ms)
  types_some ms e h = some_found (last ms) (last_some ms e) (last_filled ms h)

no_paths : (names : List RawName) → written_paths names ≡ [] → names ≡ []
no_paths [] e = refl
no_paths (n ∷ ns) e = absurd (cc)

some_paths : (names : List RawName) → IsSome (written_paths names) → IsSome names
some_paths [] h = h
some_paths (n ∷ ns) h = tt

both_roles : (names others : List RawName) (s : «Type» RawName) → IsSome names → IsSome others
    → AreRolesFormed names others s
both_roles [] others s h k = absurd h
both_roles (n ∷ ns) [] s h k = absurd k
both_roles (n ∷ ns) (x ∷ xs) s h k = tt

neither_role : (names others : List RawName) (s : «Type» RawName) → names ≡ [] → others ≡ []
    → is_empty_type s ≡ true → AreRolesFormed names others s
neither_role [] [] s h k e = e
neither_role [] (x ∷ xs) s h k e = absurd (cc)
neither_role (n ∷ ns) others s h k e = absurd (cc)

block_said : (d : ApplySpec RawName) (members : Option (List WrittenMember)) → HasLawfulMembers members
    → SpecSays d (members_said members) → IsSpecFormed (Some d)
block_said d None lawful h = (
  neither_role d.principal_types d.resource_types d.context.0 (no_paths d.principal_types h.0)
      (no_paths d.resource_types h.1) (nothing_said d.context.0 h.2),
  said_rises d.context.0 (rec no_more) h.2,
)
block_said d (Some ms) lawful h = (
  both_roles d.principal_types d.resource_types d.context.0
      (some_paths d.principal_types
      (subst IsSome (sym h.0) (types_some Principal ms lawful.principals lawful.filled)))
      (some_paths d.resource_types
      (subst IsSome (sym h.1) (types_some Resource ms lawful.resources lawful.filled))),
  context_said d.context.0 ms _ (said_rises d.context.0 (rec no_more)) h.2,
)

pub spec_said : (external : Bool) (applies : Option (ApplySpec RawName))
    (parents : Option (List (ActionEntityUID RawName as_written))) (d : WrittenDecl) → AppliesWell d
    → AppliesSay external applies parents d → IsSpecFormed applies
spec_said external None parents d lawful h = tt
spec_said external (Some spec) parents (action names refs members) lawful h = block_said spec members lawful h.2
spec_said external (Some spec) parents (external_action names refs) lawful h = absurd h
spec_said external (Some spec) parents (entity names above xs tags) lawful h = absurd h
spec_said external (Some spec) parents (external_entity names above) lawful h = absurd h
spec_said external (Some spec) parents (enum names choices) lawful h = absurd h
spec_said external (Some spec) parents (common name t) lawful h = absurd h
