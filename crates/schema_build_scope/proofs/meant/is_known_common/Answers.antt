use Rattle.std.proofs.Common.{◌≡◌, ◌∙◌, sym, subst, Some}
use Rattle.cedar_identifiers.specs.Names.{components_of}
use Rattle.schema_resolve_definitions.specs.Tests.{tests_of}
use Rattle.schema_resolve_targets.specs.Tried.{kind_found}
use Rattle.schema_resolve_targets.proofs.Candidates.{either_told}
use Rattle.schema_build_scope.proofs.Meanings.{known_common, known_entity}
use Rattle.schema_build_scope.proofs.meant.is_known_common.Goals as goal

pub returns-in-Common : goal.returns-in-Common
returns-in-Common c = λ b h.
    let t = tests_of c.args.defs.now in
    let n = components_of c.args.name.now in
    known_common t n b (subst (λ k. kind_found t k n ≡ Some b) c.in-Common.is h)

pub returns-in-Entity : goal.returns-in-Entity
returns-in-Entity c = λ b h.
    let t = tests_of c.args.defs.now in
    let n = components_of c.args.name.now in
    known_entity t n b (subst (λ k. kind_found t k n ≡ Some b) c.in-Entity.is h)

pub returns-in-CommonOrEntity : goal.returns-in-CommonOrEntity
returns-in-CommonOrEntity c = λ b h.
    let t = tests_of c.args.defs.now in
    let n = components_of c.args.name.now in
    c.is_defined_as_common.ensures
    ∙ sym (either_told t n b (subst (λ k. kind_found t k n ≡ Some b) c.in-CommonOrEntity.is h))
