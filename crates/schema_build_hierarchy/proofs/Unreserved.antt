-- Names without the component `__cedar`.
use Rattle.std.proofs.Common.{◌≡◌, Bool, true, false, ◌∷◌, Option, Some, None, ap, ◌∙◌}
use Rattle.std.specs.Prelude.{if◌then◌else◌}
use Rattle.std.proofs.lemmas.List.{map-append}
use Rattle.std.proofs.lemmas.List.Folds.{list_any-append}
use Rattle.std.proofs.lemmas.Bool.{or_from}
use Rattle.cedar_identifiers.specs.Candidates.{is_unqualified, qualified, behind}
use Rattle.cedar_identifiers.specs.Names.{components_of, has_cedar}
use Rattle.cedar_identifiers.specs.Words.{is_cedar}
use Rattle.cedar_identifiers.specs.declared.internal_name.InternalName.{InternalName}
use Rattle.cedar_identifiers.specs.declared.name.Name.{Name}
use Rattle.schema_resolve_definitions.specs.Declarations.{name_of}

module _ (n : Name) (w : InternalName) (free : has_cedar (components_of w) ≡ false) where
  behind_free : has_cedar (components_of (behind n.name w)) ≡ false
  behind_free =
      ap has_cedar (map-append (λ i. i.text) (n.name.first ∷ n.name.others) (w.first ∷ w.others))
      ∙ list_any-append is_cedar (components_of n.name) (components_of w)
      ∙ or_from (has_cedar (components_of n.name)) (has_cedar (components_of w)) n.unreserved free

  choice : (b : Bool) → has_cedar (components_of (if b then behind n.name w else w)) ≡ false
  choice true = behind_free
  choice false = free

-- a name behind a namespace has it only if the name has it
pub unreserved_qualified : (ns : Option Name) (w : InternalName) → has_cedar (components_of w) ≡ false
    → has_cedar (components_of (qualified (name_of ns) w)) ≡ false
unreserved_qualified None w free = free
unreserved_qualified (Some n) w free = choice n w free (is_unqualified w)
