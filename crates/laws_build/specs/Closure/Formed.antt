-- Fragments whose lists are in order, as those of a text or of JSON are: attributes rise, and an enum has a choice.
-- Nothing is asked of what an action applies to but that the attributes of its context rise.
use Rattle.std.specs.Prelude.{All, Option, Some, None}
use Rattle.cedar_identifiers.specs.declared.name_text.NameText as named
use Rattle.cedar_identifiers.specs.declared.raw_name.RawName.{RawName}
use Rattle.schema_json.specs.declared.action_type.ApplySpec.{ApplySpec}
use Rattle.schema_json.specs.declared.fragment.Fragment.{Fragment}
use Rattle.laws_build.specs.Closure.WellFormed.{Rises, IsKindFormed}

-- the attributes of a context rise, where one is written
abbrev pub ContextRises : Option (ApplySpec RawName) → Type 0
ContextRises None = Unit {0}
ContextRises (Some d) = Rises RawName d.context.0

module _ {G : named.Ghosts RawName} where
  -- the attributes of each record that is written in the fragment rise, and each enum has a choice
  pub record IsFormed (f : Fragment RawName G) : Type 0 where
    pub commons : All (λ e. All (λ c. Rises RawName c.1.ty) e.1.common_types) f.0
    pub entities : All (λ e. All (λ d. IsKindFormed d.1.kind) e.1.entity_types) f.0
    pub actions : All (λ e. All (λ a. ContextRises a.1.applies_to) e.1.actions) f.0
