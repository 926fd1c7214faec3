-- What is meant is what a reference is resolved to.
use Rattle.std.proofs.Common.{◌≡◌, Bool, true, false, Option, Some, None, refl, sym, ap, ◌∙◌}
use Rattle.std.specs.Option.{option_map, unwrap_or}
use Rattle.std.specs.Prelude.{if◌then◌else◌}
use Rattle.cedar_data.specs.declared.loc.Loc.{Loc}
use Rattle.cedar_identifiers.specs.Names.{components_of}
use Rattle.cedar_identifiers.specs.declared.reference_type.ReferenceType.{ReferenceType}
use Rattle.cedar_identifiers.specs.declared.reference_type.ReferenceType.TheVariants.{Common, Entity}
use Rattle.cedar_identifiers.specs.declared.internal_name.InternalName.{InternalName}
use Rattle.cedar_identifiers.specs.declared.raw_name.RawName.{RawName}
use Rattle.schema_resolve_definitions.specs.Tests.{Tests}
use Rattle.schema_resolve.specs.Designated.{designated_reference}
use Rattle.schema_resolve_targets.specs.Meanings.{kind_there, means}
use Rattle.schema_resolve.specs.MeaningLaws.{reference_as, ResolvesAsItMeans}
use Rattle.schema_resolve_targets.specs.Qualified.{in_namespace}
use Rattle.schema_resolve.specs.References.{reference_to}
use Rattle.schema_resolve.specs.Resolved.{meant_name}
use Rattle.schema_resolve_targets.specs.Targets.{target}

-- a target with its kind
record Meant (t : Tests) (kind : ReferenceType) (o : Option InternalName)
    (meant : InternalName × ReferenceType) : Type 0 where
  target_is : o ≡ Some meant.0
  kind_is : meant.1 ≡ kind_there t kind meant.0

meant_of : (t : Tests) (kind : ReferenceType) (o : Option InternalName) (meant : InternalName × ReferenceType)
    → option_map (λ n. let m : InternalName × ReferenceType = (n, kind_there t kind n) in m) o ≡ Some meant
    → Meant t kind o meant
meant_of t kind None meant h = cc
meant_of t kind (Some n) meant h =
    let same = ap (λ o. unwrap_or o meant) h in
    record {
      target_is = ap (λ (m : InternalName × ReferenceType). Some m.0) same;
      kind_is = ap (λ (m : InternalName × ReferenceType). m.1) (sym same)
          ∙ ap (λ (m : InternalName × ReferenceType). kind_there t kind m.0) same;
    }

by_kind : (b : Bool) (n : InternalName) (loc : Option Loc)
    → reference_to b n loc ≡ reference_as (if b then Common else Entity) n loc
by_kind true n loc = refl
by_kind false n loc = refl

pub as_meant : (t : Tests) (ns : Option InternalName) (kind : ReferenceType) (name : RawName)
    (meant : InternalName × ReferenceType)
    → means t ns kind name ≡ Some meant → ResolvesAsItMeans t ns kind name meant
as_meant t ns kind name meant h =
    let m = meant_of t kind (target t (in_namespace ns kind name)) meant h in
    let name_is : meant_name t ns kind name ≡ meant.0 = ap (λ o. unwrap_or o name.name) m.target_is in
    record {
      name_is = name_is;
      reference_is = λ either loc.
          ap (λ k. designated_reference t (meant_name t ns k name) loc) (sym either)
          ∙ ap (λ n. designated_reference t n loc) name_is
          ∙ by_kind (t.is_common (components_of meant.0)) meant.0 loc
          ∙ ap (λ k. reference_as k meant.0 loc) (ap (λ k. kind_there t k meant.0) (sym either) ∙ sym m.kind_is);
    }
