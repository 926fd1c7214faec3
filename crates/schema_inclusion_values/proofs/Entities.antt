-- Entities that are lost.
use Rattle.std.proofs.Common.{◌≡◌, Bool, true, false, cond, List, [], ◌∷◌, Option, Some, None, refl, sym, subst}
use Rattle.std.specs.Prelude.{⊤, MatchOption, option_map}
use Rattle.std.specs.List.{find}
use Rattle.std.specs.Cmp.{IsTotalOrder}
use Rattle.std.specs.Cmp.Lexicographic.{lists_total}
use Rattle.cedar_names.specs.Definitions.{same_name}
use Rattle.cedar_names.proofs.Defined.{equal_names, name_itself}
use Rattle.cedar_names.specs.Meaning.{PlainType, no_more, EntityMeaning, SchemaMeaning}
use Rattle.schema_inclusion_values.specs.Values.{Text, Name, Val, Entries, no_entries, entry, AllEntries, Has}
use Rattle.schema_inclusion_values.specs.Values as values
use Rattle.schema_inclusion_values.specs.Ids.{AnyOf, TakesId, Fits, HasChoices, has_text, first_id, some_id, lost_id}
use Rattle.schema_inclusion_values.specs.Admits.{EntityValue, HasTags, HasParents, IsEntityOf, Admits, an_entity}
use Rattle.schema_inclusion_values.specs.Admits.{name_order}
use Rattle.schema_inclusion_values.specs.Whole.{HasParts, IsWholeEntity, IsWhole, entity_name}
use Rattle.schema_inclusion_values.specs.Lost.{or_else, lost_entries, lost_tags, lost_parent, first_refused, with_id}
use Rattle.schema_inclusion_values.specs.Lost.{lost_entity_between, lost_entity_to, lost_entity}
use Rattle.schema_inclusion_values.proofs.Values.{text_total, has_some}
use Rattle.schema_inclusion_values.proofs.Ids.{id_lost, some_taken, not_had}
use Rattle.schema_inclusion_values.proofs.Lost.{Finds, formed, entries_lost, tags_lost, parents_lost}
use Rattle.schema_inclusion_values.proofs.Walks.{Stands, stands}

pub name_total : IsTotalOrder name_order
name_total = lists_total text_total

-- an entity as a standard type has it, with the id of an enum
record IsLike (m : SchemaMeaning) (e : EntityMeaning) (choices : Option (List Text)) (x : EntityValue) : Type 0 where
  id : TakesId choices x.id
  attributes : Has (Fits m) (PlainType.Rec e.attributes) (values.Rec x.attributes)
  tags : HasTags m e.tags x.tags
  parents : HasParents m e.ancestors x.parents

module _ (m : SchemaMeaning) (e : EntityMeaning) (x : EntityValue) where
  nothing_had : (es : Entries) → Has (Fits m) (PlainType.Rec no_more) (values.Rec es) → es ≡ no_entries
  nothing_had no_entries h = refl
  nothing_had (entry n v es) h = absurd h.1.0

  no_parents : (ps : List (Name × Text)) → HasParents m [] ps → ps ≡ []
  no_parents [] h = refl
  no_parents (p ∷ ps) h = absurd h.0.0

  alike : (external : Bool) (choices : Option (List Text)) → HasParts choices e → IsEntityOf m e external choices x
      → (external ≡ false) × IsLike m e choices x
  alike true choices parts h = absurd h
  alike false None parts h = (refl, record { id = tt; attributes = h.0; tags = h.1; parents = h.2 })
  alike false (Some cs) parts h = (
    refl,
    record {
      id = h.0;
      attributes = subst (λ fs. Has (Fits m) (PlainType.Rec fs) (values.Rec x.attributes)) (sym parts.0)
          (subst (λ es. Has (Fits m) (PlainType.Rec no_more) (values.Rec es)) (sym h.1) (tt, tt, tt));
      tags = subst (λ t. HasTags m t x.tags) (sym parts.1) h.2;
      parents = subst (λ ps. HasParents m e.ancestors ps) (sym h.3) tt;
    },
  )

  of_kind : (external : Bool) (choices : Option (List Text)) → HasParts choices e → external ≡ false
      → IsLike m e choices x → IsEntityOf m e external choices x
  of_kind true choices parts q h = absurd (cc)
  of_kind false None parts q h = (h.attributes, h.tags, h.parents)
  of_kind false (Some cs) parts q h = (
    h.id,
    nothing_had x.attributes (subst (λ fs. Has (Fits m) (PlainType.Rec fs) (values.Rec x.attributes)) parts.0
        h.attributes),
    subst (λ t. HasTags m t x.tags) parts.1 h.tags,
    no_parents x.parents (subst (λ a. HasParents m a x.parents) parts.2 h.parents),
  )

no_tags : (m : SchemaMeaning) (t : Option PlainType) → HasTags m t no_entries
no_tags m None = refl
no_tags m (Some t) = (tt, tt)

abbrev FindsFirst : Text → Option (List Text) → Option Text → Type 0
FindsFirst d choices found = MatchOption found ⊤ (λ id. (d ≡ id) × (TakesId choices id → ⊥))

refused_first : (d : Text) (cs : List Text) (b : Bool) → has_text cs d ≡ b
    → FindsFirst d (Some cs) (cond b None (Some d))
refused_first d cs true e = tt
refused_first d cs false e = (refl, not_had cs d e)

finds_first : (d : Text) (choices : Option (List Text)) → FindsFirst d choices (first_refused d choices)
finds_first d None = tt
finds_first d (Some cs) = refused_first d cs (has_text cs d) refl

module _ (old new : SchemaMeaning) (full : HasChoices old) (o : EntityMeaning) (wo : IsWholeEntity old o) where
  default : Text
  default = first_id o.choices

  some_like : (id : Text) → TakesId o.choices id → IsLike old o o.choices (with_id old new o id)
  some_like id h = record {
    id = h;
    attributes = has_some (Fits old) (some_id old) (PlainType.Rec o.attributes)
        (formed old (PlainType.Rec o.attributes) full wo.attributes.0 wo.attributes.1);
    tags = no_tags old o.tags;
    parents = tt;
  }

  abbrev Like : EntityValue → Type 0
  Like x = (o.name ≡ x.ty) × IsLike old o o.choices x

  -- the parts: an id that goes first, attributes, tags, parents and an id
  between : (n : EntityMeaning) (d : Text) (f : Option Text) (a t : Option Entries) (p : Option (Name × Text))
      (i : Option Text) → TakesId o.choices d
      → FindsFirst d n.choices f
      → Finds (λ es. Has (Fits old) (PlainType.Rec o.attributes) (values.Rec es))
      (λ es. Has (Fits new) (PlainType.Rec n.attributes) (values.Rec es)) a
      → Finds (HasTags old o.tags) (HasTags new n.tags) t
      → Finds (HasParents old o.ancestors) (HasParents new n.ancestors) (option_map (λ p. p ∷ []) p)
      → Finds (TakesId o.choices) (TakesId n.choices) i
      → Finds Like (IsLike new n n.choices)
      (or_else (option_map (λ id. with_id old new o id) f)
      (or_else (option_map (λ es. record (with_id old new o d) { attributes = es }) a)
      (or_else (option_map (λ es. record (with_id old new o d) { tags = es }) t)
      (or_else (option_map (λ p. record (with_id old new o d) { parents = p ∷ [] }) p)
      (option_map (λ id. with_id old new o id) i)))))
  between n d (Some id) a t p i has hf ha ht hp hi = (
    (refl, some_like id (subst (TakesId o.choices) hf.0 has)),
    λ g.
        hf.1 g.id,
  )
  between n d None (Some es) t p i has hf ha ht hp hi = (
    (
      refl,
      record {
        id = has;
        attributes = ha.0;
        tags = (some_like d has).tags;
        parents = (some_like d has).parents;
      },
    ),
    λ g. ha.1 g.attributes,
  )
  between n d None None (Some ts) p i has hf ha ht hp hi = (
    (
      refl,
      record {
        id = has;
        attributes = (some_like d has).attributes;
        tags = ht.0;
        parents = (some_like d has).parents;
      },
    ),
    λ g. ht.1 g.tags,
  )
  between n d None None None (Some q) i has hf ha ht hp hi = (
    (
      refl,
      record {
        id = has;
        attributes = (some_like d has).attributes;
        tags = (some_like d has).tags;
        parents = hp.0;
      },
    ),
    λ g. hp.1 g.parents,
  )
  between n d None None None None (Some id) has hf ha ht hp hi = ((refl, some_like id hi.0), λ g. hi.1 g.id)
  between n d None None None None None has hf ha ht hp hi = λ x h. record {
    id = hi x.id h.1.id;
    attributes = ha x.attributes h.1.attributes;
    tags = ht x.tags h.1.tags;
    parents = hp x.parents h.1.parents;
  }

  between_types : (n : EntityMeaning) → IsWholeEntity new n
      → Finds Like (IsLike new n n.choices) (lost_entity_between old new o n)
  between_types n wn = between n (first_id o.choices) (first_refused (first_id o.choices) n.choices)
      (lost_entries old new o.attributes n.attributes) (lost_tags old new o.tags n.tags)
      (lost_parent old new o.ancestors n.ancestors) (lost_id o.choices n.choices)
      (some_taken o.choices wo.choices)
      (finds_first (first_id o.choices) n.choices)
      (entries_lost old new full o.attributes n.attributes wo.attributes wn.attributes.0)
      (tags_lost old new full o.tags n.tags wo.tags wn.tags)
      (parents_lost old new full o.ancestors n.ancestors wo.ancestors)
      (id_lost o.choices n.choices)

  abbrev New : EntityValue → EntityMeaning → Type 0
  New x n = IsEntityOf new n n.is_external n.choices x

  abbrev Old : EntityValue → Type 0
  Old x = IsEntityOf old o o.is_external o.choices x

  abbrev Found : EntityValue → Option EntityMeaning → Type 0
  Found x = Stands name_order name_total entity_name same_name equal_names name_itself (New x)
      (IsWholeEntity new) o.name new.entities

  abbrev EntityLost : Option EntityValue → Type 0
  EntityLost found = MatchOption found ((x : EntityValue) → o.name ≡ x.ty → Old x → Admits new (an_entity x))
      (λ x. (o.name ≡ x.ty) × Old x × (Admits new (an_entity x) → ⊥))

  abbrev AtName : EntityValue → Name → Type 0
  AtName x ty = AnyOf (λ e. (e.name ≡ ty) × New x e) new.entities

  some_old : o.is_external ≡ false → Old (with_id old new o (first_id o.choices))
  some_old own = of_kind old o (with_id old new o (first_id o.choices)) o.is_external o.choices wo.parts own
      (some_like (first_id o.choices) (some_taken o.choices wo.choices))

  no_new : (x : EntityValue) (n : EntityMeaning) (b : Bool) → b ≡ true → IsEntityOf new n b n.choices x → ⊥
  no_new x n true e h = h
  no_new x n false e h = absurd (cc)

  lost_between : (n : EntityMeaning) (r : Option EntityValue) → IsWholeEntity new n → n.is_external ≡ false
      → ((x : EntityValue) → Found x (Some n)) → Finds Like (IsLike new n n.choices) r → o.is_external ≡ false
      → EntityLost r
  lost_between n None wn new_own at h own = λ x e was.
      subst (AtName x) e ((at x).2 (of_kind new n x n.is_external n.choices wn.parts new_own
      (h x (e, (alike old o x o.is_external o.choices wo.parts was).1))))
  lost_between n (Some x) wn new_own at h own = (
    h.0.0,
    of_kind old o x o.is_external o.choices wo.parts own h.0.1,
    λ g. h.1 (alike new n x n.is_external n.choices wn.parts ((at x).3 (subst (AtName x) (sym h.0.0) g))).1,
  )

  lost_to : (n : EntityMeaning) (b : Bool) → n.is_external ≡ b → ((x : EntityValue) → Found x (Some n))
      → o.is_external ≡ false
      → EntityLost (cond b (Some (with_id old new o (first_id o.choices))) (lost_entity_between old new o n))
  lost_to n true e at own = (
    refl,
    some_old own,
    λ g. no_new (with_id old new o (first_id o.choices)) n n.is_external e
        ((at (with_id old new o (first_id o.choices))).3 g),
  )
  lost_to n false e at own = let wn = (at (with_id old new o (first_id o.choices))).1 in lost_between n
      (lost_entity_between old new o n) wn e at (between_types n wn) own

  lost_found : (found : Option EntityMeaning) → ((x : EntityValue) → Found x found) → o.is_external ≡ false
      → EntityLost (lost_entity_to old new o found)
  lost_found None at own = (refl, some_old own, λ g. at (with_id old new o (first_id o.choices)) g)
  lost_found (Some n) at own = lost_to n n.is_external refl at own

  nothing_external : (b : Bool) → b ≡ true → (x : EntityValue) → IsEntityOf old o b o.choices x → ⊥
  nothing_external true e x h = h
  nothing_external false e x h = absurd (cc)

  own_or_not : (b : Bool) (found : Option EntityMeaning) → o.is_external ≡ b → ((x : EntityValue) → Found x found)
      → EntityLost (cond b None (lost_entity_to old new o found))
  own_or_not true found e at = λ x q was. absurd (nothing_external o.is_external e x was)
  own_or_not false found e at = lost_found found at e

  pub entity_lost : IsWhole new → EntityLost (lost_entity old new o)
  entity_lost wn = own_or_not o.is_external (find (λ e. same_name e.name o.name) new.entities) refl
      (λ x. stands name_order name_total entity_name same_name equal_names name_itself (New x)
      (IsWholeEntity new) o.name new.entities wn.entities_rise wn.entities)
