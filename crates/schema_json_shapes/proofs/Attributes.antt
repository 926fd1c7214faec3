-- The attributes of a record, one after another.
use Rattle.std.proofs.Common.{◌≡◌, ℕ, Bool, List, [], ◌∷◌, ◌++◌, sym, ap, ◌∙◌, subst, append_assoc, append-nil}
use Rattle.std.specs.Str.{chars}
use Rattle.serde_json.specs.Data.{Data, null, boolean, number, string, array, object, Members, no_members, member}
use Rattle.serde_json.specs.View.{members_view}
use Rattle.serde_json.proofs.Views.{Entry}
use Rattle.cedar_identifiers.specs.declared.annotations.Annotations.{Annotations}
use Rattle.cedar_identifiers.specs.declared.raw_name.RawName.{RawName}
use Rattle.schema_json.specs.declared.types.Type.{«Type»}
use Rattle.schema_json.specs.declared.types.TypeOfAttribute.{TypeOfAttribute, roll-TypeOfAttribute}
use Rattle.schema_json_shapes.specs.Said.{AreAttributes, no_attribute, next_attribute, SaysTyped}

abbrev pub AttributeEntry : Type 0
AttributeEntry = List ℕ × TypeOfAttribute RawName

abbrev pub FoundAttributes : Members → Members → List AttributeEntry → Type 0
FoundAttributes left all found = (es : List AttributeEntry) → AreAttributes left es → AreAttributes all (found ++ es)

pub no_attribute_found : (ls fs : List Entry) (found : List AttributeEntry) → ls ≡ fs → found ≡ []
    → FoundAttributes (members_view ls) (members_view fs) found
no_attribute_found ls fs found same e =
    λ es h. subst (λ ys. AreAttributes (members_view fs) (ys ++ es)) (sym e)
    (subst (λ xs. AreAttributes (members_view xs) es) same h)

pub attribute_says : (k : List ℕ) (d : Data) (ms : Members) (ty : «Type» RawName) (annotations : Annotations)
    (required : Bool) (es : List AttributeEntry) → SaysTyped d ty annotations required → AreAttributes ms es
    → AreAttributes (member k d ms)
    ((chars k, roll-TypeOfAttribute RawName (record { ty = ty; annotations = annotations; required = required })) ∷ es)
attribute_says k null ms ty annotations required es h g = absurd h
attribute_says k (boolean b) ms ty annotations required es h g = absurd h
attribute_says k (number x) ms ty annotations required es h g = absurd h
attribute_says k (string s) ms ty annotations required es h g = absurd h
attribute_says k (array ds) ms ty annotations required es h g = absurd h
attribute_says k (object beside) ms ty annotations required es h g =
    next_attribute k beside ms (roll-TypeOfAttribute RawName
    (record { ty = ty; annotations = annotations; required = required })) es h.says h.annotated h.marked g

pub attribute_found : (k : List ℕ) (d : Data) (left all : Members) (found more : List AttributeEntry)
    (ty : «Type» RawName) (annotations : Annotations) (required : Bool) (x : AttributeEntry)
    → FoundAttributes (member k d left) all found → SaysTyped d ty annotations required
    → x ≡ (chars k, roll-TypeOfAttribute RawName (record { ty = ty; annotations = annotations; required = required }))
    → more ≡ found ++ x ∷ [] → FoundAttributes left all more
attribute_found k d left all found more ty annotations required x f h is e = λ es g.
    subst (AreAttributes all) (sym (append_assoc found (x ∷ []) es) ∙ ap (λ ys. ys ++ es) (sym e))
    (f (x ∷ es) (subst (λ y. AreAttributes (member k d left) (y ∷ es)) (sym is)
    (attribute_says k d left ty annotations required es h g)))

pub all_attributes_found : (all : Members) (found : List AttributeEntry) → FoundAttributes no_members all found
    → AreAttributes all found
all_attributes_found all found f = subst (AreAttributes all) (append-nil found) (f [] no_attribute)
