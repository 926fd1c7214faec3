-- A member that is looked for one by one, and one of two.
use Rattle.std.proofs.Common.{◌≡◌, ℕ, ◌-◌, ◌≤◌, Bool, true, false, List, [], ◌∷◌, Ordering, Less, Equal, Greater, Some}
use Rattle.std.proofs.Common.{Option}
use Rattle.std.proofs.Common.{None, length, string_bytes, refl, sym, ap, ◌∙◌, subst, arith}
use Rattle.std.specs.Prelude.{slice_get, if◌then◌else◌}
use Rattle.std.specs.Ordering.{nat_cmp, is_eq, match_ordering}
use Rattle.std.specs.Str.{bytes_eq}
use Rattle.std.specs.Cmp.Lexicographic.{slice_cmp}
use Rattle.std.proofs.lemmas.Map.Text.{is_eq-slice_cmp}
use Rattle.std.proofs.lemmas.Option.{same_Some}
use Rattle.serde_json.specs.Data.{Data, Members, member}
use Rattle.serde_json.specs.Find.{get_member}
use Rattle.serde_json.specs.View.{view, members_view}
use Rattle.serde_json.proofs.Views.{Entry}
use Rattle.schema_json_shapes.specs.Tables.{Field, is_field, first_unknown}

taken : {X : Type 0} (o : Ordering) (a b : X) → is_eq o ≡ true → match_ordering o a b a ≡ b
taken Less a b e = cc
taken Equal a b e = refl
taken Greater a b e = cc

passed : {X : Type 0} (o : Ordering) (a b : X) → is_eq o ≡ false → match_ordering o a b a ≡ a
passed Less a b e = refl
passed Equal a b e = cc
passed Greater a b e = refl

pub found_here : (name key : List ℕ) (value : Data) (others : Members) → bytes_eq name key ≡ true
    → get_member name (member key value others) ≡ Some value
found_here name key value others same =
    taken (slice_cmp nat_cmp name key) (get_member name others) (Some value) (is_eq-slice_cmp name key ∙ same)

pub found_later : (name key : List ℕ) (value : Data) (others : Members) → bytes_eq name key ≡ false
    → get_member name (member key value others) ≡ get_member name others
found_later name key value others apart =
    passed (slice_cmp nat_cmp name key) (get_member name others) (Some value) (is_eq-slice_cmp name key ∙ apart)

-- ---- among two members at most

pub found_first : (name : List ℕ) (es : List Entry) (e : Entry) → slice_get es 0 ≡ Some e
    → bytes_eq name (string_bytes e.0) ≡ true → Some (view e.1) ≡ get_member name (members_view es)
found_first name [] e first same = cc
found_first name (x ∷ es) e first same =
    let is : x ≡ e = same_Some x e first in
    sym (subst (λ (y : Entry). get_member name (members_view (y ∷ es)) ≡ Some (view e.1)) (sym is)
    (found_here name (string_bytes e.0) (view e.1) (members_view es) same))

pub found_last : (name : List ℕ) (es : List Entry) (e l : Entry) → length es ≤ 2 → slice_get es 0 ≡ Some e
    → slice_get es (length es - 1) ≡ Some l → bytes_eq name (string_bytes e.0) ≡ false
    → bytes_eq name (string_bytes l.0) ≡ true → Some (view l.1) ≡ get_member name (members_view es)
found_last name [] e l two first last apart same = cc
found_last name (x ∷ []) e l two first last apart same =
    let is : l ≡ e = sym (same_Some x l last) ∙ same_Some x e first in
    let no : true ≡ false = sym same ∙ ap (λ (y : Entry). bytes_eq name (string_bytes y.0)) is ∙ apart in
    cc
found_last name (x ∷ y ∷ []) e l two first last apart same =
    let not_first : bytes_eq name (string_bytes x.0) ≡ false =
    ap (λ (z : Entry). bytes_eq name (string_bytes z.0)) (same_Some x e first) ∙ apart in
    found_first name (y ∷ []) l last same
    ∙ sym (found_later name (string_bytes x.0) (view x.1) (members_view (y ∷ [])) not_first)
found_last name (x ∷ y ∷ z ∷ es) e l two first last apart same = let no : ⊥ = omega arith in absurd no

pub none_of_two : (name : List ℕ) (es : List Entry) (e l : Entry) → length es ≤ 2 → slice_get es 0 ≡ Some e
    → slice_get es (length es - 1) ≡ Some l → bytes_eq name (string_bytes e.0) ≡ false
    → bytes_eq name (string_bytes l.0) ≡ false → None ≡ get_member name (members_view es)
none_of_two name [] e l two first last apart other = cc
none_of_two name (x ∷ []) e l two first last apart other =
    let not_first : bytes_eq name (string_bytes x.0) ≡ false =
    ap (λ (z : Entry). bytes_eq name (string_bytes z.0)) (same_Some x e first) ∙ apart in
    sym (found_later name (string_bytes x.0) (view x.1) (members_view []) not_first)
none_of_two name (x ∷ y ∷ []) e l two first last apart other =
    let not_first : bytes_eq name (string_bytes x.0) ≡ false =
    ap (λ (z : Entry). bytes_eq name (string_bytes z.0)) (same_Some x e first) ∙ apart in
    let not_last : bytes_eq name (string_bytes y.0) ≡ false =
    ap (λ (z : Entry). bytes_eq name (string_bytes z.0)) (same_Some y l last) ∙ other in
    sym (found_later name (string_bytes x.0) (view x.1) (members_view (y ∷ [])) not_first
    ∙ found_later name (string_bytes y.0) (view y.1) (members_view []) not_last)
none_of_two name (x ∷ y ∷ z ∷ es) e l two first last apart other = let no : ⊥ = omega arith in absurd no

-- ---- the least of two keys at most that is no field

stops : (b : Bool) (k : List ℕ) (rest : Option (List ℕ)) → b ≡ false → Some k ≡ (if b then rest else Some k)
stops true k rest e = cc
stops false k rest e = refl

passes : (b : Bool) (k : List ℕ) (rest : Option (List ℕ)) → b ≡ true → rest ≡ (if b then rest else Some k)
passes true k rest e = refl
passes false k rest e = cc

pub unknown_first : (fs : List Field) (es : List Entry) (e : Entry) → slice_get es 0 ≡ Some e
    → is_field fs (string_bytes e.0) ≡ false → Some (string_bytes e.0) ≡ first_unknown fs (members_view es)
unknown_first fs [] e first no_field = cc
unknown_first fs (x ∷ es) e first no_field =
    subst (λ (y : Entry). Some (string_bytes e.0) ≡ first_unknown fs (members_view (y ∷ es)))
    (sym (same_Some x e first))
    (stops (is_field fs (string_bytes e.0)) (string_bytes e.0) (first_unknown fs (members_view es)) no_field)

unknown_later : (fs : List Field) (x e : Entry) (es : List Entry) → x ≡ e → is_field fs (string_bytes e.0) ≡ true
    → first_unknown fs (members_view es) ≡ first_unknown fs (members_view (x ∷ es))
unknown_later fs x e es is field =
    passes (is_field fs (string_bytes x.0)) (string_bytes x.0) (first_unknown fs (members_view es))
    (ap (λ (y : Entry). is_field fs (string_bytes y.0)) is ∙ field)

pub unknown_last : (fs : List Field) (es : List Entry) (e l : Entry) → length es ≤ 2 → slice_get es 0 ≡ Some e
    → slice_get es (length es - 1) ≡ Some l → is_field fs (string_bytes e.0) ≡ true
    → is_field fs (string_bytes l.0) ≡ false → Some (string_bytes l.0) ≡ first_unknown fs (members_view es)
unknown_last fs [] e l two first last field no_field = cc
unknown_last fs (x ∷ []) e l two first last field no_field =
    let is : l ≡ e = sym (same_Some x l last) ∙ same_Some x e first in
    let no : false ≡ true = sym no_field ∙ ap (λ (y : Entry). is_field fs (string_bytes y.0)) is ∙ field in
    cc
unknown_last fs (x ∷ y ∷ []) e l two first last field no_field =
    unknown_first fs (y ∷ []) l last no_field ∙ unknown_later fs x e (y ∷ []) (same_Some x e first) field
unknown_last fs (x ∷ y ∷ z ∷ es) e l two first last field no_field = let no : ⊥ = omega arith in absurd no

pub all_known : (fs : List Field) (es : List Entry) (e l : Entry) → length es ≤ 2 → slice_get es 0 ≡ Some e
    → slice_get es (length es - 1) ≡ Some l → is_field fs (string_bytes e.0) ≡ true
    → is_field fs (string_bytes l.0) ≡ true → None ≡ first_unknown fs (members_view es)
all_known fs [] e l two first last field other = cc
all_known fs (x ∷ []) e l two first last field other = unknown_later fs x e [] (same_Some x e first) field
all_known fs (x ∷ y ∷ []) e l two first last field other =
    unknown_later fs y l [] (same_Some y l last) other ∙ unknown_later fs x e (y ∷ []) (same_Some x e first) field
all_known fs (x ∷ y ∷ z ∷ es) e l two first last field other = let no : ⊥ = omega arith in absurd no
