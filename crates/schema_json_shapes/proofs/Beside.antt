-- Fields that stand side by side, and lists and objects without anything.
use Rattle.std.proofs.Common.{◌≡◌, ℕ, suc, ◌<◌, Bool, true, false, not, cond, List, [], ◌∷◌, length, arith, nat_eq}
use Rattle.std.proofs.Common.{Option, Some, None, map, refl, sym, ap, ◌∙◌}
use Rattle.std.proofs.lemmas.Bool.Decides.{nat_tests}
use Rattle.std.specs.Str.{chars}
use Rattle.serde_json.specs.Data.{array, object}
use Rattle.serde_json.specs.View.{items_view, members_view}
use Rattle.serde_json.specs.declared.value.Value.{Value}
use Rattle.serde_json.proofs.Views.{Entry}
use Rattle.schema_json_shapes.specs.declared.shape_fault.ShapeFault.{ShapeFault}
use Rattle.schema_json_shapes.specs.Walk.{conflict, is_empty_list, has_members}

pub conflict_named : (fault : List (List ℕ) → ShapeFault) (ns fields : List (List ℕ)) → fields ≡ map chars ns
    → 0 < length fields → conflict fault ns ≡ Some (fault fields)
conflict_named fault [] fields e h = absurd (omega (arith, ap length e))
conflict_named fault (n ∷ ns) fields e h = ap (λ x. Some (fault x)) (sym e)

pub no_conflict : (fault : List (List ℕ) → ShapeFault) (ns fields : List (List ℕ)) → fields ≡ map chars ns
    → fields ≡ [] → conflict fault ns ≡ None
no_conflict fault [] fields e h = refl
no_conflict fault (n ∷ ns) fields e h = absurd (omega (arith, ap length (sym e ∙ h)))

-- what holds of a conflict that is asked for
pub asked : (b : Bool) (o p : Option ShapeFault) → b ≡ true → o ≡ p → cond b o None ≡ p
asked true o p e h = h
asked false o p e h = absurd (cc)

positive : (n : ℕ) → nat_eq (suc n) 0 ≡ false
positive n = grind (arith, nat_tests)

pub len_zero : (vs : List Value) → nat_eq (length vs) 0 ≡ is_empty_list (array (items_view vs))
len_zero [] = refl
len_zero (v ∷ vs) = positive (length vs)

pub len_positive : (es : List Entry) → not (nat_eq (length es) 0) ≡ has_members (object (members_view es))
len_positive [] = refl
len_positive (e ∷ es) = ap not (positive (length es))
