-- The first of what is lacking.
use Rattle.std.proofs.Common.{◌≡◌, List, [], ◌++◌, ap, sym, subst, Result, Ok, Err}
use Rattle.std.specs.Prelude.{IfErr}
use Rattle.std.specs.Result.{IsErrAnd}
use Rattle.schema_build_types.specs.Lacks.{Lack}
use Rattle.schema_build_errors.specs.declared.recovery_error.RecoveryError.{RecoveryError}
use Rattle.schema_build_errors.specs.declared.recovery_error.RecoveryError.TheVariants as error
use Rattle.schema_build_recovered_types.specs.FirstLacks.{IsFirstLack}

-- the first of these is the first of these and others
pub first_before : (xs ys : List Lack) (e : RecoveryError) → IsFirstLack xs e → IsFirstLack (xs ++ ys) e
first_before xs ys error.UnknownElement h = (h.0 ++ ys, ap (λ l. l ++ ys) h.1)
first_before xs ys error.JoinedEntities h = (h.0 ++ ys, ap (λ l. l ++ ys) h.1)
first_before xs ys error.Unsupported h = (h.0 ++ ys, ap (λ l. l ++ ys) h.1)
first_before xs ys error.Memory h = tt

-- where nothing is lacking before
pub first_behind : (xs ys : List Lack) (e : RecoveryError) → xs ≡ [] → IsFirstLack ys e → IsFirstLack (xs ++ ys) e
first_behind xs ys e none h = subst (λ l. IsFirstLack (l ++ ys) e) (sym none) h

-- what `?` hands on
pub refused : {T : Type 0} (xs : List Lack) (r : Result T RecoveryError) (e : RecoveryError)
    → IsErrAnd r (λ y. y ≡ e) → IsFirstLack xs e → IfErr r (IsFirstLack xs)
refused xs (Ok x) e h k = tt
refused xs (Err y) e h k = subst (IsFirstLack xs) (sym h) k
