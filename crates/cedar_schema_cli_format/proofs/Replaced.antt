-- What a put beside a file and a rename to it make together.
use Rattle.std.proofs.Common.{◌⊎◌, inl, inr, ◌∙◌, ℕ, List, Option, Some, None, Result, Ok, Err, OnOk, OnErr}
use Rattle.cedar_files.specs.Files.{Contents, Keeps, Puts, Moves}
use Rattle.cedar_schema_cli_format.specs.Replacing.{IsReplaced, IsSpared}

pub moved : {A E : Type 0} (r : Result A E) (a b c : Option Contents) (path beside bytes : List ℕ)
    → Puts a beside bytes b → OnOk r (Moves b beside path c) → OnOk r (IsReplaced a path beside bytes c)
moved (Err e) a b c path beside bytes p m = tt
moved (Ok x) (Some a) (Some b) (Some c) path beside bytes p m =
    (m.0 ∙ p.0, λ other off away. m.2 other away off ∙ p.1 other away)
moved (Ok x) None None None path beside bytes p m = tt
moved (Ok x) (Some a) None c path beside bytes p m = absurd p
moved (Ok x) None (Some b) c path beside bytes p m = absurd p
moved (Ok x) (Some a) (Some b) None path beside bytes p m = absurd m
moved (Ok x) None None (Some c) path beside bytes p m = absurd m

pub kept : {A E : Type 0} (r : Result A E) (a b c : Option Contents) (beside bytes : List ℕ)
    → Puts a beside bytes b → OnErr r (Keeps b c) → OnErr r (IsSpared a beside c)
kept (Ok x) a b c beside bytes p k = tt
kept (Err e) (Some a) (Some b) (Some c) beside bytes p k = λ other away. k other ∙ p.1 other away
kept (Err e) None None None beside bytes p k = tt
kept (Err e) (Some a) None c beside bytes p k = absurd p
kept (Err e) None (Some b) c beside bytes p k = absurd p
kept (Err e) (Some a) (Some b) None beside bytes p k = absurd k
kept (Err e) None None (Some c) beside bytes p k = absurd k

pub spared : (a b : Option Contents) (beside : List ℕ) → ((left : List ℕ) × Puts a beside left b) ⊎ Keeps a b
    → IsSpared a beside b
spared (Some a) (Some b) beside (inl put) = λ other away. put.1.1 other away
spared (Some a) (Some b) beside (inr same) = λ other away. same other
spared None None beside h = tt
spared (Some a) None beside (inl put) = absurd put.1
spared (Some a) None beside (inr same) = absurd same
spared None (Some b) beside (inl put) = absurd put.1
spared None (Some b) beside (inr same) = absurd same
