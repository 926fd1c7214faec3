-- What a put beside a file and a rename to it make together.
use Rattle.std.proofs.Common.{◌≢◌, ◌⊎◌, inl, inr, ◌∙◌, ℕ, List, Option, Some, None, Result, Ok, Err, OnOk, OnErr}
use Rattle.cedar_files.specs.Files.{Contents, Keeps, Puts, Moves, Holds, Same}

pub moved : {A E : Type 0} (r : Result A E) (a b c : Option Contents) (path beside bytes : List ℕ)
    → Puts a beside bytes b → OnOk r (Moves b beside path c) → OnOk r (Holds c path bytes)
moved (Err e) a b c path beside bytes p m = tt
moved (Ok x) (Some a) (Some b) (Some c) path beside bytes p m = m.0 ∙ p.0
moved (Ok x) None None None path beside bytes p m = tt
moved (Ok x) (Some a) None c path beside bytes p m = absurd p
moved (Ok x) None (Some b) c path beside bytes p m = absurd p
moved (Ok x) (Some a) (Some b) None path beside bytes p m = absurd m
moved (Ok x) None None (Some c) path beside bytes p m = absurd m

pub kept : {A E : Type 0} (r : Result A E) (a b c : Option Contents) (path beside bytes : List ℕ) → path ≢ beside
    → Puts a beside bytes b → OnErr r (Keeps b c) → OnErr r (Same a c path)
kept (Ok x) a b c path beside bytes other p k = tt
kept (Err e) (Some a) (Some b) (Some c) path beside bytes other p k = k path ∙ p.1 path other
kept (Err e) None b c path beside bytes other p k = tt
kept (Err e) (Some a) None c path beside bytes other p k = absurd p
kept (Err e) (Some a) (Some b) None path beside bytes other p k = absurd k

pub spared : (a b : Option Contents) (path beside : List ℕ) → path ≢ beside
    → ((left : List ℕ) × Puts a beside left b) ⊎ Keeps a b → Same a b path
spared (Some a) (Some b) path beside other (inl put) = put.1.1 path other
spared (Some a) (Some b) path beside other (inr same) = same path
spared None b path beside other h = tt
spared (Some a) None path beside other (inl put) = absurd put.1
spared (Some a) None path beside other (inr same) = absurd same
