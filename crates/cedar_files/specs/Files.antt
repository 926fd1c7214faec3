-- What calls on files do to what the files hold. Paths and contents are their bytes.
use Rattle.std.specs.Prelude.{◌≡◌, ◌≢◌, ◌<◌, ℕ, List, Option, Some, None, length, ⊤}
use Rattle.cedar_io.specs.Input.{max_input}

-- what each file holds, by its path
abbrev pub Contents : Type 0
Contents = List ℕ → Option (List ℕ)

-- where it is told what the files hold, they hold the same before and after
abbrev pub Keeps : Option Contents → Option Contents → Type 0
Keeps (Some old) (Some new) = (path : List ℕ) → new path ≡ old path
Keeps None None = ⊤
Keeps (Some old) None = ⊥
Keeps None (Some new) = ⊥

-- where it is told, the file holds these bytes
abbrev pub Reads : Option Contents → List ℕ → List ℕ → Type 0
Reads (Some files) path bytes = files path ≡ Some bytes
Reads None path bytes = ⊤

-- where it is told, there is no such file
abbrev pub Lacks : Option Contents → List ℕ → Type 0
Lacks (Some files) path = files path ≡ None
Lacks None path = ⊤

-- where it is told, the file is longer than an input may be
abbrev pub IsTooLong : Option Contents → List ℕ → Type 0
IsTooLong (Some files) path = (bytes : List ℕ) × (files path ≡ Some bytes) × (max_input < length bytes)
IsTooLong None path = ⊤

-- where it is told, the file holds these bytes after, and all other files are as before
abbrev pub Puts : Option Contents → List ℕ → List ℕ → Option Contents → Type 0
Puts (Some old) path bytes (Some new) = (new path ≡ Some bytes)
    × ((other : List ℕ) → other ≢ path → new other ≡ old other)
Puts None path bytes None = ⊤
Puts (Some old) path bytes None = ⊥
Puts None path bytes (Some new) = ⊥

-- where it is told, the one file has the other's path after, and all other files are as before
abbrev pub Moves : Option Contents → List ℕ → List ℕ → Option Contents → Type 0
Moves (Some old) from to (Some new) = (new to ≡ old from) × (from ≢ to → new from ≡ None)
    × ((other : List ℕ) → other ≢ from → other ≢ to → new other ≡ old other)
Moves None from to None = ⊤
Moves (Some old) from to None = ⊥
Moves None from to (Some new) = ⊥

-- where it is told, the file holds these bytes
abbrev pub Holds : Option Contents → List ℕ → List ℕ → Type 0
Holds files path bytes = Reads files path bytes

-- where it is told, the file holds the same before and after
abbrev pub Same : Option Contents → Option Contents → List ℕ → Type 0
Same (Some old) (Some new) path = new path ≡ old path
Same None new path = ⊤
Same (Some old) None path = ⊥
