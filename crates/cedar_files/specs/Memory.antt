-- What files in memory hold after a list of changes.
use Rattle.std.specs.Prelude.{ℕ, List, [], ◌∷◌, Option, Some, None, string_bytes, if◌then◌else◌}
use Rattle.std.specs.Str.{bytes_eq}
use Rattle.cedar_files.specs.Files.{Contents}
use Rattle.cedar_files.specs.declared.memory_files.Change.{Change}
use Rattle.cedar_files.specs.declared.memory_files.Change.TheVariants.{Put, Moved}
use Rattle.cedar_files.specs.declared.memory_files.Content.{Content}
use Rattle.cedar_files.specs.declared.memory_files.Content.TheVariants.{Here, Nowhere, Before}

-- the contents after a file was given these bytes
abbrev pub is_put : List ℕ → List ℕ → Contents → Contents
is_put path bytes files = λ p. if bytes_eq path p then Some bytes else files p

-- the contents after a file was given another path
abbrev pub is_moved : List ℕ → List ℕ → Contents → Contents
is_moved from to files = λ p. if bytes_eq to p then files from else (if bytes_eq from p then None else files p)

-- the contents after these changes, of which the first is the last that was made
abbrev pub found : List Change → Contents
found [] = λ p. None
found (Put path bytes ∷ changes) = is_put (string_bytes path) bytes.items (found changes)
found (Moved from to ∷ changes) = is_moved (string_bytes from) (string_bytes to) (found changes)

-- the content that is told of, where these changes are those before
abbrev pub content : List Change → Content → Option (List ℕ)
content changes (Here bytes) = Some bytes.now
content changes Nowhere = None
content changes (Before path) = found changes path.now
