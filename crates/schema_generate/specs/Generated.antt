-- A schema text of n entity types and n actions, as characters. Each entity type but the first has the parent of half
-- its number; names are a letter and a decimal number.
use Rattle.std.specs.Prelude.{ℕ, ◌+◌, ◌*◌, ◌/◌, ◌%◌, ◌==◌, List, [], ◌++◌, codes, decimal, flat_map, if◌then◌else◌}
use Rattle.std.specs.List.{range_with_len}

-- the most entity types that a text is made with
abbrev pub max_size : ℕ
max_size = 4096

-- `E7`
abbrev pub entity_word : ℕ → List ℕ
entity_word i = codes "E" ++ decimal i

-- `a7`
abbrev pub action_word : ℕ → List ℕ
action_word i = codes "a" ++ decimal i

-- the number of the parent of the entity type i, of the type of its attribute, and of the resource of the action i
abbrev pub parent_of : ℕ → ℕ
parent_of i = i / 2

abbrev pub target_of : ℕ → ℕ → ℕ
target_of n i = (7 * i + 3) % n

abbrev pub resource_of : ℕ → ℕ → ℕ
resource_of n i = (5 * i + 1) % n

-- ` in E3`, for all but the first
abbrev pub parent_part : ℕ → List ℕ
parent_part i = if i == 0 then [] else codes " in " ++ entity_word (parent_of i)

abbrev pub entity_line : ℕ → ℕ → List ℕ
entity_line n i =
    codes "entity " ++ (entity_word i ++ (parent_part i
    ++ (codes " = { a: Long, b: " ++ (entity_word (target_of n i) ++ codes " };\n"))))

abbrev pub action_line : ℕ → ℕ → List ℕ
action_line n i =
    codes "action " ++ (action_word i ++ (codes " appliesTo { principal: "
    ++ (entity_word i ++ (codes ", resource: " ++ (entity_word (resource_of n i) ++ codes " };\n")))))

-- the two lines of a number
abbrev pub lines_of : ℕ → ℕ → List ℕ
lines_of n i = entity_line n i ++ action_line n i

-- the text of n entity types and n actions: the lines of each number below n, in turn
abbrev pub generated : ℕ → List ℕ
generated n = flat_map (lines_of n) (range_with_len 0 n)
