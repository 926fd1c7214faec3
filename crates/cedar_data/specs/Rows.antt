-- Texts in a row, and what goes by their number.
use Rattle.std.specs.Prelude.{ℕ, Bool, true, false, List, [], ◌∷◌, ◌++◌, codes}

-- the texts in turn, with the separator between two
abbrev pub joined_by : List ℕ → List (List ℕ) → List ℕ
joined_by separator [] = []
joined_by separator (text ∷ []) = text
joined_by separator (text ∷ next ∷ texts) = text ++ (separator ++ joined_by separator (next ∷ texts))

-- the texts with `between` between two, and `before_last` before the last
abbrev pub listed : List ℕ → List ℕ → List (List ℕ) → List ℕ
listed between before_last [] = []
listed between before_last (text ∷ []) = text
listed between before_last (text ∷ last ∷ []) = text ++ (before_last ++ last)
listed between before_last (text ∷ next ∷ more ∷ texts) =
    text ++ (between ++ listed between before_last (next ∷ more ∷ texts))

-- what stands before the items that are left: `before_last` where there is one, and `between` where there are more
abbrev pub separator : {A : Type 0} → List ℕ → List ℕ → List A → List ℕ
separator between before_last [] = []
separator between before_last (last ∷ []) = before_last
separator between before_last (next ∷ more ∷ items) = between

-- one text alone, two joined by ` and `, and more by `, ` with `, and ` before the last
abbrev pub and_list : List (List ℕ) → List ℕ
and_list (first ∷ last ∷ []) = first ++ (codes " and " ++ last)
and_list texts = listed (codes ", ") (codes ", and ") texts

-- what is said of one, or of several
abbrev pub by_number : List ℕ → List ℕ → List (List ℕ) → List ℕ
by_number one several (first ∷ next ∷ texts) = several
by_number one several texts = one

-- what stands before a text: the separator where something stands before it
abbrev pub separator_where : List ℕ → Bool → List ℕ
separator_where separator true = separator
separator_where separator false = []

-- each of the texts behind the separator, the first too where something stands before it
abbrev pub row_behind : List ℕ → Bool → List (List ℕ) → List ℕ
row_behind separator behind [] = []
row_behind separator behind (t ∷ ts) = separator_where separator behind ++ (t ++ row_behind separator true ts)
