-- Lists and items as the rows that the code adds.
use Rattle.std.proofs.Common.{◌≡◌, ℕ, ◌+◌, suc, ◌<◌, Bool, true, false, ◌||◌, not, List, [], ◌∷◌, ◌++◌, codes, map}
use Rattle.std.proofs.Common.{length, drop, drop-cons, get_or, add-one, refl, ap, sym, ◌∙◌, append_assoc, Some, ◌==◌}
use Rattle.std.proofs.Common.{arith}
use Rattle.std.proofs.lemmas.Bool.{eqb-true, ne_eqb}
use Rattle.std.proofs.lemmas.List.{append-nil}
use Rattle.std.specs.Str.{encode_utf8_all}
use Rattle.cedar_data.specs.Rows.{separator_where, row_behind}
use Rattle.cedar_data.proofs.Lists.{map-map}
use Rattle.schema_syntax_grammar.specs.declared.token_kind.TokenKind.TheVariants.{Comma, RBracket, PathSep}
use Rattle.schema_syntax_tokens.specs.Laid.{Piece, laid}
use Rattle.schema_syntax_tokens.specs.Quotes.{quoted}
use Rattle.laws_written.specs.Printed.{mark, string, space, line_break, path_pieces}
use Rattle.laws_written.specs.PrintedDecls.{list_pieces, bracketed, joined_pieces, parents_pieces, typed_pieces}
use Rattle.schema_print_text.specs.Growing.{laid_append, Leaves}

-- one more text, and those after it
pub row_step : {A : Type 0} (f : A → List ℕ) (separator : List ℕ) (b : Bool) (xs : List A) (i : ℕ) (d : A)
    → i < length xs
    → d ≡ get_or xs i d
    → row_behind separator b (map f (drop i xs)) ≡ (separator_where separator b ++ f d)
    ++ row_behind separator true (map f (drop (i + 1) xs))
row_step f separator b xs i d h e =
    rw (add-one, drop-cons xs i d)
    (ap (λ x. row_behind separator b (map f (x ∷ drop (suc i) xs))) (sym e)
    ∙ sym (append_assoc (separator_where separator b) (f d) (row_behind separator true (map f (drop (suc i) xs)))))

pub list_row : {A : Type 0} (f : A → List Piece) (xs : List A)
    → laid (list_pieces f xs) ≡ row_behind (codes ", ") false (map (λ x. laid (f x)) xs)
list_row f [] = refl
list_row f (x ∷ []) = sym (append-nil (laid (f x)))
list_row f (x ∷ y ∷ xs) = laid_append (f x) (mark Comma (codes ",") ∷ space ∷ list_pieces f (y ∷ xs))
    ∙ ap (λ t. laid (f x) ++ (codes ", " ++ t)) (list_row f (y ∷ xs))

pub joined_row : {A : Type 0} (f : A → List Piece) (xs : List A)
    → laid (joined_pieces f xs) ≡ row_behind (codes "\n") false (map (λ x. laid (f x)) xs)
joined_row f [] = refl
joined_row f (x ∷ []) = sym (append-nil (laid (f x)))
joined_row f (x ∷ y ∷ xs) = laid_append (f x) (line_break ∷ joined_pieces f (y ∷ xs))
    ∙ ap (λ t. laid (f x) ++ (codes "\n" ++ t)) (joined_row f (y ∷ xs))

pub brackets_row : {A : Type 0} (f : A → List Piece) (xs : List A)
    → codes "[" ++ (row_behind (codes ", ") false (map (λ x. laid (f x)) xs) ++ codes "]") ≡ laid (bracketed f xs)
brackets_row f xs =
    ap (λ t. codes "[" ++ t) (ap (λ t. t ++ codes "]") (sym (list_row f xs))
    ∙ sym (laid_append (list_pieces f xs) (mark RBracket (codes "]") ∷ [])))

-- a list in brackets, of what is made of its items
pub brackets_made : {A B : Type 0} (f : B → List Piece) (g : A → B) (xs : List A)
    → codes "[" ++ (row_behind (codes ", ") false (map (λ x. laid (f (g x))) xs) ++ codes "]")
    ≡ laid (bracketed f (map g xs))
brackets_made f g xs =
    ap (λ rows. codes "[" ++ (row_behind (codes ", ") false rows ++ codes "]"))
    (sym (map-map (λ x. laid (f x)) g xs)) ∙ brackets_row f (map g xs)

-- an action by its type and its id
pub ref_laid : (p : List (List ℕ)) (id : List ℕ)
    → laid (path_pieces p) ++ (codes "::" ++ quoted id) ≡ laid (typed_pieces (Some p) id)
ref_laid p id =
    sym (laid_append (path_pieces p) (mark PathSep (codes "::") ∷ string id ∷ [])
    ∙ ap (λ t. laid (path_pieces p) ++ (codes "::" ++ t)) (append-nil (quoted id)))

-- no parents, and some
pub parents_none : {A B : Type 0} (f : B → List Piece) (g : A → B) (xs : List A) → (length xs == 0) ≡ true
    → [] ≡ laid (parents_pieces f (map g xs))
parents_none f g [] h = refl
parents_none f g (x ∷ xs) h = absurd (omega (arith, eqb-true (length (x ∷ xs)) 0 h))

pub parents_some : {A B : Type 0} (f : B → List Piece) (g : A → B) (xs : List A) → (length xs == 0) ≡ false
    → codes " in " ++ laid (bracketed f (map g xs)) ≡ laid (parents_pieces f (map g xs))
parents_some f g [] h = absurd (cc)
parents_some f g (x ∷ xs) h = refl

nonzero : (n : ℕ) → not (suc n == 0) ≡ true
nonzero n = ap not (ne_eqb (suc n) 0 (λ e. omega arith))

begun_by : {A : Type 0} (b : Bool) (x : A) (xs : List A) → true ≡ (b || not (length (x ∷ xs) == 0))
begun_by true x xs = refl
begun_by false x xs = sym (nonzero (length xs))

-- the row of some items, and those of the others behind it
row_before : {A : Type 0} (f : A → List Piece) (separator : List ℕ) (b : Bool) (xs : List A) (rest : List (List Piece))
    → row_behind separator b (map laid (map f xs ++ rest)) ≡ row_behind separator b (map (λ x. laid (f x)) xs)
    ++ row_behind separator (b || not (length xs == 0)) (map laid rest)
row_before f separator true [] rest = refl
row_before f separator false [] rest = refl
row_before f separator b (x ∷ xs) rest =
    ap (λ t. separator_where separator b ++ (laid (f x) ++ t)) (row_before f separator true xs rest)
    ∙ (ap (λ t. separator_where separator b ++ t)
    (sym (append_assoc (laid (f x)) (row_behind separator true (map (λ y. laid (f y)) xs))
    (row_behind separator true (map laid rest))))
    ∙ (sym (append_assoc (separator_where separator b)
    (laid (f x) ++ row_behind separator true (map (λ y. laid (f y)) xs))
    (row_behind separator true (map laid rest)))
    ∙ ap (λ t. (separator_where separator b ++ (laid (f x) ++ row_behind separator true (map (λ y. laid (f y)) xs)))
    ++ row_behind separator t (map laid rest)) (begun_by b x xs)))

-- three kinds of items, with an empty line separator_where two
pub items_row : {A B C : Type 0} (f : A → List Piece) (g : B → List Piece) (h : C → List Piece) (xs : List A)
    (ys : List B) (zs : List C)
    (b c : Bool) → b ≡ not (length xs == 0) → c ≡ (b || not (length ys == 0))
    → row_behind (codes "\n") false (map (λ x. laid (f x)) xs)
    ++ (row_behind (codes "\n") b (map (λ y. laid (g y)) ys) ++ row_behind (codes "\n") c (map (λ z. laid (h z)) zs))
    ≡ laid (joined_pieces (λ p. p) (map f xs ++ (map g ys ++ map h zs)))
items_row f g h xs ys zs b c p q =
    let first = row_behind (codes "\n") false (map (λ x. laid (f x)) xs) in
    let second = row_behind (codes "\n") b (map (λ y. laid (g y)) ys) in
    sym (joined_row (λ p. p) (map f xs ++ (map g ys ++ map h zs))
    ∙ (row_before f (codes "\n") false xs (map g ys ++ map h zs)
    ∙ (ap (λ t. first ++ row_behind (codes "\n") t (map laid (map g ys ++ map h zs))) (sym p)
    ∙ (ap (λ t. first ++ t) (row_before g (codes "\n") b ys (map h zs))
    ∙ (ap (λ t. first ++ (second ++ row_behind (codes "\n") t (map laid (map h zs)))) (sym q)
    ∙ ap (λ t. first ++ (second ++ row_behind (codes "\n") c t)) (map-map laid h zs))))))

-- what is said of a slice holds of the list
pub empty_so : {A : Type 0} (xs ys : List A) (r b : Bool) → xs ≡ ys → r ≡ (length xs == 0) → r ≡ b
    → (length ys == 0) ≡ b
empty_so xs ys r b e f g = ap (λ t. length t == 0) (sym e) ∙ (sym f ∙ g)

-- where what is left is all
pub begun_as : (a left all : List ℕ) → left ≡ all → Leaves a a left all
begun_as a left all e = record { meets = ap (λ t. encode_utf8_all a ++ t) e }
