-- Names make a table in order, or none.
use Rattle.std.proofs.Common.{◌≡◌, ◌⊎◌, ◌+◌, ◌<◌, ℕ, suc, List, [], ◌∷◌, ◌++◌, length}
use Rattle.std.proofs.Common.{Bool, true, false, true≢false, not, ◌&&◌, ◌||◌, if◌then◌else◌, Option, Some, None, inl}
use Rattle.std.proofs.Common.{inr}
use Rattle.std.proofs.Common.{refl, sym, ap, ◌∙◌, subst, arith, append_assoc, append-nil, Ordering}
use Rattle.std.specs.List.{list_any, AllByRecursion}
use Rattle.std.specs.List.Sorted.{IsStrictlySortedBy}
use Rattle.std.specs.Option.{option_or}
use Rattle.std.specs.Ordering.{match_ordering, ordering_reverse}
use Rattle.std.specs.Str.{bytes_eq}
use Rattle.std.specs.declared.cmp.Ordering.TheVariants.{Less, Equal, Greater}
use Rattle.std.proofs.lemmas.Bool.{cases_lt}
use Rattle.std.proofs.lemmas.List.{take-append-le, take_all, get_or_append_left, get_or_at, length-append}
use Rattle.std.proofs.lemmas.Slice.Eq.{bytes_eq-Decides}
use Rattle.cedar_data.specs.Text.{text_cmp}
use Rattle.cedar_data.specs.Words.{is_word}
use Rattle.cedar_data.proofs.Orders.{text_total, text_exact}
use Rattle.cedar_identifiers.specs.Words.{is_reserved, is_cedar}
use Rattle.cedar_identifiers.specs.declared.unreserved_id.UnreservedId.{UnreservedId}
use Rattle.cedar_names.specs.TableNames.{is_builtin, word_fault, repeats, fault_at}
use Rattle.cedar_names.specs.declared.extension_table.ExtensionTable.{ExtensionTable}
use Rattle.cedar_names.specs.declared.table_error.TableError.{TableError}
use Rattle.cedar_names.specs.declared.table_error.TableError.TheVariants.{NotWord, Reserved, Builtin, Repeated}
use Rattle.cedar_schema_core.specs.Commands.{IsTableInOrder}

abbrev Ids : Type 0
Ids = List UnreservedId

abbrev Rise : Ids → Type 0
Rise = IsStrictlySortedBy (λ a b. text_cmp a.id.text b.id.text)

-- ---- a name among names in order

put : UnreservedId → Ids → Ids
put x [] = x ∷ []
put x (y ∷ ys) = match_ordering (text_cmp x.id.text y.id.text) (x ∷ y ∷ ys) (y ∷ ys) (y ∷ put x ys)

-- some test passes where none of the names has the text of the new one
swap : (a b c : Bool) → (a || (b || c)) ≡ (b || (a || c))
swap true true c = refl
swap true false c = refl
swap false true c = refl
swap false false c = refl

same_text : (x y : UnreservedId) → text_cmp x.id.text y.id.text ≡ Equal → bytes_eq x.id.text y.id.text ≡ true
same_text x y e = (bytes_eq-Decides x.id.text y.id.text).1 (text_exact x.id.text y.id.text e)

abbrev is_among : List ℕ → Ids → Bool
is_among text ys = list_any (λ n. bytes_eq text n.id.text) ys

or_false : (a b : Bool) → (a || b) ≡ false → (a ≡ false) × (b ≡ false)
or_false true b h = absurd (true≢false h)
or_false false b h = (refl, h)

module _ (p : UnreservedId → Bool) (x : UnreservedId) where
  any_put : (ys : Ids) → is_among x.id.text ys ≡ false → list_any p (put x ys) ≡ (p x || list_any p ys)
  unfolding put
  any_put [] h = refl
  any_put (y ∷ ys) h =
      let apart = or_false (bytes_eq x.id.text y.id.text) (is_among x.id.text ys) h in
      by (any_put ys apart.1) apart.0 (text_cmp x.id.text y.id.text) refl
    where
      by : list_any p (put x ys) ≡ (p x || list_any p ys) → bytes_eq x.id.text y.id.text ≡ false → (o : Ordering)
          → text_cmp x.id.text y.id.text ≡ o
          → list_any p (match_ordering o (x ∷ y ∷ ys) (y ∷ ys) (y ∷ put x ys)) ≡ (p x || (p y || list_any p ys))
      by later other Less e = refl
      by later other Equal e = absurd (true≢false (sym (same_text x y e) ∙ other))
      by later other Greater e = ap (λ b. p y || b) later ∙ swap (p y) (p x) (list_any p ys)

module _ (P : UnreservedId → Type 0) (x : UnreservedId) where
  all_put : (ys : Ids) → P x → AllByRecursion P ys → AllByRecursion P (put x ys)
  unfolding put
  all_put [] h all = (h, tt)
  all_put (y ∷ ys) h all = by (all_put ys h all.1) (text_cmp x.id.text y.id.text)
    where
      by : AllByRecursion P (put x ys) → (o : Ordering)
          → AllByRecursion P (match_ordering o (x ∷ y ∷ ys) (y ∷ ys) (y ∷ put x ys))
      by later Less = (h, all)
      by later Equal = all
      by later Greater = (all.0, later)

all_above : (x y : UnreservedId) (ys : Ids) → text_cmp x.id.text y.id.text ≡ Less
    → AllByRecursion (λ z. text_cmp y.id.text z.id.text ≡ Less) ys
    → AllByRecursion (λ z. text_cmp x.id.text z.id.text ≡ Less) ys
all_above x y [] less all = tt
all_above x y (z ∷ zs) less all =
    (text_total.trans x.id.text y.id.text z.id.text less all.0, all_above x y zs less all.1)

rise_put : (x : UnreservedId) (ys : Ids) → Rise ys → Rise (put x ys)
unfolding put IsStrictlySortedBy
rise_put x [] h = (tt, tt)
rise_put x (y ∷ ys) h = by (rise_put x ys h.1) (text_cmp x.id.text y.id.text) refl
  where
    by : Rise (put x ys) → (o : Ordering) → text_cmp x.id.text y.id.text ≡ o
        → Rise (match_ordering o (x ∷ y ∷ ys) (y ∷ ys) (y ∷ put x ys))
    by later Less e = ((e, all_above x y ys e h.0), h)
    by later Equal e = h
    by later Greater e = (
      all_put (λ z. text_cmp y.id.text z.id.text ≡ Less) x ys
          (text_total.antisymm y.id.text x.id.text ∙ ap ordering_reverse e) h.0,
      later,
    )

-- ---- a lawful name

record Lawful (x : List ℕ) (before : Bool) : Type 0 where
  word : is_word x ≡ true
  free : is_reserved x ≡ false
  own : is_cedar x ≡ false
  new : is_builtin x ≡ false
  once : before ≡ false

lawful_from : (at : ℕ) (word free own new before : Bool)
    → option_or (if not word then Some (NotWord at) else (if free || own then Some (Reserved at)
    else (if new then Some (Builtin at) else None))) (if before then Some (Repeated at) else None) ≡ None
    → (word ≡ true) × (free ≡ false) × (own ≡ false) × (new ≡ false) × (before ≡ false)
lawful_from at true false false false false e = (refl, refl, refl, refl, refl)
lawful_from at true false false false true e = absurd (cc)
lawful_from at true false false true before e = absurd (cc)
lawful_from at true false true new before e = absurd (cc)
lawful_from at true true own new before e = absurd (cc)
lawful_from at false free own new before e = absurd (cc)

id_of : (x : List ℕ) → is_word x ≡ true → is_reserved x ≡ false → is_cedar x ≡ false → UnreservedId
id_of x word free own = record {
  id = record { text = x; word = ap (λ b. b && not (is_reserved x)) word ∙ ap not free };
  unreserved = own;
}

-- ---- one more name

module _ (front : List (List ℕ)) (x : List ℕ) where
  at_front : (rest : List (List ℕ)) → fault_at (front ++ x ∷ rest) (length front)
      ≡ option_or (word_fault (length front) x) (if repeats front x then Some (Repeated (length front)) else None)
  at_front rest = rw (
    get_or_at front x rest [] (length front) refl,
    take-append-le (length front) front (x ∷ rest) (omega arith),
    take_all (length front) front (omega arith),
  ) refl

before_front : (front rest : List (List ℕ)) (k : ℕ) → k < length front → fault_at (front ++ rest) k ≡ fault_at front k
before_front front rest k h = rw (
  get_or_append_left front rest [] k h,
  take-append-le k front rest (omega (arith, h)),
) refl

any_both : (text : List ℕ) (front : List (List ℕ)) (x : List ℕ)
    → repeats (front ++ x ∷ []) text ≡ (bytes_eq text x || repeats front text)
any_both text [] x = refl
any_both text (y ∷ front) x =
    ap (λ b. bytes_eq text y || b) (any_both text front x) ∙ swap (bytes_eq text y) (bytes_eq text x)
    (repeats front text)

one_more : (front : List (List ℕ)) (x : List ℕ) (table : ExtensionTable) → IsTableInOrder front table
    → fault_at (front ++ x ∷ []) (length front) ≡ None
    → (more : ExtensionTable) × IsTableInOrder (front ++ x ∷ []) more
unfolding id_of
one_more front x table is none =
    let l = lawful_from (length front) (is_word x) (is_reserved x) (is_cedar x) (is_builtin x) (repeats front x)
    (sym (at_front front x []) ∙ none) in
    let id = id_of x l.0 l.1 l.2 in
    let apart : is_among x table.names ≡ false = is.of.same x ∙ l.4 in
    let builtin = any_put (λ n. is_builtin n.id.text) id table.names apart in (
      record {
        names = put id table.names;
        extensions = builtin ∙ ap (λ b. b || list_any (λ n. is_builtin n.id.text) table.names) l.3 ∙ table.extensions;
      },
      record {
        of = record {
          lawful = λ k h. lawful_before front x is.of.lawful none k h;
          same = λ text. any_put (λ n. bytes_eq text n.id.text) id table.names apart
              ∙ ap (λ b. bytes_eq text x || b) (is.of.same text) ∙ sym (any_both text front x);
        };
        rise = rise_put id table.names is.rise;
      },
    )
  where
    lawful_before : (front : List (List ℕ)) (x : List ℕ) → ((k : ℕ) → k < length front → fault_at front k ≡ None)
        → fault_at (front ++ x ∷ []) (length front) ≡ None → (k : ℕ) → k < length (front ++ x ∷ [])
        → fault_at (front ++ x ∷ []) k ≡ None
    lawful_before front x before here k h = elim (cases_lt k (length front)) [
      | inl less ↦ before_front front (x ∷ []) k less ∙ before k less
      | inr more ↦
          let long : length (front ++ x ∷ []) ≡ length front + 1 = length-append front (x ∷ []) in
          let same : k ≡ length front = omega (arith, h, long, more) in
          ap (fault_at (front ++ x ∷ [])) same ∙ here
    ]

-- ---- all names

abbrev TableOrNone : List (List ℕ) → Type 0
TableOrNone names = ((table : ExtensionTable) × IsTableInOrder names table)
    ⊎ ((table : ExtensionTable) → IsTableInOrder names table → ⊥)

none_with : (front : List (List ℕ)) (x : List ℕ) (rest : List (List ℕ)) (e : TableError)
    → fault_at (front ++ x ∷ []) (length front) ≡ Some e → (table : ExtensionTable)
    → IsTableInOrder (front ++ x ∷ rest) table → ⊥
none_with front x rest e here table is =
    let long : length (front ++ x ∷ rest) ≡ length front + suc (length rest) = length-append front (x ∷ rest) in
    let lawful : fault_at (front ++ x ∷ rest) (length front) ≡ None
    = is.of.lawful (length front) (omega (arith, long)) in
    let same : fault_at (front ++ x ∷ rest) (length front) ≡ fault_at (front ++ x ∷ []) (length front)
    = at_front front x rest ∙ sym (at_front front x []) in
    let k : Some e ≡ None = sym here ∙ sym same ∙ lawful in
    cc

from_front : (front rest : List (List ℕ)) (table : ExtensionTable) → IsTableInOrder front table
    → TableOrNone (front ++ rest)
from_front front [] table is = inl (table, subst (λ names. IsTableInOrder names table) (sym (append-nil front)) is)
from_front front (x ∷ rest) table is =
    by (λ more has. from_front (front ++ x ∷ []) rest more has) (fault_at (front ++ x ∷ []) (length front)) refl
  where
    by : ((more : ExtensionTable) → IsTableInOrder (front ++ x ∷ []) more → TableOrNone ((front ++ x ∷ []) ++ rest))
        → (o : Option TableError) → fault_at (front ++ x ∷ []) (length front) ≡ o → TableOrNone (front ++ x ∷ rest)
    by later (Some e) here = inr (λ other has. none_with front x rest e here other has)
    by later None here =
        let more = one_more front x table is here in
        subst TableOrNone (append_assoc front (x ∷ []) rest) (later more.0 more.1)

-- names make a table in order, or none
pub table_or_none : (names : List (List ℕ)) → TableOrNone names
unfolding IsStrictlySortedBy
table_or_none names = from_front [] names (record { names = []; extensions = refl })
    (record { of = record { lawful = λ k h. absurd (omega (arith, h)); same = λ text. refl }; rise = tt })
