-- What annotations stand for is one, where no key stands twice.
use Rattle.std.specs.declared.cmp.Ordering.TheVariants.{Less}
use Rattle.std.proofs.Common.{◌≡◌, ◌⊎◌, ℕ, true, false, List, [], ◌∷◌, ◌++◌, Option, Some, None, inl, inr, refl}
use Rattle.std.proofs.Common.{sym, ap, ◌∙◌, subst}
use Rattle.std.specs.Prelude.{map}
use Rattle.std.specs.List.{All}
use Rattle.std.specs.List.Sorted.{IsStrictlySortedBy}
use Rattle.std.specs.Map.{lookup}
use Rattle.std.specs.Str.{bytes_eq}
use Rattle.std.proofs.lemmas.Slice.Eq.{bytes_eq-Decides}
use Rattle.std.proofs.lemmas.List.{length-map, append_assoc}
use Rattle.std.proofs.lemmas.List.Elements.{All-nil, All-cons, All-head, All-tail}
use Rattle.std.proofs.lemmas.Map.Keys.{sorted_head, sorted_tail}
use Rattle.std.proofs.lemmas.Bool.{cases_Bool, false_from_ne_true}
use Rattle.std.proofs.lemmas.Option.{same_Some}
use Rattle.cedar_data.specs.Text.{text_cmp}
use Rattle.cedar_data.proofs.Orders.{text_total}
use Rattle.schema_syntax_tokens.specs.declared.token.Token.{Token}
use Rattle.schema_syntax_tokens.specs.Escapes.{Unescapes}
use Rattle.cedar_identifiers.specs.declared.any_id.AnyId.{AnyId}
use Rattle.cedar_identifiers.proofs.Same.{any_id_same}
use Rattle.schema_syntax_parser.specs.declared.syntax.AnnotationSyntax.{AnnotationSyntax}
use Rattle.schema_syntax_errors.specs.declared.user_error.UserError.{UserError}
use Rattle.schema_syntax_reader.specs.Sites.{annotations}
use Rattle.schema_syntax_reader.specs.Leaves.{Notes, word_at, IsNoteValue, HasNote, AreNotes}
use Rattle.schema_syntax_reader.specs.UserFaults.{FaultAt, duplicate, IsOtherKey}
use Rattle.laws_syntax.proofs.OneTree.Members.{In, AllIn, Apart, no_other, above, less_itself, same_rising}
use Rattle.laws_syntax.proofs.OneTree.Values.{one_string}

same : (x y : List ℕ) → (x ≡ y) ⊎ (x ≡ y → ⊥)
same x y = elim (cases_Bool (bytes_eq x y)) [
  | inl h ↦ inl ((bytes_eq-Decides x y).0 h)
  | inr h ↦ inr (λ e. let k : true ≡ false = sym ((bytes_eq-Decides x y).1 e) ∙ h in cc)
]

-- the value beside the key with this text
abbrev at : List ℕ → Notes → Option (Option (List ℕ))
at z n = lookup (λ key. bytes_eq key.text z) n

abbrev names : Notes → List (List ℕ)
names n = map (λ note. note.0.text) n

hit : (k : AnyId) (v : Option (List ℕ)) (n : Notes) (z : List ℕ) → k.text ≡ z → at z ((k, v) ∷ n) ≡ Some v
hit k v n z e = rw ((bytes_eq-Decides k.text z).1 e) refl

miss : (k : AnyId) (v : Option (List ℕ)) (n : Notes) (z : List ℕ) → (k.text ≡ z → ⊥) → at z ((k, v) ∷ n) ≡ at z n
miss k v n z h = rw (false_from_ne_true (bytes_eq k.text z) (λ e. h ((bytes_eq-Decides k.text z).0 e))) refl

named : (z : List ℕ) (n : Notes) (v : Option (List ℕ)) → at z n ≡ Some v → In z (names n)
named z [] v h = cc
named z (note ∷ n) v h = elim (same note.0.text z) [
  | inl e ↦ inl (sym e)
  | inr e ↦ inr (named z n v (sym (miss note.0 note.1 n z e) ∙ h))
]

-- the key that a text is
key_named : (z : List ℕ) (n : Notes) → In z (names n) → (key : AnyId) × (z ≡ key.text)
key_named z [] h = absurd h
key_named z (note ∷ n) (inl e) = (note.0, e)
key_named z (note ∷ n) (inr h) = key_named z n h

-- notes by rising keys are known by what stands beside each
same_notes : (n m : Notes) → IsStrictlySortedBy text_cmp (names n) → names n ≡ names m
    → ((z : List ℕ) → In z (names n) → at z n ≡ at z m) → n ≡ m
same_notes [] [] up e beside = refl
same_notes [] (b ∷ m) up e beside = cc
same_notes (a ∷ n) [] up e beside = cc
same_notes (a ∷ n) (b ∷ m) up e beside =
    let first : a.0.text ≡ b.0.text = cc in
    let rest : names n ≡ names m = cc in
    let key : a.0 ≡ b.0 = any_id_same a.0 b.0 first in
    let value : Some a.1 ≡ Some b.1 =
    sym (hit a.0 a.1 n a.0.text refl) ∙ beside a.0.text (inl refl) ∙ hit b.0 b.1 m a.0.text (sym first) in
    let less = sorted_head text_cmp a.0.text (names n) up in
    let apart : (z : List ℕ) → In z (names n) → a.0.text ≡ z → ⊥ =
    λ z there f. less_itself text_total a.0.text
    (subst (λ w. text_cmp a.0.text w ≡ Less) (sym f) (above text_total a.0.text z (names n) less there)) in
    let more : n ≡ m = same_notes n m (sorted_tail text_cmp a.0.text (names n) up) rest
    (λ z there. sym (miss a.0 a.1 n z (apart z there)) ∙ beside z (inr there)
    ∙ miss b.0 b.1 m z (λ f. apart z there (first ∙ f))) in
    λ i. (key i, same_Some a.1 b.1 value i) ∷ more i

module _ (value : (body cs ds : List ℕ) → Unescapes body cs → Unescapes body ds → cs ≡ ds) (text : List ℕ) where
  one_value_of : (v : Option Token) (a b : Option (List ℕ)) → IsNoteValue text v a → IsNoteValue text v b → a ≡ b
  one_value_of None None None h k = refl
  one_value_of None None (Some b) h k = absurd k
  one_value_of None (Some a) b h k = absurd h
  one_value_of (Some t) None b h k = absurd h
  one_value_of (Some t) (Some a) None h k = absurd k
  one_value_of (Some t) (Some a) (Some b) h k = ap Some (one_string value text t a b h k)

  abbrev key_of : AnnotationSyntax → List ℕ
  key_of a = word_at text a.key

  all_named : (list : List AnnotationSyntax) (n : Notes) → All (HasNote text n) list
      → AllIn (map key_of list) (names n)
  all_named [] n all = tt
  all_named (a ∷ list) n all =
      let h = All-head (HasNote text n) a list all in
      (named (key_of a) n h.0 h.1, all_named list n (All-tail (HasNote text n) a list all))

  into : (list : List AnnotationSyntax) (n : Notes) → All (HasNote text n) list → (z : List ℕ)
      → In z (map key_of list)
      → In z (names n)
  into [] n all z h = absurd h
  into (a ∷ list) n all z (inl e) =
      let h = All-head (HasNote text n) a list all in subst (λ w. In w (names n)) (sym e) (named (key_of a) n h.0 h.1)
  into (a ∷ list) n all z (inr h) = into list n (All-tail (HasNote text n) a list all) z h

  same_beside : (list : List AnnotationSyntax) (n m : Notes) → All (HasNote text n) list → All (HasNote text m) list
      → (z : List ℕ) → In z (map key_of list) → at z n ≡ at z m
  same_beside [] n m all both z h = absurd h
  same_beside (a ∷ list) n m all both z (inl e) =
      let h = All-head (HasNote text n) a list all in
      let k = All-head (HasNote text m) a list both in
      let here : at (key_of a) n ≡ at (key_of a) m = h.1 ∙ ap Some (one_value_of a.value h.0 k.0 h.2 k.2) ∙ sym k.1 in
      subst (λ w. at w n ≡ at w m) (sym e) here
  same_beside (a ∷ list) n m all both z (inr h) =
      same_beside list n m (All-tail (HasNote text n) a list all) (All-tail (HasNote text m) a list both) z h

  -- where a key stands first
  record Found (key : List ℕ) (list : List AnnotationSyntax) : Type 0 where
    middle : List AnnotationSyntax
    second : AnnotationSyntax
    back : List AnnotationSyntax
    split : list ≡ middle ++ second ∷ back
    is : key_of second ≡ key
    others : All (IsOtherKey text key) middle

  further : (key : List ℕ) (a : AnnotationSyntax) (list : List AnnotationSyntax)
      → (In key (map key_of list) → Found key list) → (key_of a ≡ key → ⊥) → In key (map key_of (a ∷ list))
      → Found key (a ∷ list)
  further key a list behind out (inl e) = absurd (out (sym e))
  further key a list behind out (inr h) =
      let f = behind h in
      record {
        middle = a ∷ f.middle;
        second = f.second;
        back = f.back;
        split = ap (λ l. a ∷ l) f.split;
        is = f.is;
        others = All-cons (IsOtherKey text key) a f.middle out f.others;
      }

  find_key : (key : List ℕ) (list : List AnnotationSyntax) → In key (map key_of list) → Found key list
  find_key key [] h = absurd h
  find_key key (a ∷ list) h = elim (same (key_of a) key) [
    | inl e ↦ record {
      middle = [];
      second = a;
      back = list;
      split = refl;
      is = e;
      others = All-nil (IsOtherKey text key);
    }
    | inr out ↦ further key a list (find_key key list) out h
  ]

  none_has : (key : List ℕ) (front : List AnnotationSyntax) → (In key (map key_of front) → ⊥)
      → All (IsOtherKey text key) front
  none_has key [] out = All-nil (IsOtherKey text key)
  none_has key (a ∷ front) out =
      All-cons (IsOtherKey text key) a front (λ e. out (inl (sym e))) (none_has key front (λ h. out (inr h)))

  in_push : (z : List ℕ) (front : List AnnotationSyntax) (a : AnnotationSyntax)
      → In z (map key_of (front ++ a ∷ [])) → In z (map key_of front) ⊎ (z ≡ key_of a)
  in_push z [] a (inl e) = inr e
  in_push z [] a (inr h) = absurd h
  in_push z (b ∷ front) a (inl e) = inl (inl e)
  in_push z (b ∷ front) a (inr h) = elim (in_push z front a h) [
    | inl k ↦ inl (inr k)
    | inr e ↦ inr e
  ]

  module _ (list : List AnnotationSyntax) (n : Notes) (all : All (HasNote text n) list)
      (faultless : (fault : UserError) (end : ℕ) → FaultAt text (annotations list) fault end → ⊥) where
    in_list : (front rest : List AnnotationSyntax) → list ≡ front ++ rest → (z : List ℕ) → In z (map key_of rest)
        → In z (map key_of list)
    in_list front rest e z h = subst (λ l. In z (map key_of l)) (sym e) (behind front rest z h)
      where
        behind : (front rest : List AnnotationSyntax) (z : List ℕ) → In z (map key_of rest)
            → In z (map key_of (front ++ rest))
        behind [] rest z h = h
        behind (a ∷ front) rest z h = inr (behind front rest z h)

    apart_from : (front rest : List AnnotationSyntax) → list ≡ front ++ rest
        → ((z : List ℕ) → In z (map key_of front) → In z (map key_of rest) → ⊥) → Apart (map key_of rest)
    apart_from front [] e out = tt
    apart_from front (a ∷ rest) e out =
        let once : In (key_of a) (map key_of rest) → ⊥ = λ h.
        let f = find_key (key_of a) rest h in
        let key = key_named (key_of a) n
        (into list n all (key_of a) (in_list front (a ∷ rest) e (key_of a) (inl refl))) in
        let split : list ≡ front ++ a ∷ (f.middle ++ f.second ∷ f.back) = e ∙ ap (λ l. front ++ a ∷ l) f.split in
        let before : All (IsOtherKey text key.0.text) front =
        subst (λ k. All (IsOtherKey text k) front) key.1
        (none_has (key_of a) front (λ k. out (key_of a) k (inl refl))) in
        let between : All (IsOtherKey text key.0.text) f.middle = subst (λ k. All (IsOtherKey text k) f.middle)
        key.1 f.others in
        faultless _ _ (duplicate front f.middle f.back a f.second key.0 split key.1 (f.is ∙ key.1) before between) in (
          once,
          apart_from (front ++ a ∷ []) rest (e ∙ sym (append_assoc front (a ∷ []) rest))
              (λ z h k. elim (in_push z front a h) [
                | inl there ↦ out z there (inr k)
                | inr f ↦ once (subst (λ w. In w (map key_of rest)) f k)
              ]),
        )

    back_in_list : AreNotes text list n → (z : List ℕ) → In z (names n) → In z (map key_of list)
    back_in_list are z h =
        no_other same (map key_of list) (names n)
        (length-map n (λ (note : AnyId × Option (List ℕ)). note.0.text) ∙ are.as_many ∙ sym (length-map list key_of))
        (apart_from [] list refl (λ z h k. h)) (all_named list n all) z h

  -- annotations of which no key stands twice stand for one list of notes
  pub one_notes : (list : List AnnotationSyntax) (n m : Notes)
      → ((fault : UserError) (end : ℕ) → FaultAt text (annotations list) fault end → ⊥)
      → AreNotes text list n → AreNotes text list m → n ≡ m
  one_notes list n m faultless h k =
      let here = back_in_list list n h.each faultless h in
      let there = back_in_list list m k.each faultless k in
      let keys : names n ≡ names m = same_rising text_total (names n) (names m) h.sorted k.sorted
      (λ z p. into list m k.each z (here z p)) (λ z p. into list n h.each z (there z p)) in
      same_notes n m h.sorted keys (λ z p. same_beside list n m h.each k.each z (here z p))
