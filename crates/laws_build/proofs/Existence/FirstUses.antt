-- Each of a list once, in order, as it stands there first.
use Rattle.std.proofs.Common.{◌≡◌, Bool, false, List, [], ◌∷◌, cond, refl, sym, ap, ◌∙◌, subst, arith}
use Rattle.std.proofs.Common.{Contains, inl, inr, ◌⊎◌, Ordering, filter}
use Rattle.std.specs.Cmp.{IsTotalOrder}
use Rattle.std.specs.List.Sorted.{IsStrictlySortedBy}
use Rattle.std.specs.Ordering.{is_eq, ordering_reverse}
use Rattle.std.specs.declared.cmp.Ordering.TheVariants.{Less, Equal, Greater}
use Rattle.std.proofs.lemmas.Cmp.{tied_itself, tied_back}
use Rattle.std.proofs.lemmas.List.Elements.{All-contains}
use Rattle.cedar_data.proofs.Lists.{contains_first, contains_later, all_of}
use Rattle.schema_build_hierarchy.specs.FirstUses.{IsFirstUse, HasAlike, AreFirstUses}
use Rattle.laws_build.proofs.Existence.Reached.{first_or_later}
use Rattle.laws_build.proofs.Existence.Rising.{sorted_cons, sorted_parts, none_rise}

module _ {A : Type 0} (R : A → A → Ordering) (total : IsTotalOrder R) where
  -- x takes the place of what is alike, or stands besides
  record Fronted (x : A) (fs zs : List A) : Type 0 where
    rising : IsStrictlySortedBy R zs
    sound : (b : A) → Contains zs b → (x ≡ b) ⊎ (Contains fs b × (R x b ≡ Equal → ⊥))
    here : Contains zs x
    kept : (b : A) → Contains fs b → HasAlike R zs b

  itself_alike : (zs : List A) (b : A) → Contains zs b → HasAlike R zs b
  itself_alike zs b c = (b, c, tied_itself total b)

  less_apart : (x b : A) → R x b ≡ Less → R x b ≡ Equal → ⊥
  less_apart x b less equal = let e : Less ≡ Equal = sym less ∙ equal in cc

  fronted : (x : A) (fs : List A) → IsStrictlySortedBy R fs → (zs : List A) × Fronted x fs zs
  fronted x [] up = (
    x ∷ [],
    record {
      rising = sorted_cons R total x [] (λ y c. absurd (omega (arith, c.1))) up;
      sound = λ b c. elim (first_or_later x [] b c) [
        | inl same ↦ inl same
        | inr none ↦ absurd (omega (arith, none.1))
      ];
      here = contains_first x [];
      kept = λ b c. absurd (omega (arith, c.1));
    },
  )
  fronted x (y ∷ ys) up = go (fronted x ys (sorted_parts R total y ys up).1) (R x y) refl
    where
      below : (z : A) → Contains ys z → R y z ≡ Less
      below = (sorted_parts R total y ys up).0

      go : (zs : List A) × Fronted x ys zs → (o : Ordering) → R x y ≡ o → (zs : List A) × Fronted x (y ∷ ys) zs
      go more Less is =
          let less : (z : A) → Contains (y ∷ ys) z → R x z ≡ Less = λ z c. elim (first_or_later y ys z c) [
            | inl same ↦ ap (R x) (sym same) ∙ is
            | inr there ↦ total.trans x y z is (below z there)
          ] in (
            x ∷ y ∷ ys,
            record {
              rising = sorted_cons R total x (y ∷ ys) less up;
              sound = λ b c. elim (first_or_later x (y ∷ ys) b c) [
                | inl same ↦ inl same
                | inr there ↦ inr (there, less_apart x b (less b there))
              ];
              here = contains_first x (y ∷ ys);
              kept = λ b c. itself_alike (x ∷ y ∷ ys) b (contains_later x (y ∷ ys) b c);
            },
          )
      go more Equal is =
          let less : (z : A) → Contains ys z → R x z ≡ Less = λ z c. total.congr x y z is ∙ below z c in (
            x ∷ ys,
            record {
              rising = sorted_cons R total x ys less (sorted_parts R total y ys up).1;
              sound = λ b c. elim (first_or_later x ys b c) [
                | inl same ↦ inl same
                | inr there ↦ inr (contains_later y ys b there, less_apart x b (less b there))
              ];
              here = contains_first x ys;
              kept = λ b c. elim (first_or_later y ys b c) [
                | inl same ↦ (x, contains_first x ys, ap (R x) (sym same) ∙ is)
                | inr there ↦ itself_alike (x ∷ ys) b (contains_later x ys b there)
              ];
            },
          )
      go more Greater is =
          let turned : R y x ≡ Less = total.antisymm y x ∙ ap ordering_reverse is in
          let less : (z : A) → Contains more.0 z → R y z ≡ Less = λ z c. elim (more.1.sound z c) [
            | inl same ↦ ap (R y) (sym same) ∙ turned
            | inr there ↦ below z there.0
          ] in (
            y ∷ more.0,
            record {
              rising = sorted_cons R total y more.0 less more.1.rising;
              sound = λ b c. elim (first_or_later y more.0 b c) [
                | inl same ↦ inr (
                  subst (Contains (y ∷ ys)) same (contains_first y ys),
                  λ equal. (let e : Greater ≡ Equal = sym is ∙ ap (R x) same ∙ equal in cc),
                )
                | inr there ↦ elim (more.1.sound b there) [
                  | inl same ↦ inl same
                  | inr other ↦ inr (contains_later y ys b other.0, other.1)
                ]
              ];
              here = contains_later y more.0 x more.1.here;
              kept = λ b c. elim (first_or_later y ys b c) [
                | inl same ↦ (y, contains_first y more.0, ap (R y) (sym same) ∙ tied_itself total y)
                | inr there ↦ (
                    let k = more.1.kept b there in
                    (k.0, contains_later y more.0 k.0 k.1, k.2))
              ];
            },
          )

  first_here : (x : A) (xs : List A) → IsFirstUse R (x ∷ xs) x
  first_here x xs = (
    filter (λ y. is_eq (R x y)) xs,
    ap (λ (c : Bool). cond c (x ∷ filter (λ y. is_eq (R x y)) xs) (filter (λ y. is_eq (R x y)) xs))
        (ap is_eq (tied_itself total x)),
  )

  first_later : (x : A) (xs : List A) (b : A) → (R x b ≡ Equal → ⊥) → IsFirstUse R xs b → IsFirstUse R (x ∷ xs) b
  first_later x xs b apart h = (
    h.0,
    ap (λ (c : Bool). cond c (x ∷ filter (λ y. is_eq (R b y)) xs) (filter (λ y. is_eq (R b y)) xs))
        (off (R b x) refl) ∙ h.1,
  )
    where
      off : (o : Ordering) → R b x ≡ o → is_eq (R b x) ≡ false
      off Less is = ap is_eq is
      off Equal is = absurd (apart (tied_back total b x is))
      off Greater is = ap is_eq is

  -- the first uses of a list
  pub first_uses : (uses : List A) → (firsts : List A) × AreFirstUses R uses firsts
  first_uses [] = (
    [],
    record {
      rising = none_rise R total;
      first = all_of (IsFirstUse R []) [] (λ b c. absurd (omega (arith, c.1)));
      whole = λ u c. absurd (omega (arith, c.1));
    },
  )
  first_uses (x ∷ xs) =
      let more = first_uses xs in
      let all = fronted x more.0 more.1.rising in (
        all.0,
        record {
          rising = all.1.rising;
          first = all_of (IsFirstUse R (x ∷ xs)) all.0 (λ b c. elim (all.1.sound b c) [
            | inl same ↦ subst (IsFirstUse R (x ∷ xs)) same (first_here x xs)
            | inr there ↦ first_later x xs b there.1
                (All-contains (IsFirstUse R xs) more.0 b more.1.first there.0)
          ]);
          whole = λ u c. elim (first_or_later x xs u c) [
            | inl same ↦ (x, all.1.here, ap (R x) (sym same) ∙ tied_itself total x)
            | inr there ↦ (
                let f = more.1.whole u there in
                let z = all.1.kept f.0 f.1 in
                (z.0, z.1, total.congr z.0 f.0 u z.2 ∙ f.2))
          ];
        },
      )
