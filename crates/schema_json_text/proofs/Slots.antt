-- Members that may be there, in the order of their keys: how they are put, and how they are written one after another.
use Rattle.std.proofs.Common.{◌≡◌, ℕ, Bool, true, false, List, [], ◌∷◌, ◌++◌, Option, Some, None, refl, sym, ap, ◌∙◌}
use Rattle.std.proofs.Common.{append_assoc, append-nil, subst}
use Rattle.std.specs.Ordering.{match_ordering, nat_cmp}
use Rattle.std.specs.Cmp.Lexicographic.{slice_cmp}
use Rattle.std.specs.declared.cmp.Ordering.TheVariants.{Less, Greater}
use Rattle.json.specs.Print.{quoted}
use Rattle.serde_json.specs.Data.{Data, Members, no_members, member, put}
use Rattle.serde_json.specs.Written.{comma_if, compact_text, members_text}
use Rattle.schema_json_values.specs.FragmentValues.{with_optional_value}
use Rattle.schema_json_text.specs.Members.{ahead, member_behind, AddsMember}

-- the member, where it is there, before the others
abbrev pub opt : List ℕ → Option Data → Members → Members
opt key None ms = ms
opt key (Some d) ms = member key d ms

-- ---- how they are put

-- what is put at this key comes first
abbrev pub IsFirst : List ℕ → Members → Type 0
IsFirst k ms = (d : Data) → put k d ms ≡ member k d ms

pub first_none : (k : List ℕ) → IsFirst k no_members
first_none k d = refl

pub first_opt : (k l : List ℕ) (o : Option Data) (ms : Members) → slice_cmp nat_cmp k l ≡ Less → IsFirst k ms
    → IsFirst k (opt l o ms)
first_opt k l None ms less f d = f d
first_opt k l (Some e) ms less f d =
    ap (λ r. match_ordering r (member k d (member l e ms)) (member l d ms) (member l e (put k d ms))) less

pub put_first : (k : List ℕ) (o : Option Data) (ms : Members) → IsFirst k ms → with_optional_value k o ms ≡ opt k o ms
put_first k None ms f = refl
put_first k (Some d) ms f = f d

pub put_past : (k l : List ℕ) (o p : Option Data) (ms : Members) → slice_cmp nat_cmp k l ≡ Greater
    → with_optional_value k o (opt l p ms) ≡ opt l p (with_optional_value k o ms)
put_past k l None p ms greater = refl
put_past k l (Some d) None ms greater = refl
put_past k l (Some d) (Some e) ms greater =
    ap (λ r. match_ordering r (member k d (member l e ms)) (member l d ms) (member l e (put k d ms))) greater

-- ---- how they are written

regroup : (old c q t r : List ℕ) → (old ++ (c ++ (q ++ 58 ∷ t))) ++ r ≡ old ++ (c ++ (q ++ 58 ∷ (t ++ r)))
regroup old c q t r =
    append_assoc old (c ++ (q ++ 58 ∷ t)) r
    ∙ ap (λ s. old ++ s) (append_assoc c (q ++ 58 ∷ t) r ∙ ap (λ s. c ++ s) (append_assoc q (58 ∷ t) r))

-- a member behind what stands before
pub adds_step : (later : Bool) (key : List ℕ) (o : Option Data) (old new : List ℕ) (now : Bool) (ms : Members)
    → AddsMember later key o old new now
    → new ++ members_text now ms ≡ old ++ members_text later (opt key o ms)
adds_step true key None old new now ms a =
    λ i. (a.text ∙ append-nil old) i ++ members_text (a.next i) ms
adds_step false key None old new now ms a =
    λ i. (a.text ∙ append-nil old) i ++ members_text (a.next i) ms
adds_step true key (Some d) old new now ms a =
    (λ i. a.text i ++ members_text (a.next i) ms)
    ∙ regroup old (comma_if true) (quoted key) (compact_text d) (members_text true ms)
adds_step false key (Some d) old new now ms a =
    (λ i. a.text i ++ members_text (a.next i) ms)
    ∙ regroup old (comma_if false) (quoted key) (compact_text d) (members_text true ms)

-- there is a member
abbrev pub IsFilled : Members → Type 0
IsFilled ms = members_text true ms ≡ 44 ∷ members_text false ms

pub filled_opt : (k : List ℕ) (o : Option Data) (ms : Members) → IsFilled ms → IsFilled (opt k o ms)
filled_opt k None ms f = f
filled_opt k (Some d) ms f = refl

-- a member ahead of others
pub ahead_step : (key : List ℕ) (o : Option Data) (old new : List ℕ) (ms : Members) → IsFilled ms
    → new ≡ old ++ ahead key o → new ++ members_text false ms ≡ old ++ members_text false (opt key o ms)
ahead_step key None old new ms f e = ap (λ s. s ++ members_text false ms) (e ∙ append-nil old)
ahead_step key (Some d) old new ms f e =
    ap (λ s. s ++ members_text false ms) e
    ∙ regroup old [] (quoted key) (compact_text d ++ 44 ∷ []) (members_text false ms)
    ∙ ap (λ s. old ++ (quoted key ++ 58 ∷ s))
    (append_assoc (compact_text d) (44 ∷ []) (members_text false ms) ∙ ap (λ s. compact_text d ++ s) (sym f))

pub ahead_is : (key : List ℕ) (o : Option Data) (ms : Members) → IsFilled ms
    → ahead key o ++ members_text false ms ≡ members_text false (opt key o ms)
ahead_is key None ms f = refl
ahead_is key (Some d) ms f =
    append_assoc (quoted key) (58 ∷ (compact_text d ++ 44 ∷ [])) (members_text false ms)
    ∙ ap (λ s. quoted key ++ 58 ∷ s)
    (append_assoc (compact_text d) (44 ∷ []) (members_text false ms) ∙ ap (λ s. compact_text d ++ s) (sym f))

pub behind_is : (key : List ℕ) (o : Option Data) (ms : Members)
    → member_behind true key o ++ members_text true ms ≡ members_text true (opt key o ms)
behind_is key None ms = refl
behind_is key (Some d) ms = ap (λ s. 44 ∷ s) (append_assoc (quoted key) (58 ∷ compact_text d) (members_text true ms))

-- ---- what is added

none_added : (later : Bool) (key old : List ℕ) → AddsMember later key None old old later
none_added true key old = record { text = sym (append-nil old); next = refl }
none_added false key old = record { text = sym (append-nil old); next = refl }

pub adds_none : (later : Bool) (key : List ℕ) (o : Option Data) (old : List ℕ) → o ≡ None
    → AddsMember later key o old old later
adds_none later key o old e = subst (λ p. AddsMember later key p old old later) (sym e) (none_added later key old)

one_added : (later : Bool) (key : List ℕ) (d : Data) (old new : List ℕ)
    → new ≡ old ++ (comma_if later ++ (quoted key ++ 58 ∷ compact_text d)) → AddsMember later key (Some d) old new true
one_added true key d old new e = record { text = e; next = refl }
one_added false key d old new e = record { text = e; next = refl }

pub adds_whole : (later : Bool) (key : List ℕ) (o : Option Data) (d : Data) (old new whole : List ℕ) → o ≡ Some d
    → new ≡ old ++ (comma_if later ++ whole) → whole ≡ quoted key ++ 58 ∷ compact_text d
    → AddsMember later key o old new true
adds_whole later key o d old new whole is e w =
    subst (λ p. AddsMember later key p old new true) (sym is)
    (one_added later key d old new (e ∙ ap (λ t. old ++ (comma_if later ++ t)) w))

regroup_some : (old c q t : List ℕ) → (old ++ (c ++ (q ++ 58 ∷ []))) ++ t ≡ old ++ (c ++ (q ++ 58 ∷ t))
regroup_some old c q t =
    append_assoc old (c ++ (q ++ 58 ∷ [])) t
    ∙ ap (λ s. old ++ s) (append_assoc c (q ++ 58 ∷ []) t ∙ ap (λ s. c ++ s) (append_assoc q (58 ∷ []) t))

pub adds_some : (later : Bool) (key : List ℕ) (o : Option Data) (d : Data) (old mid new head : List ℕ) → o ≡ Some d
    → mid ≡ old ++ (comma_if later ++ head) → head ≡ quoted key ++ 58 ∷ [] → new ≡ mid ++ compact_text d
    → AddsMember later key o old new true
adds_some later key o d old mid new head is m k n =
    subst (λ p. AddsMember later key p old new true) (sym is)
    (one_added later key d old new
    (n ∙ ap (λ t. t ++ compact_text d) (m ∙ ap (λ t. old ++ (comma_if later ++ t)) k)
    ∙ regroup_some old (comma_if later) (quoted key) (compact_text d)))

-- the first member, ahead of a further one
pub ahead_some : (key : List ℕ) (o : Option Data) (old mid new : List ℕ) → AddsMember false key o old mid true
    → new ≡ mid ++ 44 ∷ [] → new ≡ old ++ ahead key o
ahead_some key None old mid new a n = let e : true ≡ false = a.next in cc
ahead_some key (Some d) old mid new a n =
    n ∙ ap (λ t. t ++ 44 ∷ []) a.text ∙ regroup old [] (quoted key) (compact_text d) (44 ∷ [])

pub ahead_none : (key : List ℕ) (o : Option Data) (old mid : List ℕ) → AddsMember false key o old mid false
    → mid ≡ old ++ ahead key o
ahead_none key None old mid a = a.text
ahead_none key (Some d) old mid a = let e : false ≡ true = a.next in cc

regroup_ahead : (old q t r : List ℕ) → ((old ++ (q ++ 58 ∷ [])) ++ t) ++ r ≡ old ++ (q ++ 58 ∷ (t ++ r))
regroup_ahead old q t r = simp append_assoc

-- a member ahead of others, where it is there
pub ahead_whole : (key : List ℕ) (o : Option Data) (d : Data) (old n1 n2 new head : List ℕ) → o ≡ Some d
    → n1 ≡ old ++ head → head ≡ quoted key ++ 58 ∷ [] → n2 ≡ n1 ++ compact_text d → new ≡ n2 ++ 44 ∷ []
    → new ≡ old ++ ahead key o
ahead_whole key o d old n1 n2 new head is e1 k e2 e3 =
    e3 ∙ ap (λ t. t ++ 44 ∷ []) (e2 ∙ ap (λ t. t ++ compact_text d) (e1 ∙ ap (λ t. old ++ t) k))
    ∙ regroup_ahead old (quoted key) (compact_text d) (44 ∷ [])
    ∙ ap (λ p. old ++ ahead key p) (sym is)
