-- The members of a type, in order.
use Rattle.std.proofs.Common.{◌≡◌, ℕ, ◌≤◌, true, false, List, [], ◌∷◌, ◌++◌, Option, Some, None, inl, inr, refl, ap}
use Rattle.std.proofs.Common.{◌∙◌, subst, arith}
use Rattle.std.specs.Prelude.{codes}
use Rattle.std.specs.Ordering.{match_ordering, nat_cmp}
use Rattle.std.specs.Cmp.Lexicographic.{slice_cmp}
use Rattle.std.specs.declared.cmp.Ordering.{Ordering}
use Rattle.std.specs.declared.cmp.Ordering.TheVariants.{Less, Equal, Greater}
use Rattle.serde_json.specs.Data.{Data, string, object, Members, no_members, member, depth, members_depth}
use Rattle.serde_json.specs.Find.{get_member}
use Rattle.serde_json.specs.View.{view, members_view}
use Rattle.serde_json.proofs.Views.{Entry}
use Rattle.schema_json_shapes.specs.declared.words.TypeWord.{TypeWord}
use Rattle.schema_json_shapes.specs.declared.words.TypeWord.TheVariants.{String, Long, Boolean, Set, Record, Entity}
use Rattle.schema_json_shapes.specs.declared.words.TypeWord.TheVariants.{EntityOrCommon, Extension, Reference}
use Rattle.schema_json_shapes.specs.declared.words.TypeSite.{TypeSite}
use Rattle.schema_json_shapes.specs.declared.words.TypeSite.TheVariants.{Plain, Attribute, Common}
use Rattle.schema_json_shapes.specs.Tables.{type_fields, site_fields, is_field, first_unknown, first_missing, word_of}
use Rattle.schema_json_shapes.specs.Walk.{Role, Demand, AllMet, demands, member_demands, typed, flag, annotations}
use Rattle.schema_json_shapes.specs.Walk.{type_member, word_fits, fits_table, reference_fits, word_in, text_in}
use Rattle.schema_json_shapes.specs.Inner.{HasInner, inner_demands}
use Rattle.schema_json_shapes.specs.Reads.{field_demands}
use Rattle.schema_json_shapes.proofs.Order.{Rises, NamesRise}
use Rattle.schema_json_shapes.proofs.Tabled.{among, no_unknown, none_missing, tabled, needed_there, unknown_absent}

-- the names of all fields of types, by their bytes
abbrev names : List (List ℕ)
names = codes "additionalAttributes" ∷ codes "annotations" ∷ codes "attributes" ∷ codes "element" ∷ codes "name"
    ∷ codes "required" ∷ codes "type" ∷ []

names_rise : NamesRise names
names_rise = (
  (refl, (refl, (refl, (refl, (refl, (refl, tt)))))),
  (
    (refl, (refl, (refl, (refl, (refl, tt))))),
    ((refl, (refl, (refl, (refl, tt)))), ((refl, (refl, (refl, tt))), ((refl, (refl, tt)), ((refl, tt), (tt, tt))))),
  ),
)

among_names : (site : TypeSite) (w : TypeWord) → among names (type_fields site w) ≡ true
among_names Plain String = refl
among_names Plain Long = refl
among_names Plain Boolean = refl
among_names Plain Set = refl
among_names Plain Record = refl
among_names Plain Entity = refl
among_names Plain EntityOrCommon = refl
among_names Plain Extension = refl
among_names Plain Reference = refl
among_names Attribute String = refl
among_names Attribute Long = refl
among_names Attribute Boolean = refl
among_names Attribute Set = refl
among_names Attribute Record = refl
among_names Attribute Entity = refl
among_names Attribute EntityOrCommon = refl
among_names Attribute Extension = refl
among_names Attribute Reference = refl
among_names Common String = refl
among_names Common Long = refl
among_names Common Boolean = refl
among_names Common Set = refl
among_names Common Record = refl
among_names Common Entity = refl
among_names Common EntityOrCommon = refl
among_names Common Extension = refl
among_names Common Reference = refl

no_attributes : (site : TypeSite) → is_field (site_fields site) (codes "attributes") ≡ false
no_attributes Plain = refl
no_attributes Attribute = refl
no_attributes Common = refl

no_element : (site : TypeSite) → is_field (site_fields site) (codes "element") ≡ false
no_element Plain = refl
no_element Attribute = refl
no_element Common = refl

no_name : (site : TypeSite) → is_field (site_fields site) (codes "name") ≡ false
no_name Plain = refl
no_name Attribute = refl
no_name Common = refl

-- a field that is absent has no demands
gone : (r : Role) (k : List ℕ) (o : Option Data) (ds : List Demand) → o ≡ None → field_demands r k o ++ ds ≡ ds
gone r k o ds e = ap (λ x. field_demands r k x ++ ds) e

abbrev inner_fields : TypeWord → Members → List Demand → List Demand
inner_fields w ms rest =
    field_demands (type_member w (codes "attributes")) (codes "attributes") (get_member (codes "attributes") ms)
    ++ (field_demands (type_member w (codes "element")) (codes "element") (get_member (codes "element") ms)
    ++ (field_demands (type_member w (codes "name")) (codes "name") (get_member (codes "name") ms) ++ rest))

-- of the fields that go with words, only the word's own is there
inner_alone : (site : TypeSite) (w : TypeWord) (ms : Members) (rest : List Demand)
    → first_unknown (type_fields site w) ms ≡ None → inner_fields w ms rest ≡ inner_demands w ms ++ rest
inner_alone site String ms rest u =
    gone _ _ _ _ (unknown_absent (codes "attributes") (type_fields site String) ms (no_attributes site) u)
    ∙ gone _ _ _ _ (unknown_absent (codes "element") (type_fields site String) ms (no_element site) u)
    ∙ gone _ _ _ _ (unknown_absent (codes "name") (type_fields site String) ms (no_name site) u)
inner_alone site Long ms rest u =
    gone _ _ _ _ (unknown_absent (codes "attributes") (type_fields site Long) ms (no_attributes site) u)
    ∙ gone _ _ _ _ (unknown_absent (codes "element") (type_fields site Long) ms (no_element site) u)
    ∙ gone _ _ _ _ (unknown_absent (codes "name") (type_fields site Long) ms (no_name site) u)
inner_alone site Boolean ms rest u =
    gone _ _ _ _ (unknown_absent (codes "attributes") (type_fields site Boolean) ms (no_attributes site) u)
    ∙ gone _ _ _ _ (unknown_absent (codes "element") (type_fields site Boolean) ms (no_element site) u)
    ∙ gone _ _ _ _ (unknown_absent (codes "name") (type_fields site Boolean) ms (no_name site) u)
inner_alone site Reference ms rest u =
    gone _ _ _ _ (unknown_absent (codes "attributes") (type_fields site Reference) ms (no_attributes site) u)
    ∙ gone _ _ _ _ (unknown_absent (codes "element") (type_fields site Reference) ms (no_element site) u)
    ∙ gone _ _ _ _ (unknown_absent (codes "name") (type_fields site Reference) ms (no_name site) u)
inner_alone site Set ms rest u =
    gone _ _ _ _ (unknown_absent (codes "attributes") (type_fields site Set) ms (no_attributes site) u)
    ∙ ap (λ t. inner_demands Set ms ++ t)
    (gone _ _ _ _ (unknown_absent (codes "name") (type_fields site Set) ms (no_name site) u))
inner_alone site Record ms rest u =
    ap (λ t. inner_demands Record ms ++ t)
    (gone _ _ _ _ (unknown_absent (codes "element") (type_fields site Record) ms (no_element site) u)
    ∙ gone _ _ _ _ (unknown_absent (codes "name") (type_fields site Record) ms (no_name site) u))
inner_alone site Entity ms rest u =
    gone _ _ _ _ (unknown_absent (codes "attributes") (type_fields site Entity) ms (no_attributes site) u)
    ∙ gone _ _ _ _ (unknown_absent (codes "element") (type_fields site Entity) ms (no_element site) u)
inner_alone site EntityOrCommon ms rest u =
    gone _ _ _ _ (unknown_absent (codes "attributes") (type_fields site EntityOrCommon) ms (no_attributes site) u)
    ∙ gone _ _ _ _ (unknown_absent (codes "element") (type_fields site EntityOrCommon) ms (no_element site) u)
inner_alone site Extension ms rest u =
    gone _ _ _ _ (unknown_absent (codes "attributes") (type_fields site Extension) ms (no_attributes site) u)
    ∙ gone _ _ _ _ (unknown_absent (codes "element") (type_fields site Extension) ms (no_element site) u)

table_of : (site : TypeSite) (ms : Members) (s : List ℕ) → get_member (codes "type") ms ≡ Some (string s)
    → AllMet (word_fits site ms (get_member (codes "type") ms)) → AllMet (fits_table (type_fields site (word_of s)) ms)
table_of site ms s e h = subst (λ o. AllMet (word_fits site ms o)) e h

-- what a type whose object fits must keep, in order
abbrev pub type_parts : TypeSite → Members → List ℕ → List Demand
type_parts site ms s =
    word_fits site ms (get_member (codes "type") ms)
    ++ (field_demands flag (codes "additionalAttributes") (get_member (codes "additionalAttributes") ms)
    ++ (field_demands annotations (codes "annotations") (get_member (codes "annotations") ms)
    ++ (inner_demands (word_of s) ms
    ++ (field_demands flag (codes "required") (get_member (codes "required") ms)
    ++ (reference_fits (word_of s) s ++ [])))))

pub type_whole : (site : TypeSite) (ms : Members) (s : List ℕ) → Rises ms
    → get_member (codes "type") ms ≡ Some (string s) → AllMet (word_fits site ms (get_member (codes "type") ms))
    → demands (typed site) [] (object ms) ≡ type_parts site ms s
type_whole site ms s rises e h =
    let own = word_fits site ms (get_member (codes "type") ms) in
    let table = table_of site ms s e h in
    let w : word_in ms ≡ s = ap text_in e in
    let open_part = field_demands flag (codes "additionalAttributes") (get_member (codes "additionalAttributes") ms) in
    let notes = field_demands annotations (codes "annotations") (get_member (codes "annotations") ms) in
    let required = field_demands flag (codes "required") (get_member (codes "required") ms) in
    ap (λ v. own ++ member_demands (λ k. []) (type_member (word_of v)) ms) w
    ∙ ap (λ t. own ++ t) (tabled (type_member (word_of s)) names (type_fields site (word_of s)) ms names_rise
    (among_names site (word_of s)) rises table)
    ∙ ap (λ o. own ++ (open_part ++ (notes
    ++ inner_fields (word_of s) ms
    (required ++ (field_demands (type_member (word_of s) (codes "type")) (codes "type") o ++ []))))) e
    ∙ ap (λ t. own ++ (open_part ++ (notes ++ t)))
    (inner_alone site (word_of s) ms (required ++ (reference_fits (word_of s) s ++ []))
    (no_unknown (type_fields site (word_of s)) ms table))

-- the field of the word is there
inner_there : (site : TypeSite) (w : TypeWord) (ms : Members) → first_missing (type_fields site w) ms ≡ None
    → HasInner w ms
inner_there site String ms e = tt
inner_there site Long ms e = tt
inner_there site Boolean ms e = tt
inner_there site Set ms e = needed_there (codes "element") (type_fields site Set) ms (inr (inl refl)) e
inner_there site Record ms e = needed_there (codes "attributes") (type_fields site Record) ms (inr (inl refl)) e
inner_there site Entity ms e = needed_there (codes "name") (type_fields site Entity) ms (inr (inl refl)) e
inner_there site EntityOrCommon ms e =
    needed_there (codes "name") (type_fields site EntityOrCommon) ms (inr (inl refl)) e
inner_there site Extension ms e = needed_there (codes "name") (type_fields site Extension) ms (inr (inl refl)) e
inner_there site Reference ms e = tt

pub has_inner : (site : TypeSite) (ms : Members) (s : List ℕ) → get_member (codes "type") ms ≡ Some (string s)
    → AllMet (word_fits site ms (get_member (codes "type") ms)) → HasInner (word_of s) ms
has_inner site ms s e h = inner_there site (word_of s) ms
    (none_missing (type_fields site (word_of s)) ms (table_of site ms s e h))

-- ---- values inside nest less deep

below_at : (o : Ordering) (d e : Data) (ms : Members) (p : Option Data) → match_ordering o p (Some e) p ≡ Some d
    → (p ≡ Some d → depth d ≤ members_depth ms) → depth e ≤ members_depth ms → depth d ≤ members_depth ms
below_at Less d e ms p h later here = later h
below_at Equal d e ms p h later here = let same : e ≡ d = cc in omega (arith, ap depth same)
below_at Greater d e ms p h later here = later h

pub below : (k : List ℕ) (ms : Members) (d : Data) → get_member k ms ≡ Some d → depth d ≤ members_depth ms
below k no_members d e = absurd (cc)
below k (member l f ms) d e = below_at (slice_cmp nat_cmp k l) d f (member l f ms) (get_member k ms) e
    (λ h. omega (arith, below k ms d h)) (omega arith)

pub entry_below : (done : List Entry) (e : Entry) (left : List Entry)
    → depth (view e.1) ≤ members_depth (members_view (done ++ e ∷ left))
entry_below [] e left = omega arith
entry_below (f ∷ done) e left = omega (arith, entry_below done e left)
