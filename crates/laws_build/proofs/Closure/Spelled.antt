-- What lexemes spell has names, and each enum a choice.
use Rattle.std.proofs.Common.{List, [], ◌∷◌, Option}
use Rattle.std.specs.Prelude.{ℕ, Bool}
use Rattle.std.specs.List.{AllByRecursion}
use Rattle.schema_syntax_grammar.specs.declared.token_kind.TokenKind.{TokenKind}
use Rattle.schema_syntax_tokens.specs.Laid.{Lexeme}
use Rattle.schema_syntax_reader.specs.Leaves.{Notes}
use Rattle.laws_written.specs.PrintedDecls.{IsSome}
use Rattle.laws_written.specs.Spellings.{IsChainOf, one, more, AreNamesOf, one_name, more_names, SpellsPath}
use Rattle.laws_written.specs.Spellings.{AreSeparatedOf, no_item, last_item, more_items, AreListedOf, single_item}
use Rattle.laws_written.specs.Spellings.{listed_items, AreManyOf, no_more_items, item_first, AreParentsOf}
use Rattle.laws_written.specs.Spellings.{no_parent}
use Rattle.laws_written.specs.Spellings.{some_parents, SpellsRef, plain_ref, typed_ref, SpellsType, path_type}
use Rattle.laws_written.specs.Spellings.{set_type, record_type, IsRecordOf, braces, AreAttributesOf, no_attribute}
use Rattle.laws_written.specs.Spellings.{last_attribute, more_attributes, IsAttributeOf, required, optional}
use Rattle.laws_written.specs.Spellings.{SpellsShape, no_shape, bare_shape, equals_shape, SpellTags, no_tags}
use Rattle.laws_written.specs.Spellings.{some_tags, IsMemberOf, types_of, path_context, record_context}
use Rattle.laws_written.specs.Spellings.{SpellsApplies, no_applies, some_applies, SpellsDecl, entity_of, enum_of}
use Rattle.laws_written.specs.Spellings.{external_entity_of, action_of, external_action_of, common_of}
use Rattle.laws_written.specs.Spellings.{SpellsDeclared, declared_of, SpellsItem, namespace_of, outside_of}
use Rattle.laws_written.specs.Spellings.{SpellsSchema}
use Rattle.laws_written.specs.Written.{WrittenType, WrittenAttributes, WrittenRef, WrittenMember, WrittenDecl}
use Rattle.laws_written.specs.Written.{WrittenDeclared, WrittenItem}
use Rattle.laws_translate.specs.FragmentsSay.{decls_of_item}
use Rattle.laws_translate.specs.Named.{IsNamedType, AreNamedAttributes, AreNamedTags, IsNamedRef, IsNamedMember}
use Rattle.laws_translate.specs.Named.{AreNamedMembers, IsNamedDecl, IsNamedDeclared, IsWellNamed}
use Rattle.laws_build.specs.Closure.Chosen.{IsChosenDecl, AreChosen}

chain_some : (separator : TokenKind) (u : List Lexeme) (names : List (List ℕ)) → IsChainOf separator u names
    → IsSome names
chain_some separator u names (one i) = tt
chain_some separator u names (more i k c) = tt

names_some : (u : List Lexeme) (names : List (List ℕ)) → AreNamesOf u names → IsSome names
names_some u names (one_name n) = tt
names_some u names (more_names n k c) = tt

module _ {A : Type 0} (P : List Lexeme → A → Type 0) (Q : A → Type 0) (each : (u : List Lexeme) (x : A) → P u x → Q x)
  where
    separated_all : (u : List Lexeme) (xs : List A) → AreSeparatedOf P u xs → AllByRecursion Q xs
    separated_all u xs no_item = tt
    separated_all u xs (last_item p) = (each _ _ p, tt)
    separated_all u xs (more_items c p k s) = (each _ _ p, separated_all _ _ s)

    listed_all : (u : List Lexeme) (xs : List A) → AreListedOf P u xs → AllByRecursion Q xs
    listed_all u xs (single_item p) = (each _ _ p, tt)
    listed_all u xs (listed_items c k s l) = separated_all _ _ s

    parents_all : (u : List Lexeme) (xs : List A) → AreParentsOf P u xs → AllByRecursion Q xs
    parents_all u xs no_parent = tt
    parents_all u xs (some_parents k l) = listed_all _ _ l

    many_all : (u : List Lexeme) (xs : List A) → AreManyOf P u xs → AllByRecursion Q xs
    many_all u xs no_more_items = tt
    many_all u xs (item_first p m) = (each _ _ p, many_all _ _ m)

path_some : (u : List Lexeme) (p : List (List ℕ)) → SpellsPath u p → IsSome p
path_some u p c = chain_some _ u p c

mutual
  type_named : (u : List Lexeme) (t : WrittenType) → SpellsType u t → IsNamedType t
  type_named u t (path_type c) = path_some _ _ c
  type_named u t (set_type c k l s g) = type_named _ _ s
  type_named u t (record_type r) = record_named _ _ r

  record_named : (u : List Lexeme) (xs : WrittenAttributes) → IsRecordOf u xs → AreNamedAttributes xs
  record_named u xs (braces c k a l) = attributes_named _ _ a

  attributes_named : (u : List Lexeme) (xs : WrittenAttributes) → AreAttributesOf u xs → AreNamedAttributes xs
  attributes_named u xs no_attribute = tt
  attributes_named u xs (last_attribute a) = (attribute_named _ _ _ _ _ a, tt)
  attributes_named u xs (more_attributes c a k others) =
      (attribute_named _ _ _ _ _ a, attributes_named _ _ others)

  attribute_named : (u : List Lexeme) (ns : Notes) (n : List ℕ) (r : Bool) (t : WrittenType) → IsAttributeOf u ns n r t
      → IsNamedType t
  attribute_named u ns n r t (required x c a m k s) = type_named _ _ s
  attribute_named u ns n r t (optional x q c a m j k s) = type_named _ _ s

shape_named : (u : List Lexeme) (xs : WrittenAttributes) → SpellsShape u xs → AreNamedAttributes xs
shape_named u xs no_shape = tt
shape_named u xs (bare_shape r) = record_named _ _ r
shape_named u xs (equals_shape k r) = record_named _ _ r

tags_named : (u : List Lexeme) (t : Option WrittenType) → SpellTags u t → AreNamedTags t
tags_named u t no_tags = tt
tags_named u t (some_tags k s) = type_named _ _ s

ref_named : (u : List Lexeme) (r : WrittenRef) → SpellsRef u r → IsNamedRef r
ref_named u r (plain_ref n) = tt
ref_named u r (typed_ref s q body p k j e f) = path_some _ _ p

member_named : (u : List Lexeme) (m : WrittenMember) → IsMemberOf u m → IsNamedMember m
member_named u m (types_of k c l) = listed_all SpellsPath IsSome path_some _ _ l
member_named u m (path_context k c p) = path_some _ _ p
member_named u m (record_context k c r) = record_named _ _ r

members_named : (u : List Lexeme) (ms : Option (List WrittenMember)) → SpellsApplies u ms → AreNamedMembers ms
members_named u ms no_applies = tt
members_named u ms (some_applies c k o s b) = separated_all IsMemberOf IsNamedMember member_named _ _ s

decl_named : (u : List Lexeme) (d : WrittenDecl) → SpellsDecl u d → IsNamedDecl d × IsChosenDecl d
decl_named u d (entity_of z k i p s t l) =
    ((parents_all SpellsPath IsSome path_some _ _ p, shape_named _ _ s, tags_named _ _ t), tt)
decl_named u d (enum_of n o c z k i e b s l m) = (tt, tt)
decl_named u d (external_entity_of z k e i p l) = (parents_all SpellsPath IsSome path_some _ _ p, tt)
decl_named u d (action_of z k n r s l) =
    ((names_some _ _ n, parents_all SpellsRef IsNamedRef ref_named _ _ r, members_named _ _ s), tt)
decl_named u d (external_action_of z k a n r l) = (parents_all SpellsRef IsNamedRef ref_named _ _ r, tt)
decl_named u d (common_of z k i e t l) = (type_named _ _ t, tt)

abbrev IsGoodDeclared : WrittenDeclared → Type 0
IsGoodDeclared d = IsNamedDeclared d × IsChosenDecl d.decl

declared_good : (u : List Lexeme) (d : WrittenDeclared) → SpellsDeclared u d → IsGoodDeclared d
declared_good u d (declared_of a s) = decl_named _ _ s

both_all : {A : Type 0} (P Q : A → Type 0) (xs : List A) → AllByRecursion (λ x. P x × Q x) xs
    → AllByRecursion P xs × AllByRecursion Q xs
both_all P Q [] h = (tt, tt)
both_all P Q (x ∷ xs) h = let more = both_all P Q xs h.1 in ((h.0.0, more.0), (h.0.1, more.1))

abbrev IsGoodItem : WrittenItem → Type 0
IsGoodItem i = IsWellNamed i × AllByRecursion (λ d. IsChosenDecl d.decl) (decls_of_item i)

item_good : (u : List Lexeme) (i : WrittenItem) → SpellsItem u i → IsGoodItem i
item_good u i (namespace_of n o c a k p b ds l) =
    let all = both_all IsNamedDeclared (λ d. IsChosenDecl d.decl) _
    (many_all SpellsDeclared IsGoodDeclared declared_good _ _ ds) in
    ((path_some _ _ p, all.0), all.1)
item_good u i (outside_of d) = let h = declared_good _ _ d in (h.0, (h.1, tt))

-- each item has names, and each enum in it a choice
pub schema_good : (u : List Lexeme) (w : List WrittenItem) → SpellsSchema u w
    → AllByRecursion IsWellNamed w × AreChosen w
schema_good u w h = both_all IsWellNamed (λ i. AllByRecursion (λ d. IsChosenDecl d.decl) (decls_of_item i)) w
    (many_all SpellsItem IsGoodItem item_good u w h)
