use Rattle.std.proofs.Common.{◌≡◌, true, false, ◌∷◌, [], ◌++◌, nat_eq, sym, ap, ◌∙◌, subst, codes}
use Rattle.std.specs.List.{starts_with}
use Rattle.std.specs.Str.{chars}
use Rattle.cedar_identifiers.specs.Names.{name_text, texts_of}
use Rattle.cedar_identifiers.proofs.Joins.{separator_chars}
use Rattle.schema_resolve_lookup.specs.Sought.{namespace_words}
use Rattle.schema_assist_offers.specs.Homes.{StartsSo, StartsOtherwise}
use Rattle.schema_assist_offers.specs.Spellings.{is_outer}
use Rattle.schema_assist_offers.proofs.Homely.{begins_as_first, name_behind}
use Rattle.schema_assist_offers.proofs.homes.home_of.Goals as goal

pub returns-then-not-begins : goal.returns-then-not-begins
returns-then-not-begins c =
    let front = c.args.asked.now.front.now in
    let name = c.in-Some.ns.name in
    let first : starts_with nat_eq name.first.text front ≡ false =
    ap (λ x. starts_with nat_eq x front) (sym c.as_str.ensures) ∙ sym c.if-not-begins.ensures in (
      sym c.if-is_same.ensures,
      ap (λ o. is_outer (namespace_words o)) c.in-Some.is,
      λ word. subst (λ o. StartsOtherwise front (namespace_words o) word) (sym c.in-Some.is)
          (begins_as_first name.first.text (texts_of name.others) word front c.requires ∙ first),
    )

pub returns-in_ok-push_str-in-Some : goal.returns-in_ok-push_str-in-Some
returns-in_ok-push_str-in-Some c =
    let front = c.args.asked.now.front.now in
    let name = c.in-Some.ns.name in
    let words = name.first.text ∷ texts_of name.others in
    let text = c.push_str.new.self in
    let first : starts_with nat_eq name.first.text front ≡ true =
    ap (λ x. starts_with nat_eq x front) (sym c.as_str.ensures) ∙ sym c.if-not-begins.ensures in
    let whole : text ≡ name_text words ++ codes "::" =
    c.in_ok-push_str-in-Some.ensures.ok ∙ ap (λ t. t ++ chars (codes "::")) c.in_ok-text-in-Some.ensures.text
    ∙ ap (λ s. name_text words ++ s) separator_chars in (
      sym c.if-is_same.ensures,
      ap (λ o. is_outer (namespace_words o)) c.in-Some.is,
      λ word. subst (λ o. (name_text (namespace_words o ++ word ∷ []) ≡ text ++ word)
          × StartsSo front (namespace_words o) word) (sym c.in-Some.is) (
            name_behind name.first.text (texts_of name.others) word ∙ ap (λ t. t ++ word) (sym whole),
            begins_as_first name.first.text (texts_of name.others) word front c.requires ∙ first,
          ),
    )
