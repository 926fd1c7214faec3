-- The faults of a site, by what the site is.
use Rattle.std.proofs.Common.{◌≡◌, ℕ, true, false, List, ◌∷◌, ◌++◌, Some, ◌⊎◌, inl, inr, refl, sym, ◌∙◌, subst, arith}
use Rattle.cedar_data.specs.Span.{Span}
use Rattle.cedar_identifiers.specs.Words.{is_reserved}
use Rattle.schema_syntax_tokens.specs.declared.token.Token.{Token}
use Rattle.schema_syntax_parser.specs.declared.syntax.AnnotationSyntax.{AnnotationSyntax}
use Rattle.schema_syntax_errors.specs.declared.user_error.UserError.{UserError}
use Rattle.schema_syntax_errors.specs.declared.user_error.UserError.TheVariants.{EmptyList}
use Rattle.schema_syntax_reader.specs.declared.stopped.Stopped.{Stopped}
use Rattle.schema_syntax_reader.specs.declared.stopped.Stopped.TheVariants.{Memory, User}
use Rattle.schema_syntax_reader.specs.Sites.{Site, word, text, annotations, empty}
use Rattle.schema_syntax_reader.specs.Leaves.{word_at}
use Rattle.schema_syntax_reader.specs.UserFaults.{FaultAt, IsBadEscapeAt, empty_list, reserved, escape, note_escape}
use Rattle.schema_syntax_reader.specs.UserFaults.{duplicate}
use Rattle.schema_syntax_reader.specs.Placed.{NoSiteFault}
use Rattle.schema_syntax_reader.specs.Stops.{IsFaultOf, IsStoppedAt, IsReservedStop, IsEscapeStop, NoBadEscapeAt}

-- the value of an annotation has an unlawful escape, and ends there
pub record HasEscape (source : List ℕ) (list : List AnnotationSyntax) (end : ℕ) : Type 0 where
  pub front : List AnnotationSyntax
  pub here : AnnotationSyntax
  pub back : List AnnotationSyntax
  pub value : Token
  pub at : ℕ
  pub split : list ≡ front ++ here ∷ back
  pub has : here.value ≡ Some value
  pub bad : IsBadEscapeAt source value at
  pub ends : end ≡ value.loc.end

-- a key that stands behind the same ends there
pub record HasAgain (source : List ℕ) (list : List AnnotationSyntax) (end : ℕ) : Type 0 where
  pub front : List AnnotationSyntax
  pub first : AnnotationSyntax
  pub middle : List AnnotationSyntax
  pub second : AnnotationSyntax
  pub back : List AnnotationSyntax
  pub split : list ≡ front ++ first ∷ (middle ++ second ∷ back)
  pub same : word_at source first.key ≡ word_at source second.key
  pub ends : end ≡ second.key.loc.end

-- what it is that ends there
abbrev pub EndOf : List ℕ → Site → ℕ → Type 0
EndOf source (word t) end = (is_reserved (word_at source t) ≡ true) × (end ≡ t.loc.end)
EndOf source (text t) end = ((at : ℕ) × IsBadEscapeAt source t at) × (end ≡ t.loc.end)
EndOf source (annotations list) end = HasEscape source list end ⊎ HasAgain source list end
EndOf source (empty brackets) end = end ≡ brackets.end

pub end_of : (source : List ℕ) (site : Site) (fault : UserError) (end : ℕ) → FaultAt source site fault end
    → EndOf source site end
end_of source _ _ _ (empty_list brackets) = refl
end_of source _ _ _ (reserved t h) = (h, refl)
end_of source _ _ _ (escape t at bad) = ((at, bad), refl)
end_of source _ _ _ (note_escape {list} front back key t at split bad) =
    inl (record {
      front = front;
      here = record { key = key; value = Some t };
      back = back;
      value = t;
      at = at;
      split = split;
      has = refl;
      bad = bad;
      ends = refl;
    })
end_of source _ _ _ (duplicate {list} front middle back first second key split is_first is_second o p) =
    inr (record {
      front = front;
      first = first;
      middle = middle;
      second = second;
      back = back;
      split = split;
      same = is_first ∙ sym is_second;
      ends = refl;
    })

pub word_stopped : (source : List ℕ) (t : Token) (e : Stopped) → IsReservedStop source t e
    → IsStoppedAt source (word t) e
word_stopped source t Memory h = tt
word_stopped source t (User fault) h = record {
  end = t.loc.end;
  here = subst (λ f. FaultAt source (word t) f t.loc.end) (sym h.1) (reserved t h.0);
  least = λ other later x. let e : later ≡ t.loc.end = (end_of source (word t) other later x).1 in omega arith;
}

pub word_lawful : (source : List ℕ) (t : Token) → is_reserved (word_at source t) ≡ false → NoSiteFault source (word t)
word_lawful source t free = λ fault end x. let e : false ≡ true = sym free
    ∙ (end_of source (word t) fault end x).0 in cc

pub text_stopped : (source : List ℕ) (t : Token) (e : Stopped) → IsEscapeStop source t e
    → IsStoppedAt source (text t) e
text_stopped source t Memory h = tt
text_stopped source t (User fault) h = record {
  end = t.loc.end;
  here = subst (λ f. FaultAt source (text t) f t.loc.end) (sym h.2) (escape t h.0 h.1);
  least = λ other later x. let e : later ≡ t.loc.end = (end_of source (text t) other later x).1 in omega arith;
}

pub text_lawful : (source : List ℕ) (t : Token) → NoBadEscapeAt source t → NoSiteFault source (text t)
text_lawful source t free = λ fault end x. let h = (end_of source (text t) fault end x).0 in free h.0 h.1

pub empty_stopped : (source : List ℕ) (brackets : Span)
    → IsFaultOf source (empty brackets) (EmptyList (record { node = tt; loc = Some brackets }))
empty_stopped source brackets = record {
  end = brackets.end;
  here = empty_list brackets;
  least = λ other later x. let e : later ≡ brackets.end = end_of source (empty brackets) other later x in omega arith;
}
