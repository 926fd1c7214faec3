-- Annotations read one after another.
use Rattle.std.proofs.Common.{◌≡◌, ℕ, ◌+◌, ◌<◌, List, [], ◌∷◌, ◌++◌, length, get_or, take, drop, Option, Some, None}
use Rattle.std.proofs.Common.{sym, ap, ◌∙◌, subst}
use Rattle.std.specs.List.{AllZip}
use Rattle.std.proofs.lemmas.List.{take_more, drop_more, take-append-drop}
use Rattle.std.proofs.lemmas.Slice.Zip.{all_zipped_more}
use Rattle.schema_syntax_parser.specs.declared.syntax.AnnotationSyntax.{AnnotationSyntax}
use Rattle.schema_syntax_errors.specs.declared.user_error.UserError.{UserError}
use Rattle.schema_syntax_reader.specs.Deduplicated.{Placed}
use Rattle.schema_syntax_reader.specs.ReadNotes.{IsRead, IsReadOr, AreReadTo}

pub read_more : (source : List ℕ) (list : List AnnotationSyntax) (i : ℕ) (a : AnnotationSyntax)
    (read read' : List Placed) (p : Placed) (fault : Option UserError)
    → i < length list → a ≡ get_or list i a
    → AllZip (IsRead source) (take i list) read → IsReadOr source a p fault → fault ≡ None → read' ≡ read ++ p ∷ []
    → AllZip (IsRead source) (take (i + 1) list) read'
read_more source list i a read read' p fault lt at so_far h none into =
    let next : IsRead source a p = subst (IsReadOr source a p) none h in
    let split : take (i + 1) list ≡ take i list ++ a ∷ [] = take_more list i a lt
    ∙ ap (λ x. take i list ++ x ∷ []) (sym at) in
    subst (λ l. AllZip (IsRead source) l read') (sym split)
    (subst (AllZip (IsRead source) (take i list ++ a ∷ [])) (sym into)
    (all_zipped_more (IsRead source) (take i list) read a p so_far next))

pub read_stopped : (source : List ℕ) (list : List AnnotationSyntax) (i : ℕ) (a : AnnotationSyntax)
    (read read' : List Placed) (p : Placed) (found : Option UserError) (fault : UserError)
    → i < length list → a ≡ get_or list i a
    → AllZip (IsRead source) (take i list) read → IsReadOr source a p found → found ≡ Some fault
    → read' ≡ read ++ p ∷ [] → AreReadTo source list read' fault
read_stopped source list i a read read' p found fault lt at so_far h some into =
    let last = subst (IsReadOr source a p) some h in
    record {
      front = take i list;
      here = a;
      back = drop (i + 1) list;
      before = read;
      last = p;
      split = sym (take-append-drop i list)
          ∙ ap (λ l. take i list ++ l) (drop_more list i a lt ∙ ap (λ x. x ∷ drop (i + 1) list) (sym at));
      split_read = into;
      each = so_far;
      key = last.0;
      bad = last.1;
    }
