-- A text has one error at most.
use Rattle.std.proofs.Common.{◌≡◌, ◌≤◌, ℕ, List, length, refl, ap, subst, arith, IsUtf8}
use Rattle.schema_syntax_tokens.specs.declared.token.Token.{Token}
use Rattle.schema_syntax_tokens.specs.Escapes.{BadEscape}
use Rattle.schema_syntax_tokens.specs.Scans.{Scans}
use Rattle.schema_syntax_parser.specs.Syntax.{IsSyntax}
use Rattle.schema_syntax_parser.specs.declared.syntax.ItemSyntax.{ItemSyntax}
use Rattle.schema_syntax_errors.specs.declared.parse_error.ParseError.{ParseError}
use Rattle.schema_syntax_errors.specs.declared.parse_error.ParseError.TheVariants.{User}
use Rattle.schema_syntax_errors.specs.declared.user_error.UserError.{UserError}
use Rattle.schema_syntax_reader.specs.Sites.{sites_of}
use Rattle.schema_syntax_reader.specs.UserFaults.{HasUserFault, IsFirstUserFault}
use Rattle.schema_syntax_reader.proofs.Fits.{sites_ends, syntax_fits}
use Rattle.schema_syntax_reader.proofs.Rising.{scans_rise}
use Rattle.schema_syntax.specs.declared.syntax_fault.SyntaxFault.{SyntaxFault}
use Rattle.schema_syntax.specs.SyntaxFaults.{IsSyntaxFault, IsSentence}
use Rattle.schema_syntax.specs.ParseAnswers.{IsErrorOf, syntax, user, error_of}
use Rattle.laws_syntax.proofs.OneTree.TokenPlaces.{scans_placed, scans_mount}
use Rattle.laws_syntax.proofs.OneTree.OneUserFault.{Mounts, mount_ends, sub_mounts, faults_once}

-- the ends of the sites of a text mount
sites_mount : (text : List ℕ) (tokens : List Token) (items : List ItemSyntax) → IsUtf8 text
    → Scans text tokens (length text) → IsSyntax tokens items → Mounts (sites_ends (sites_of items))
sites_mount text tokens items u s r =
    let fits = syntax_fits text r (record
    { placed = scans_placed text tokens (length text) u s; rise = scans_rise text tokens (length text) s }) in
    sub_mounts fits.sub (mount_ends tokens (scans_mount text tokens (length text) u s))

module _ (bad_once : (body : List ℕ) (at bt : ℕ) → BadEscape body at → BadEscape body bt → at ≡ bt) where
  pub no_two_together : (text : List ℕ) (tokens : List Token) (items : List ItemSyntax) (f g : UserError) (end : ℕ)
      → IsUtf8 text → Scans text tokens (length text) → IsSyntax tokens items → HasUserFault text items f end
      → HasUserFault text items g end → f ≡ g
  no_two_together text tokens items f g end u s r h k =
      faults_once bad_once text items f g end end (sites_mount text tokens items u s r) h k refl

  first_once : (text : List ℕ) (tokens : List Token) (items : List ItemSyntax) (f g : UserError) → IsUtf8 text
      → Scans text tokens (length text) → IsSyntax tokens items → IsFirstUserFault text items f
      → IsFirstUserFault text items g → f ≡ g
  first_once text tokens items f g u s r h k =
      let below : h.end ≤ k.end = h.first g k.end k.has in
      let above : k.end ≤ h.end = k.first f h.end h.has in
      faults_once bad_once text items f g h.end k.end (sites_mount text tokens items u s r) h.has k.has (omega arith)

  module _
      (scan_once : (text : List ℕ) (ts us : List Token) (at bt : ℕ) → Scans text ts at → Scans text us bt
      → (ts ≡ us) × (at ≡ bt))
      (syntax_once : (tokens : List Token) (items others : List ItemSyntax) → IsSyntax tokens items
      → IsSyntax tokens others → items ≡ others)
      (fault_once : (text : List ℕ) (fault other : SyntaxFault) → IsSyntaxFault text fault → IsSyntaxFault text other
      → fault ≡ other)
      (apart : (text : List ℕ) (fault : SyntaxFault) → IsSyntaxFault text fault → IsSentence text → ⊥) where
    pub error_once : (text : List ℕ) → IsUtf8 text → (e other : ParseError) → IsErrorOf text e → IsErrorOf text other
        → e ≡ other
    error_once text u e other (syntax f h) (syntax g k) = ap error_of (fault_once text f g h k)
    error_once text u e other (syntax f h) (user ts g are k) =
        absurd (apart text f h (record { tokens = ts; scans = are.scans; sentence = are.sentence }))
    error_once text u e other (user ts f are h) (syntax g k) =
        absurd (apart text g k (record { tokens = ts; scans = are.scans; sentence = are.sentence }))
    error_once text u e other (user ts f are h) (user us g too k) =
        let tokens : ts ≡ us = (scan_once text ts us (length text) (length text) are.scans too.scans).0 in
        let items : h.items ≡ k.items =
        syntax_once us h.items k.items (subst (λ xs. IsSyntax xs h.items) tokens h.syntax) k.syntax in
        ap User (first_once text us k.items f g u too.scans k.syntax
        (subst (λ xs. IsFirstUserFault text xs f) items h.first) k.first)
