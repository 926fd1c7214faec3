use Rattle.std.proofs.Common.{◌≡◌, ◌<◌, length, sym, ap, subst, arith}
use Rattle.schema_syntax_grammar.specs.declared.token_kind.TheConstants.{ALL_KINDS}
use Rattle.schema_syntax_grammar.specs.Grammar.{Sentence, Viable}
use Rattle.schema_syntax_grammar.specs.Fault.{IsFault}
use Rattle.schema_syntax_grammar.proofs.Main.{sentence_viable}
use Rattle.schema_syntax_tokens.specs.TokenLists.{kinds_of}
use Rattle.schema_syntax.specs.SyntaxFaults.{IsTokenAt, IsEndOf, invalid_token}
use Rattle.schema_syntax.proofs.Found.{found_token, found_invalid, found_end, some_token}
use Rattle.schema_syntax.proofs.syntax_fault.sentence_of.Goals as goal

pub returns-then-at-text : goal.returns-then-at-text
returns-then-at-text c =
    let tokens = c.in_ok-tokens.field-0.tokens.items in
    let same : kinds_of c.deref.result.now ≡ kinds_of tokens = ap kinds_of c.deref.ensures.value in
    let sentence : Sentence (kinds_of c.deref.result.now) = rw c.in-None.is at c.in_ok-fault_of.ensures in
    record {
      scans = tt;
      placed = tt;
      sentence = tt;
      shallow = tt;
      fault = invalid_token tokens c.in_ok-tokens.field-0.at c.in_ok-tokens.ensures.scans (omega arith)
          (subst Viable same (sentence_viable (kinds_of c.deref.result.now) sentence));
    }

pub returns-then-place-len : goal.returns-then-place-len
returns-then-place-len c =
    let tokens = c.in_ok-tokens.field-0.tokens.items in
    let same : kinds_of c.deref.result.now ≡ kinds_of tokens = ap kinds_of c.deref.ensures.value in
    let fault : IsFault ALL_KINDS (kinds_of tokens) c.in-Some.field-0.place c.in-Some.field-0.expected.items = subst
    (λ k. IsFault ALL_KINDS k c.in-Some.field-0.place c.in-Some.field-0.expected.items) same
    (rw c.in-Some.is at c.in_ok-fault_of.ensures) in
    record {
      scans = tt;
      placed = tt;
      sentence = tt;
      shallow = tt;
      fault = found_token c.args.text.now tokens c.in_ok-tokens.field-0.at c.in-Some.field-0.place
          c.in-Some.field-0.expected.items c.in_ok-tokens.ensures.scans fault c.in_ok-fault-in-Some.fault
          (subst (λ ts. IsTokenAt c.args.text.now ts c.in-Some.field-0.place c.in-Some.field-0.expected.items
          c.in_ok-fault-in-Some.fault) c.deref-then-place-len.ensures.value c.in_ok-fault-in-Some.ensures);
    }

pub returns-then-at-text-2 : goal.returns-then-at-text-2
returns-then-at-text-2 c =
    let tokens = c.in_ok-tokens.field-0.tokens.items in
    let same : kinds_of c.deref.result.now ≡ kinds_of tokens = ap kinds_of c.deref.ensures.value in
    let fault : IsFault ALL_KINDS (kinds_of tokens) c.in-Some.field-0.place c.in-Some.field-0.expected.items = subst
    (λ k. IsFault ALL_KINDS k c.in-Some.field-0.place c.in-Some.field-0.expected.items) same
    (rw c.in-Some.is at c.in_ok-fault_of.ensures) in
    let long = c.deref.ensures.len in
    let here = ap length c.deref.ensures.value in
    record {
      scans = tt;
      placed = tt;
      sentence = tt;
      shallow = tt;
      fault = found_invalid c.args.text.now tokens c.in_ok-tokens.field-0.at c.in-Some.field-0.place
          c.in-Some.field-0.expected.items c.in_ok-tokens.ensures.scans fault (omega arith) (omega arith);
    }

pub unrecognized_eof-requires : goal.unrecognized_eof-requires
unrecognized_eof-requires c =
    let tokens = c.in_ok-tokens.field-0.tokens.items in
    let same : kinds_of c.deref.result.now ≡ kinds_of tokens = ap kinds_of c.deref.ensures.value in
    let fault : IsFault ALL_KINDS (kinds_of tokens) c.in-Some.field-0.place c.in-Some.field-0.expected.items = subst
    (λ k. IsFault ALL_KINDS k c.in-Some.field-0.place c.in-Some.field-0.expected.items) same
    (rw c.in-Some.is at c.in_ok-fault_of.ensures) in
    subst (λ ts. 0 < length ts) (sym c.deref-else-at-text-2.ensures.value)
    (some_token c.args.text.now tokens c.in_ok-tokens.field-0.at c.in-Some.field-0.place
    c.in-Some.field-0.expected.items c.in_ok-tokens.ensures.scans fault)

pub returns : goal.returns
returns c =
    let tokens = c.in_ok-tokens.field-0.tokens.items in
    let same : kinds_of c.deref.result.now ≡ kinds_of tokens = ap kinds_of c.deref.ensures.value in
    let fault : IsFault ALL_KINDS (kinds_of tokens) c.in-Some.field-0.place c.in-Some.field-0.expected.items = subst
    (λ k. IsFault ALL_KINDS k c.in-Some.field-0.place c.in-Some.field-0.expected.items) same
    (rw c.in-Some.is at c.in_ok-fault_of.ensures) in
    let long = c.deref.ensures.len in
    let here = ap length c.deref.ensures.value in
    record {
      scans = tt;
      placed = tt;
      sentence = tt;
      shallow = tt;
      fault = found_end c.args.text.now tokens c.in_ok-tokens.field-0.at c.in-Some.field-0.place
          c.in-Some.field-0.expected.items c.in_ok-tokens.ensures.scans fault (omega arith)
          (omega (arith, c.in_ok-tokens.ensures.in_range)) c.unrecognized_eof.result
          (subst (λ ts. IsEndOf ts c.in-Some.field-0.expected.items c.unrecognized_eof.result)
          c.deref-else-at-text-2.ensures.value c.unrecognized_eof.ensures);
    }
