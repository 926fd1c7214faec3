use Rattle.std.proofs.Common.{◌≡◌, ◌<◌, ◌++◌, length, map, sym, ◌∙◌, arith}
use Rattle.std.proofs.lemmas.List.{take-append-drop}
use Rattle.std.proofs.lemmas.Result.{on_ok_weaker, IfErr-weaker}
use Rattle.schema_build_recovered_types.proofs.Lacking.{refused}
use Rattle.schema_build_recovered.proofs.Walks.{split, two, both_added, both_whole, first_lacking, then_lacking}
use Rattle.schema_build_recovered.proofs.namespaces.+recover_namespaces.Goals as goal

pub recover_namespaces-requires : goal.recover_namespaces-requires
recover_namespaces-requires t c =
    let ns = c.args.namespaces.now in
    let many = two (length ns) (sym c.is_empty.ensures ∙ c.if-is_empty.false) c.if-namespaces-eq1.false in
    let joined : c.split_at.result.0.now ++ c.split_at.result.1.now ≡ ns =
    (λ i. c.split_at.ensures.front i ++ c.split_at.ensures.back i) ∙ take-append-drop _ ns in
    let some : 0 < length c.split_at.result.1.now =
    omega (arith, many, c.split_at.ensures.front_len, c.split_at.ensures.back_len) in
    let s = split ns c.split_at.result.0.now c.split_at.result.1.now c.index-upper-0.result joined some
    c.index-upper-0.is c.requires in
    (omega (arith, c.decreases, many, c.split_at.ensures.front_len), s.lower_rises)

pub recover_namespaces-requires-2 : goal.recover_namespaces-requires-2
recover_namespaces-requires-2 t c =
    let ns = c.args.namespaces.now in
    let many = two (length ns) (sym c.is_empty.ensures ∙ c.if-is_empty.false) c.if-namespaces-eq1.false in
    let joined : c.split_at.result.0.now ++ c.split_at.result.1.now ≡ ns =
    (λ i. c.split_at.ensures.front i ++ c.split_at.ensures.back i) ∙ take-append-drop _ ns in
    let some : 0 < length c.split_at.result.1.now =
    omega (arith, many, c.split_at.ensures.front_len, c.split_at.ensures.back_len) in
    let s = split ns c.split_at.result.0.now c.split_at.result.1.now c.index-upper-0.result joined some
    c.index-upper-0.is c.requires in
    (omega (arith, c.decreases, many, c.split_at.ensures.front_len, c.split_at.ensures.back_len), s.upper_rises)

pub returns-in_err-recover_namespaces-clause-lack : goal.returns-in_err-recover_namespaces-clause-lack
returns-in_err-recover_namespaces-clause-lack t c =
    let ns = c.args.namespaces.now in
    let many = two (length ns) (sym c.is_empty.ensures ∙ c.if-is_empty.false) c.if-namespaces-eq1.false in
    let joined : c.split_at.result.0.now ++ c.split_at.result.1.now ≡ ns =
    (λ i. c.split_at.ensures.front i ++ c.split_at.ensures.back i) ∙ take-append-drop _ ns in
    let some : 0 < length c.split_at.result.1.now =
    omega (arith, many, c.split_at.ensures.front_len, c.split_at.ensures.back_len) in
    let s = split ns c.split_at.result.0.now c.split_at.result.1.now c.index-upper-0.result joined some
    c.index-upper-0.is c.requires in
    let e = c.in_err-recover_namespaces.field-0.0 in
    refused _ c.from_residual-in_err-recover_namespaces.result e c.from_residual-in_err-recover_namespaces.ensures.1
    (first_lacking (map (λ x. x.now) c.args.entities.now.items) (map (λ x. x.now) c.args.actions.now.items) ns
    c.split_at.result.0.now c.split_at.result.1.now c.index-upper-0.result s
    (map (λ x. x.now) c.in_ok-those.those.items) (map (λ x. x.now) c.in_ok-acts.acts.items) c.in_ok-those.ensures
    c.in_ok-acts.ensures e c.in_err-recover_namespaces.ensures.lack)

pub returns-clause-recovered : goal.returns-clause-recovered
returns-clause-recovered t c =
    let ns = c.args.namespaces.now in
    let many = two (length ns) (sym c.is_empty.ensures ∙ c.if-is_empty.false) c.if-namespaces-eq1.false in
    let joined : c.split_at.result.0.now ++ c.split_at.result.1.now ≡ ns =
    (λ i. c.split_at.ensures.front i ++ c.split_at.ensures.back i) ∙ take-append-drop _ ns in
    let some : 0 < length c.split_at.result.1.now =
    omega (arith, many, c.split_at.ensures.front_len, c.split_at.ensures.back_len) in
    let s = split ns c.split_at.result.0.now c.split_at.result.1.now c.index-upper-0.result joined some
    c.index-upper-0.is c.requires in
    on_ok_weaker c.recover_namespaces-2.result
    (both_added (map (λ x. x.now) c.args.entities.now.items) (map (λ x. x.now) c.args.actions.now.items) ns
    c.split_at.result.0.now c.split_at.result.1.now c.index-upper-0.result s
    (map (λ x. x.now) c.in_ok-those.those.items) (map (λ x. x.now) c.in_ok-those-2.those.items)
    (map (λ x. x.now) c.in_ok-acts.acts.items) (map (λ x. x.now) c.in_ok-acts-2.acts.items) c.in_ok-those.ensures
    c.in_ok-acts.ensures c.in_ok-those-2.ensures c.in_ok-acts-2.ensures c.args.found.now.items
    c.recover_namespaces.new.found.items c.recover_namespaces-2.new.found.items
    c.in_ok-recover_namespaces.ensures.recovered) c.recover_namespaces-2.ensures.recovered

pub returns-clause-whole : goal.returns-clause-whole
returns-clause-whole t c =
    let ns = c.args.namespaces.now in
    let many = two (length ns) (sym c.is_empty.ensures ∙ c.if-is_empty.false) c.if-namespaces-eq1.false in
    let joined : c.split_at.result.0.now ++ c.split_at.result.1.now ≡ ns =
    (λ i. c.split_at.ensures.front i ++ c.split_at.ensures.back i) ∙ take-append-drop _ ns in
    let some : 0 < length c.split_at.result.1.now =
    omega (arith, many, c.split_at.ensures.front_len, c.split_at.ensures.back_len) in
    let s = split ns c.split_at.result.0.now c.split_at.result.1.now c.index-upper-0.result joined some
    c.index-upper-0.is c.requires in
    on_ok_weaker c.recover_namespaces-2.result
    (both_whole (map (λ x. x.now) c.args.entities.now.items) (map (λ x. x.now) c.args.actions.now.items) ns
    c.split_at.result.0.now c.split_at.result.1.now c.index-upper-0.result s
    (map (λ x. x.now) c.in_ok-those.those.items) (map (λ x. x.now) c.in_ok-acts.acts.items) c.in_ok-those.ensures
    c.in_ok-acts.ensures (map (λ x. x.now) c.in_ok-those-2.those.items) (map (λ x. x.now) c.in_ok-acts-2.acts.items)
    c.in_ok-those-2.ensures c.in_ok-acts-2.ensures c.in_ok-recover_namespaces.ensures.whole)
    c.recover_namespaces-2.ensures.whole

pub returns-clause-lack : goal.returns-clause-lack
returns-clause-lack t c =
    let ns = c.args.namespaces.now in
    let many = two (length ns) (sym c.is_empty.ensures ∙ c.if-is_empty.false) c.if-namespaces-eq1.false in
    let joined : c.split_at.result.0.now ++ c.split_at.result.1.now ≡ ns =
    (λ i. c.split_at.ensures.front i ++ c.split_at.ensures.back i) ∙ take-append-drop _ ns in
    let some : 0 < length c.split_at.result.1.now =
    omega (arith, many, c.split_at.ensures.front_len, c.split_at.ensures.back_len) in
    let s = split ns c.split_at.result.0.now c.split_at.result.1.now c.index-upper-0.result joined some
    c.index-upper-0.is c.requires in
    IfErr-weaker c.recover_namespaces-2.result _ _
    (then_lacking (map (λ x. x.now) c.args.entities.now.items) (map (λ x. x.now) c.args.actions.now.items) ns
    c.split_at.result.0.now c.split_at.result.1.now c.index-upper-0.result s
    (map (λ x. x.now) c.in_ok-those.those.items) (map (λ x. x.now) c.in_ok-acts.acts.items) c.in_ok-those.ensures
    c.in_ok-acts.ensures (map (λ x. x.now) c.in_ok-those-2.those.items) (map (λ x. x.now) c.in_ok-acts-2.acts.items)
    c.in_ok-those-2.ensures c.in_ok-acts-2.ensures c.in_ok-recover_namespaces.ensures.whole)
    c.recover_namespaces-2.ensures.lack
