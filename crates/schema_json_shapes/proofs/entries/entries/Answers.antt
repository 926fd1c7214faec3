use Rattle.std.proofs.Common.{rules}
use Rattle.serde_json.specs.View.{members_view}
use Rattle.schema_json_shapes.proofs.Demands.{refused}
use Rattle.schema_json_shapes.proofs.EntriesAhead.{none_yet, one_more, next_fails, all_read}
use Rattle.schema_json_shapes.proofs.entries.entries.Goals as goal

pub loop-key-init : goal.loop-key-init
loop-key-init g c =
    let e = g.E.Entry in
    record {
      ahead = none_yet e.asks e.is_key e.is_item c.into_iter-key-iterator.result c.args.members.now.entries _
          (search rules) (search rules);
    }

pub loop-key-preserved : goal.loop-key-preserved
loop-key-preserved g c =
    let l = c.loop-key in
    let e = g.E.Entry in
    record {
      ahead = one_more e.asks e.is_key e.is_item l.key-iterator c.in-Some.key.now c.in-Some.value.now c.next.new.self
          (members_view c.args.members.now.entries) c.as_str.result.now l.entries.items c.push.new.self.items
          c.in_ok-entry.entry l.invariant.ahead c.in-Some.ensures.steps c.as_str.ensures.value c.in_ok-entry.ensures
          c.in_ok-push.ensures.items;
    }

pub returns-in_err-entry : goal.returns-in_err-entry
returns-in_err-entry g c =
    let l = c.loop-key in
    let e = g.E.Entry in
    let fault = c.in_err-entry.field-0.0 in
    refused c.from_residual-in_err-entry.result fault _ _ c.from_residual-in_err-entry.ensures.1
    (next_fails e.asks e.is_key e.is_item l.key-iterator c.in-Some.key.now c.in-Some.value.now c.next.new.self
    (members_view c.args.members.now.entries) c.as_str.result.now l.entries.items fault l.invariant.ahead
    c.in-Some.ensures.steps c.as_str.ensures.value c.in_err-entry.ensures)

pub returns : goal.returns
returns g c =
    let l = c.loop-key in
    let e = g.E.Entry in
    all_read e.asks e.is_key e.is_item l.key-iterator (members_view c.args.members.now.entries) l.entries.items
    l.invariant.ahead c.in-None.ensures.steps.0
