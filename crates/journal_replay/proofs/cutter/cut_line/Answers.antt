use Rattle.std.proofs.Common.{rules, ◌≡◌, length}
use Rattle.journal_replay.specs.Members.{members_of}
use Rattle.journal_replay.proofs.CutLines.{cut-closes, cut-more, cut-opens, cut-then-more}
use Rattle.journal_replay.proofs.cutter.cut_line.Goals as goal

pub loop-next-init : goal.loop-next-init
loop-next-init c =
    let line = c.args.line.now in
    let first = members_of c.take_first.new.fields in
    let second = members_of c.take_second.new.fields in
    let third = members_of c.take_third.new.fields in
    cut-more line c.in_ok-rest-2.rest.now c.in_ok-rest-3.rest.now second third
    (cut-more line c.in_ok-rest.rest.now c.in_ok-rest-2.rest.now first second (cut-opens line c.in_ok-rest.rest.now (members_of c.none.result) first c.in_ok-rest.ensures c.none.ensures) c.in_ok-rest-2.ensures)
    c.in_ok-rest-3.ensures

pub loop-next-preserved : goal.loop-next-preserved
loop-next-preserved c =
    cut-then-more c.args.line.now c.loop-next.rest.now c.in-Some.next.now c.in_ok-rest-4.rest.now (members_of c.loop-next.fields) (members_of c.take_member.new.fields) c.loop-next.invariant c.in-Some.ensures.cut c.in_ok-rest-4.ensures

pub returns : goal.returns
returns c =
    let empty : length c.skip_space-rest.result.now ≡ 0 = search rules in
    cut-closes c.args.line.now c.loop-next.rest.now c.in_ok-after_operator.field-0.now c.skip_space-rest.result.now (members_of c.loop-next.fields)
    c.loop-next.invariant c.in_ok-after_operator.ensures.cut c.skip_space-rest.ensures empty
