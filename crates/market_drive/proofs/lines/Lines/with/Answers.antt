use Rattle.std.proofs.Common.{rules, ◌≡◌, ◌+◌, ◌<◌, length, sym, subst}
use Rattle.market_drive.specs.Lines.{OfLines}
use Rattle.market_drive.proofs.Queues.{lines_more, numbered_more}
use Rattle.market_drive.proofs.lines.Lines.with.Goals as goal

pub invariant_of-result : goal.invariant_of-result
invariant_of-result c =
    let next = subst (λ (v : OfLines). c.args.station.arena ≡ length v.stations + 1) (sym c.self.view_is) c.requires.next in
    let room = subst (λ (v : OfLines). length v.stations < 64) (sym c.self.view_is) c.requires.room in (
      rw c.push_reserved.ensures.items (rw c.push_reserved-2.ensures.items (lines_more c.self.inside.stations.items c.args.station c.self.inside.ends.items c.args.ends c.self.invariant.0 next room c.requires.queue)),
      search rules,
      search rules,
      rw c.push_reserved.ensures.items (numbered_more c.self.inside.stations.items c.args.station c.self.invariant.3 next),
    )
