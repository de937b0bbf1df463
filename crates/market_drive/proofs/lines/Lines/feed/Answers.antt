use Rattle.std.proofs.Common.{rules, ◌≡◌, ◌<◌, ◌∙◌, All, arith, refl, sym, subst, length}
use Rattle.market_drive.specs.Arenas.{HasRoomFor}
use Rattle.market_drive.specs.Jobs.{IsUnfed}
use Rattle.market_drive.specs.Lines.{OfLines}
use Rattle.market_drive.specs.Racks.{OfEnds}
use Rattle.market_drive.proofs.Fed.{all_at, fed_one, nothing_fed, room_for_next, same_one, weight_one}
use Rattle.market_drive.proofs.Queues.{all_unfed, own_queue, place_is, unfed_queues}
use Rattle.market_drive.proofs.lines.Lines.feed.Goals as goal

pub feed-requires-clause-queue : goal.feed-requires-clause-queue
feed-requires-clause-queue g c =
    let low : c.place_of-place.result < length c.self.inside.stations.items = search rules in
    own_queue c.self.inside.stations.items c.loop-index.ends.items c.place_of-place.result c.index.result.now c.index_mut.result.now
    (unfed_queues c.self.inside.ends.items c.loop-index.ends.items c.loop-index.invariant.0 ∙ c.self.invariant.0.paired) low c.index.ensures c.index_mut.ensures.value

pub loop-index-init : goal.loop-index-init
loop-index-init g c =
    let unfed = subst (λ (v : OfLines). All IsUnfed v.ends) (sym c.self.view_is) c.requires.unfed in (
      refl,
      search rules,
      λ k s e at it. (all_at IsUnfed c.self.inside.ends.items k e unfed it).1,
      λ weigh. nothing_fed weigh c.self.inside.ends.items unfed,
    )

pub feed-requires-clause-alone : goal.feed-requires-clause-alone
feed-requires-clause-alone g c =
    let low : c.place_of-place.result < length c.self.inside.stations.items = search rules in
    let at = place_is c.self.inside.stations.items c.loop-index.ends.items c.place_of-place.result c.index-jobs-index.result.arena c.index.result.now c.index_mut.result.now
    (unfed_queues c.self.inside.ends.items c.loop-index.ends.items c.loop-index.invariant.0 ∙ c.self.invariant.0.paired) c.self.invariant.3 low c.place_of-place.ensures c.index.ensures c.index_mut.ensures.value in
    let unfed = subst (λ (v : OfLines). All IsUnfed v.ends) (sym c.self.view_is) c.requires.unfed in
    let first : All (λ (e : OfEnds). e.queue.feeders ≡ 1) c.self.inside.ends.items = λ k d lt. (unfed k d lt).0 in
    all_at (λ (e : OfEnds). e.queue.feeders ≡ 1) c.loop-index.ends.items c.place_of-place.result c.index_mut.result.now
    (all_unfed (λ e. e.queue.feeders ≡ 1) c.self.inside.ends.items c.loop-index.ends.items c.loop-index.invariant.0 first) at.1

pub feed-requires-clause-room : goal.feed-requires-clause-room
feed-requires-clause-room g c =
    let low : c.place_of-place.result < length c.self.inside.stations.items = search rules in
    let at = place_is c.self.inside.stations.items c.loop-index.ends.items c.place_of-place.result c.index-jobs-index.result.arena c.index.result.now c.index_mut.result.now
    (unfed_queues c.self.inside.ends.items c.loop-index.ends.items c.loop-index.invariant.0 ∙ c.self.invariant.0.paired) c.self.invariant.3 low c.place_of-place.ensures c.index.ensures c.index_mut.ensures.value in
    let room = subst (λ (v : OfLines). All (HasRoomFor c.args.jobs.now) v.stations) (sym c.self.view_is) c.requires.room in
    let r = room_for_next c.args.jobs.now c.loop-index.index c.index-jobs-index.result c.index.result.now c.index_mut.result.now.stored c.loop-index-test.true c.index-jobs-index.is at.2
    (c.loop-index.invariant.2 c.place_of-place.result c.index.result.now c.index_mut.result.now at.0 at.1)
    (all_at (HasRoomFor c.args.jobs.now) c.self.inside.stations.items c.place_of-place.result c.index.result.now room at.0) in
    let few = c.requires.few in
    let most = r.1 in
    (r.0, omega arith)

pub loop-index-preserved : goal.loop-index-preserved
loop-index-preserved g c =
    let low : c.place_of-place.result < length c.self.inside.stations.items = search rules in
    let at = place_is c.self.inside.stations.items c.loop-index.ends.items c.place_of-place.result c.index-jobs-index.result.arena c.index.result.now c.index_mut.result.now
    (unfed_queues c.self.inside.ends.items c.loop-index.ends.items c.loop-index.invariant.0 ∙ c.self.invariant.0.paired) c.self.invariant.3 low c.place_of-place.ensures c.index.ensures c.index_mut.ensures.value in
    let i = c.loop-index.invariant in
    let ss = c.self.inside.stations.items in
    let es = c.loop-index.ends.items in
    let jobs = c.args.jobs.now in
    let job = c.index-jobs-index.result in
    let e = c.index_mut.result.now in
    let new = c.feed.new.self in
    let one = fed_one ss es jobs c.loop-index.index c.place_of-place.result job c.index.result.now e new c.loop-index-test.true c.index-jobs-index.is c.self.invariant.3 at.0 at.1 at.2 c.feed.ensures.stored in
    let weighs = weight_one ss es jobs c.loop-index.index c.place_of-place.result job c.index.result.now e new c.loop-index-test.true c.index-jobs-index.is c.self.invariant.3 at.0 at.1 at.2 c.feed.ensures.stored in
    let same = same_one ss es jobs c.loop-index.index c.place_of-place.result job c.index.result.now e new c.loop-index-test.true c.index-jobs-index.is c.self.invariant.3 at.0 at.1 at.2 c.feed.ensures.stored in (
      same c.feed.ensures.same ∙ i.0,
      search rules,
      one i.2,
      λ weigh. weighs weigh (i.3 weigh),
    )

pub invariant_of-result : goal.invariant_of-result
invariant_of-result g c =
    let lines = c.self.invariant.0 in (
      record {
        paired = unfed_queues c.self.inside.ends.items c.loop-index.ends.items c.loop-index.invariant.0 ∙ lines.paired;
        apart = lines.apart;
        below = lines.below;
        few = lines.few;
      },
      search rules,
      search rules,
      c.self.invariant.3,
    )
