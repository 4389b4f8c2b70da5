use Rattle.std.proofs.Common.{arith, ◌≡◌, suc, max, ap, sym, ◌∙◌, length, refl}
use Rattle.cbdc_model.specs.Deciding.{decided, reply_cause}
use Rattle.coord_core.specs.Decided.{combined_outcomes}
use Rattle.coord_core.proofs.Walks.{latest-ge, length-combined, slot_is, rises_within}
use Rattle.coord_core.proofs.Deciding.{decided_is, latest_is}
use Rattle.coord_core.proofs.coord.CoordCore.decide.Goals as goal

pub returns-clause-decided : goal.returns-clause-decided
returns-clause-decided c = λ txs masks are.
    let K = c.args.self.now.header.shape in
    let stamp : c.commit_stamp-stamp.result ≡ suc (max c.args.self.now.last (reply_cause K c.args.replies.now)) =
    c.commit_stamp-stamp.ensures.value ∙ ap suc (latest_is K c.args.self.now.last c.args.replies.now are.rising) in
    let outcomes : c.outcomes.result ≡ decided K txs c.args.replies.now =
    c.outcomes.ensures.value ∙ ap (λ ms. combined_outcomes ms c.args.replies.now) masks ∙ decided_is K txs c.args.replies.now are in
    rw (stamp, outcomes, c.number.ensures.value) refl

pub returns-clause-next : goal.returns-clause-next
returns-clause-next c = λ within.
    let same = c.outcomes.ensures.same in (
      (
        rw same.header c.requires.own,
        rw (same.last, c.commit_stamp-stamp.ensures.value) (omega (arith, latest-ge c.args.self.now.last c.args.replies.now)),
        rw c.commit_stamp-stamp.ensures.value within,
      ),
      same.slots c.args.lane ∙ slot_is _ _ _ c.number.ensures.value c.requires.prepared,
      ap length (same.masks c.args.lane) ∙ sym (ap length c.outcomes.ensures.value ∙ length-combined _ _),
    )

pub outcomes-requires-clause-rising : goal.outcomes-requires-clause-rising
outcomes-requires-clause-rising c = rises_within 0 c.args.self.now.header.shape.shards 64 c.args.replies.now
    (omega (arith, c.self.invariant.limits.shards, ap (λ v. v.header.shape.shards) c.self.view_is)) c.requires.rising
