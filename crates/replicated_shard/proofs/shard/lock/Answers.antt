use Rattle.replicated_shard.proofs.Calls.{goes, owes_whole, member_failed, opens_list}
use Rattle.replicated_shard.proofs.shard.lock.Goals as goal

pub returns : goal.returns
returns g c =
    let old = c.args.shard.now in
    let new = c.lock-answer.new.self in
    let answered = c.lock-answer.ensures in
    record {
      answered = answered;
      room = c.header-seen.ensures.sound.capacity;
      steps = λ backups.
          goes _ _ _ old new backups answered.keeps.node.header c.records-before.ensures.journal c.records-behind.ensures.journal
          c.records-behind.ensures.flying
          (λ a r owes. c.header-seen.ensures.sound.landed (owes_whole old.broken _ a r owes)) _ c.lock-answer.result answered.meets;
      members = λ held k d is b image. (answered.keeps.holds held).each b (k, d, is, image);
      lists = λ held quiet k rest. opens_list g.D.Disk new quiet (λ j d is b image. (answered.keeps.holds held).each b (j, d, is, image)) k rest;
      failed = member_failed g.D.Disk _ _ old new c.header-after.ensures.sound.count c.lock-answer.result answered;
    }
