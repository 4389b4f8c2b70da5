use Rattle.node_journal.proofs.Behind.{by_result}
use Rattle.coord_log.proofs.Written.{own_memory, due_after, sound_after, sound_broken}
use Rattle.coord_log.proofs.writing.write_due.Goals as goal

pub write-requires-clause-after : goal.write-requires-clause-after
write-requires-clause-after g c = due_after c.args.node.now c.args.next c.requires

pub write-requires-clause-memory : goal.write-requires-clause-memory
write-requires-clause-memory g c = own_memory c.args.node.now c.args.next c.requires

pub returns-clause-sound : goal.returns-clause-sound
returns-clause-sound g c =
    let w = c.write in
    by_result w.result w.ensures.written w.ensures.failed
    (λ k. sound_after c.args.node.now w.new.node c.args.next c.requires w.ensures.node k.0 k.1 k.2)
    (λ k. sound_broken c.args.node.now w.new.node c.args.next c.requires w.ensures.node k.0 k.1)
