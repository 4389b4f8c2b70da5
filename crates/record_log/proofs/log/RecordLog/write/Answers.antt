use Rattle.std.proofs.Common.{◌≡◌, ◌++◌, ◌∙◌, ap, List, ℕ, arith}
use Rattle.std.proofs.lemmas.Grind.{common_steps}
use Rattle.record_log.specs.Bodies.{body_of}
use Rattle.record_log.specs.Held.{bodies_of}
use Rattle.record_log.proofs.log.RecordLog.write.Goals as goal

pub returns-in-Ok-append-clause-leaves : goal.returns-in-Ok-append-clause-leaves
returns-in-Ok-append-clause-leaves g c =
    let spelled : c.deref.result.now ≡ body_of c.args.next.now =
    c.deref.ensures.value ∙ c.in-Ok.ensures.ok ∙ ap (λ (l : List ℕ). l ++ body_of c.args.next.now) c.clear.ensures.items in
    λ records holds. rw spelled at (c.append.ensures.leaves (bodies_of records) holds)

pub returns-in-Err-DiskFault-clause-leaves : goal.returns-in-Err-DiskFault-clause-leaves
returns-in-Err-DiskFault-clause-leaves g c =
    let spelled : c.deref.result.now ≡ body_of c.args.next.now =
    c.deref.ensures.value ∙ c.in-Ok.ensures.ok ∙ ap (λ (l : List ℕ). l ++ body_of c.args.next.now) c.clear.ensures.items in
    λ records holds. rw spelled at (c.append.ensures.leaves (bodies_of records) holds)

pub returns-in-Ok-append-clause-written : goal.returns-in-Ok-append-clause-written
returns-in-Ok-append-clause-written g c = grind (arith, common_steps)
