use Rattle.std.proofs.Common.{◌≡◌, ℕ, List, Option, None, refl, sym, subst, arith}
use Rattle.std.proofs.lemmas.List.{reverse-reverse}
use Rattle.cbdc_model.specs.Records.{Record}
use Rattle.cbdc_model.specs.Sights.{IsBrokenSince}
use Rattle.gate_journal.specs.Shown.{disk_of, broken_of}
use Rattle.record_log.specs.Held.{OpensTo}
use Rattle.record_log.proofs.LogSizes.{limits_of}
use Rattle.node_journal.proofs.Journals.{sum_reversed}
use Rattle.node_journal.proofs.Leaving.{to_journal}
use Rattle.node_journal.proofs.opening.open_node.Goals as goal
use Rattle.cbdc_types.specs.declared.calls.NodeOpenFault.TheVariants.{DiskFault}

pub returns-in-Ok-core_of-clause-opened : goal.returns-in-Ok-core_of-clause-opened
returns-in-Ok-core_of-clause-opened g c =
    let log = c.in-Ok.log in
    let played = c.in-Ok-core_of.ensures.played in
    let whole : broken_of log.journal ≡ None = c.in-Ok.ensures.whole in
    record {
      node = record {
        journal = played.journal;
        kind = played.kind;
        limits = limits_of log.header log.records.items c.in-Ok.ensures.grammar;
        opened = omega (arith, c.faults-opened.ensures);
        since = subst (λ (o : Option ℕ). IsBrokenSince c.faults-opened.result (g.D.Disk.count (disk_of log.journal)) o) (sym whole) tt;
        used = λ _. omega (arith, c.in-Ok.ensures.ends, sum_reversed log.records.items);
        landed = λ _. refl;
        unbroken = λ _. whole;
        flying = tt;
        fits = tt;
      };
      header = played.header;
      stands = played.stands;
      landed = refl;
      now = c.faults-opened.ensures;
      room = c.in-Ok-core_of.ensures.room;
    }

pub returns-in-Ok-core_of-clause-opens : goal.returns-in-Ok-core_of-clause-opens
returns-in-Ok-core_of-clause-opens g c = λ bytes told.
    let log = c.in-Ok.log in
    let opens = c.in-Ok.ensures.opens bytes told in
    let played = c.in-Ok-core_of.ensures.played in (
      record {
        opens = subst (λ (x : List Record). OpensTo x bytes) (sym (reverse-reverse log.records.items)) opens.0;
        limits = limits_of log.header log.records.items c.in-Ok.ensures.grammar;
        journal = played.journal;
        kind = played.kind;
      },
      to_journal log c.faults-opened.result None refl opens.1,
    )

pub returns-in-Err-core_of-clause-refusal : goal.returns-in-Err-core_of-clause-refusal
returns-in-Err-core_of-clause-refusal g c = λ bytes told. rw (← c.in-Ok.ensures.limit)
    (c.in-Err-core_of.ensures.refusal bytes (c.in-Ok.ensures.opens bytes told).0)

pub returns-in-Err-clause-refusal : goal.returns-in-Err-clause-refusal
returns-in-Err-clause-refusal g c = λ bytes told. c.no_log_fault-fault.ensures.refusal (g.D.Disk.limit c.args.disk) bytes
    (c.in-Err.ensures.refusal bytes told)

pub returns-in-Err-clause-same : goal.returns-in-Err-clause-same
returns-in-Err-clause-same g c = λ unfailed. c.in-Err.ensures.same (λ is. unfailed (c.no_log_fault-fault.ensures.kept DiskFault is))
