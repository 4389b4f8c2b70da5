use Rattle.std.proofs.Common.{subst, sym}
use Rattle.file_runs.specs.Ledgers.{IsChecked}
use Rattle.rack_runs.proofs.resuming.resume_ledger.Goals as goal

pub resume_all-came-requires : goal.resume_all-came-requires
resume_all-came-requires g c = subst (λ l. IsChecked l) (sym c.lend-lent.ensures) c.requires.checked

pub returns : goal.returns
returns g c =
    let all = c.resume_all-came.ensures in
    rw (c.take_back.ensures, ← c.lend-lent.ensures) (record {
      keeps_ledger = all.keeps_ledger;
      idle = all.idle;
      keeps = all.keeps;
      resumed = all.resumed;
      told = all.told;
      prepares = all.prepares;
      quiet = all.quiet;
      flies = all.flies;
      launches = all.launches;
      checked = all.checked;
      grows = all.grows;
      order = all.order;
      fault = all.fault;
      least = all.least;
      rests = all.rests;
    })
