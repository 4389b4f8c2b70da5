-- What `status` promises.
use Rattle.std.specs.Prelude.{List, []}
use Rattle.outside.specs.declared.disk.Disk.{Ghosts}
use Rattle.cbdc_model.specs.Records.{Digest}
use Rattle.command_line.specs.Refused.{AreWholeHashes}
use Rattle.command_answers.specs.Exact.{HasNoCause}
use Rattle.command_answers.specs.Promises.{Needs, Promise, none_sound}
use Rattle.rack_ledgers.specs.Ledgers.{IsUnopened}
use Rattle.rack_ledgers.specs.Racked.{AreDisksBack}
use Rattle.rack_laws.specs.Ready.{IsRackReady}
use Rattle.status_command.specs.Outcomes.{DidStatus, WhyNoStatus}

-- `status` of these hashes
abbrev pub status_promise : {D : Type 0} → Ghosts D → List Digest → Promise D
status_promise device hashes = record {
  did = λ files before after printed. DidStatus device before after printed hashes;
  why = λ before after answer. WhyNoStatus device before.disks after.disks answer;
  leaves = λ before after answer. AreDisksBack device before.disks after.disks;
  ended = λ before after answer. ⊥;
  exact = λ before. HasNoCause device before.disks.held (IsUnopened device before.disks.held);
  unhindered = λ before after. AreWholeHashes hashes × IsRackReady device before.disks after.disks none_sound [];
}

-- what it needs
abbrev pub status_needs : Needs
status_needs = record {
  place = λ place. ⊥;
  names = λ place name. ⊥;
  rose = λ before now place. ⊥;
  hands_in = λ files txs. ⊥;
  of_no_rack = ⊥;
  of_no_file = Unit {0};
  sized = Unit {0};
}
