use Rattle.std.proofs.Common.{◌≡◌, ◌≤◌, ℕ, List, take}
use Rattle.std.specs.Prelude.{All}
use Rattle.input_files.specs.Limits.{IsShort}
use Rattle.input_files.specs.Contents.{AreRead, all_txs}
use Rattle.input_files.proofs.all_clients_in.Given as goal

abbrev pub invariant-files : goal.invariant-files
invariant-files g l = record {
  before : l.before ≡ all_txs l.all.items;
  few : l.before ≤ 1000000;
  read : AreRead (g.I.Inbox.file l.fn.inbox) 0 (take l.file-index l.files) l.all.items;
  short : All (λ txs. All IsShort txs) l.all.items;
  same : (other : List ℕ) → g.I.Inbox.file l.inbox other ≡ g.I.Inbox.file l.fn.inbox other;
  later : (other : List ℕ) → g.I.Inbox.count l.fn.inbox other ≤ g.I.Inbox.count l.inbox other;
}
