use Rattle.std.proofs.Common.{◌≡◌, ◌≤◌, ℕ, List}
use Rattle.client_files.proofs.Streaming.{ItemsSoFar}
use Rattle.client_files.proofs.stream.txs_of.Given as goal

abbrev pub invariant-txs : goal.invariant-txs
invariant-txs g l = record {
  so_far : ItemsSoFar (g.I.Inbox.file l.fn.inbox l.name) l.count l.i l.fn.window l.window l.txs;
  same : (other : List ℕ) → g.I.Inbox.file l.inbox other ≡ g.I.Inbox.file l.fn.inbox other;
  later : (other : List ℕ) → g.I.Inbox.count l.fn.inbox other ≤ g.I.Inbox.count l.inbox other;
}
