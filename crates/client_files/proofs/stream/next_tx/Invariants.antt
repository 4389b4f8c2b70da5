use Rattle.std.proofs.Common.{◌≡◌, ◌+◌, ◌-◌, ◌≤◌, ◌++◌, ℕ, List, length}
use Rattle.tx_codec.specs.Feeds.{IsGoing}
use Rattle.client_files.proofs.Streaming.{SoFar}
use Rattle.client_files.proofs.stream.next_tx.Given as goal

abbrev pub invariant-pieces : goal.invariant-pieces
invariant-pieces g l = record {
  so_far : SoFar (g.I.Inbox.file l.fn.inbox l.name) l.fn.window l.window.had (l.feed.bytes ++ l.window.unread);
  going : IsGoing l.feed.state;
  start : l.start + length l.fn.window.unread ≡ l.fn.window.had;
  same : (other : List ℕ) → g.I.Inbox.file l.inbox other ≡ g.I.Inbox.file l.fn.inbox other;
  later : (other : List ℕ) → g.I.Inbox.count l.fn.inbox other ≤ g.I.Inbox.count l.inbox other;
}

abbrev pub decreases-pieces : goal.decreases-pieces
decreases-pieces g l = 1073741824 - l.window.had
