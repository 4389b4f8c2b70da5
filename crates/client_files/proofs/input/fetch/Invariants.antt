use Rattle.std.proofs.Common.{◌≡◌, ◌-◌, ◌≤◌, ℕ, List, length, take, vec_len}
use Rattle.outside.specs.Images.{Tells}
use Rattle.client_files.proofs.input.fetch.Given as goal

abbrev pub invariant-pieces : goal.invariant-pieces
invariant-pieces g l = record {
  inside : length l.bytes.items ≤ 1073741824;
  same : (other : List ℕ) → g.I.Inbox.file l.inbox other ≡ g.I.Inbox.file l.initial.inbox other;
  later : (other : List ℕ) → g.I.Inbox.count l.initial.inbox other ≤ g.I.Inbox.count l.inbox other;
  read : Tells (g.I.Inbox.file l.initial.inbox l.name) (λ c. (length l.bytes.items ≤ length c) × (l.bytes.items ≡ take (length l.bytes.items) c));
}

abbrev pub decreases-pieces : goal.decreases-pieces
decreases-pieces g l = 1073741824 - vec_len l.bytes
