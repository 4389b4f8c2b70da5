use Rattle.std.proofs.Common.{◌≡◌, ◌<◌, ◌≤◌, ◌+◌, ◌-◌, ℕ, refl, arith}
use Rattle.client_files.proofs.Streaming.{at_limit}
use Rattle.client_files.proofs.stream.more.Goals as goal

pub returns-then-room-eq0-clause-more : goal.returns-then-room-eq0-clause-more
returns-then-room-eq0-clause-more g c =
    let full : c.args.window.now.had ≡ 1073741824 = omega arith in
    at_limit (g.I.Inbox.file c.args.inbox.now c.args.name.now) c.args.window.now full

some : 0 < 65536
some = omega arith

room_left : (had : ℕ) → (1073741824 - had ≡ 0 → ⊥) → 0 < 1073741824 - had
room_left had none = omega (arith, none)

fits : (had now : ℕ) → had ≡ now → had ≤ 1073741824 → now + (1073741824 - had) ≤ 1073741824
fits had now is bound = omega (arith, is, bound)

pub read_next-requires-clause-some : goal.read_next-requires-clause-some
read_next-requires-clause-some g c = (room_left c.had-room.result c.if-room-eq0.false, some)

pub read_next-requires-clause-room : goal.read_next-requires-clause-room
read_next-requires-clause-room g c = fits c.had-room.result c.args.window.now.had c.had-room.ensures.value c.had-room.ensures.bound

pub slice_bounds-read_next-end : goal.slice_bounds-read_next-end
slice_bounds-read_next-end g c = refl

pub returns-clause-later : goal.returns-clause-later
returns-clause-later g c = c.read_next.ensures.later
