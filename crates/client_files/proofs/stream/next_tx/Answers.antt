use Rattle.std.proofs.Common.{◌≡◌, le_refl, le_trans, ◌+◌, ◌-◌, ◌++◌, [], ℕ, List, false, length, refl, sym, ap, subst, ◌∙◌, arith}
use Rattle.std.proofs.lemmas.Grind.{common_steps}
use Rattle.byte_fields.specs.Transactions.{transaction_at}
use Rattle.tx_codec.specs.Places.{IsSpelledAt}
use Rattle.tx_codec.specs.Feeds.{FeedOf, IsGoing, IsBadIn}
use Rattle.tx_codec.specs.declared.feed.FeedState.TheVariants as states
use Rattle.client_files.specs.Files.{bad_at}
use Rattle.client_files.specs.Streams.{WindowOf, OfRead, MeetsBadField}
use Rattle.client_files.proofs.Streaming.{stops_on, stops_out, stop_bad, end_for, falls, so_first, so_more, so_at, tx_took, tx_cut_later, tx_place}
use Rattle.client_files.proofs.Streaming.{tx_bad}
use Rattle.client_files.proofs.stream.next_tx.Goals as goal

pub returns-in-Ok-Done-clause-taken : goal.returns-in-Ok-Done-clause-taken
returns-in-Ok-Done-clause-taken g c =
    let fed = c.pieces.feed.bytes in
    let judged = rw c.in-Ok-Done.field-0-is at (c.in-Ok-Done.ensures.judged c.pieces.invariant.going) in
    let spelled : IsSpelledAt (fed ++ c.pieces.window.unread) 0 (length fed + c.in-Ok-Done.taken) c.in-Ok-Done.tx =
    subst (λ (u : List ℕ). IsSpelledAt (fed ++ u) 0 (length fed + c.in-Ok-Done.taken) c.in-Ok-Done.tx) c.unread.ensures.value judged in
    tx_took (g.I.Inbox.file c.args.inbox.now c.args.name.now) c.args.window.now c.take.new.self fed c.pieces.window.unread c.pieces.window.had
    c.in-Ok-Done.taken c.in-Ok-Done.tx c.pieces.invariant.so_far spelled c.take.ensures

pub cut_tx-requires-clause-end : goal.cut_tx-requires-clause-end
cut_tx-requires-clause-end g c =
    let name = c.args.name.now in
    let n = c.in_ok-more-in-Ok-More.field-0 in
    let none : n ≡ 0 = omega arith in
    end_for (g.I.Inbox.file c.pieces.inbox name) (g.I.Inbox.file c.more.new.inbox name) c.take_all.new.self c.more.new.window n c.had.result
    (c.more.ensures.same name) c.had.ensures.value c.in_ok-more-in-Ok-More.ensures.more none

pub returns-then-branch-eq0-clause-fault : goal.returns-then-branch-eq0-clause-fault
returns-then-branch-eq0-clause-fault g c =
    let name = c.args.name.now in
    let told = g.I.Inbox.file c.args.inbox.now name in
    let last = g.I.Inbox.file c.more.new.inbox name in
    let old = c.args.window.now in
    let m = c.in_ok-more-in-Ok-More.ensures.more in
    let fed = c.push.new.self.bytes in
    let same : last ≡ told = c.more.ensures.same name ∙ c.pieces.invariant.same name in
    let pushed : fed ≡ c.pieces.feed.bytes ++ c.pieces.window.unread =
    (rw c.in-Ok-More.field-0-is at (c.in-Ok-More.ensures.bytes c.pieces.invariant.going)) refl
    ∙ ap (λ (u : List ℕ). c.pieces.feed.bytes ++ u) c.unread.ensures.value in
    let used : c.take_all.new.self.had ≡ c.pieces.window.had = ap (λ (w : WindowOf). w.had) c.take_all.ensures in
    let had : c.had.result ≡ c.pieces.window.had = omega (arith, c.had.ensures.value, m.come.had, m.size, used) in
    let so = so_at told old c.pieces.window.had c.had.result (c.pieces.feed.bytes ++ c.pieces.window.unread) fed had pushed c.pieces.invariant.so_far
    in
    stops_on (λ bad. OfRead last c.had.result (MeetsBadField last transaction_at fed bad))
    (λ bad. OfRead told old.had (MeetsBadField told transaction_at old.unread bad))
    (g.I.Inbox.count c.args.inbox.now name) (g.I.Inbox.count c.more.new.inbox name) (g.I.Inbox.count c.cut_tx.new.inbox name)
    (g.I.Inbox.count c.cut_tx.new.inbox name) c.cut_tx.result
    (λ bad meets. tx_cut_later told old c.had.result fed bad so
    (subst (λ t. OfRead t c.had.result (MeetsBadField t transaction_at fed bad)) same meets))
    (le_trans (c.pieces.invariant.later name) (c.more.ensures.later name)) (le_refl _) c.cut_tx.ensures.fault

pub pieces-preserved : goal.pieces-preserved
pieces-preserved g c =
    let name = c.args.name.now in
    let told = g.I.Inbox.file c.args.inbox.now name in
    let old = c.args.window.now in
    let new = c.more.new.window in
    let m = c.in_ok-more-in-Ok-More.ensures.more in
    let fed = c.push.new.self.bytes in
    let all = c.pieces.feed.bytes ++ c.pieces.window.unread in
    let pushed : fed ≡ c.pieces.feed.bytes ++ c.pieces.window.unread =
    (rw c.in-Ok-More.field-0-is at (c.in-Ok-More.ensures.bytes c.pieces.invariant.going)) refl
    ∙ ap (λ (u : List ℕ). c.pieces.feed.bytes ++ u) c.unread.ensures.value in
    let used : c.take_all.new.self.had ≡ c.pieces.window.had = ap (λ (w : WindowOf). w.had) c.take_all.ensures in
    let came : new.unread ≡ m.piece = m.unread ∙ ap (λ (w : WindowOf). w.unread ++ m.piece) c.take_all.ensures in
    record {
      so_far = so_more told (g.I.Inbox.file c.pieces.inbox name) old c.take_all.new.self new c.in_ok-more-in-Ok-More.field-0 all (fed ++ new.unread)
          (c.pieces.invariant.same name)
          (so_at told old c.pieces.window.had c.take_all.new.self.had all all used refl c.pieces.invariant.so_far) m
          (ap (λ (l : List ℕ). l ++ new.unread) pushed ∙ ap (λ (l : List ℕ). all ++ l) came);
      going = (rw c.in-Ok-More.field-0-is at (c.in-Ok-More.ensures.going c.pieces.invariant.going)) refl;
      start = c.pieces.invariant.start;
      same = λ other. c.more.ensures.same other ∙ c.pieces.invariant.same other;
      later = λ other. le_trans (c.pieces.invariant.later other) (c.more.ensures.later other);
    }

pub returns-in-Err-Bad-clause-fault : goal.returns-in-Err-Bad-clause-fault
returns-in-Err-Bad-clause-fault g c =
    let name = c.args.name.now in
    let told = g.I.Inbox.file c.args.inbox.now name in
    let old = c.args.window.now in
    let fed = c.pieces.feed.bytes in
    let field = c.in-Err-Bad.field in
    let judged = rw c.in-Err-Bad.field-0-is at (c.in-Err-Bad.ensures.judged c.pieces.invariant.going) in
    let is_bad : IsBadIn (fed ++ c.pieces.window.unread) field = subst (λ (u : List ℕ). IsBadIn (fed ++ u) field) c.unread.ensures.value judged in
    let start = c.place-start.result in
    let bad = bad_at c.had-in-Err-Bad.result false (c.had-in-Err-Bad.result - (start + field.at)) field.kind in
    stop_bad (λ b. OfRead told old.had (MeetsBadField told transaction_at old.unread b)) (g.I.Inbox.count c.args.inbox.now name)
    (g.I.Inbox.count c.pieces.inbox name) c.bad.result bad c.bad.ensures
    (tx_bad told old (fed ++ c.pieces.window.unread) c.pieces.window.had start field bad c.pieces.invariant.so_far c.pieces.invariant.start is_bad
    (ap (λ (k : ℕ). bad_at k false (k - (start + field.at)) field.kind) c.had-in-Err-Bad.ensures.value))

pub pieces-init : goal.pieces-init
pieces-init g c =
    let fed : c.new-feed.result.bytes ≡ [] = ap (λ (f : FeedOf). f.bytes) c.new-feed.ensures in
    let state : states.Empty ≡ c.new-feed.result.state = sym (ap (λ (f : FeedOf). f.state) c.new-feed.ensures) in
    record {
      so_far = so_first (g.I.Inbox.file c.args.inbox.now c.args.name.now) c.args.window.now (c.new-feed.result.bytes ++ c.args.window.now.unread)
          (ap (λ (l : List ℕ). l ++ c.args.window.now.unread) fed);
      going = subst IsGoing state tt;
      start = c.place-start.ensures.value;
      same = λ other. refl;
      later = λ other. le_refl _;
    }

pub pieces-smaller : goal.pieces-smaller
pieces-smaller g c =
    let used : c.take_all.new.self.had ≡ c.pieces.window.had = ap (λ (w : WindowOf). w.had) c.take_all.ensures in
    falls (g.I.Inbox.file c.pieces.inbox c.args.name.now) c.take_all.new.self c.more.new.window c.in_ok-more-in-Ok-More.field-0 c.pieces.window.had
    c.in_ok-more-in-Ok-More.ensures.more used c.if-branch-eq0.false

pub cut_tx-requires-clause-going : goal.cut_tx-requires-clause-going
cut_tx-requires-clause-going g c = (rw c.in-Ok-More.field-0-is at (c.in-Ok-More.ensures.going c.pieces.invariant.going)) refl

pub cut_tx-requires-clause-start : goal.cut_tx-requires-clause-start
cut_tx-requires-clause-start g c =
    let told = g.I.Inbox.file c.args.inbox.now c.args.name.now in
    let old = c.args.window.now in
    let m = c.in_ok-more-in-Ok-More.ensures.more in
    let fed = c.push.new.self.bytes in
    let pushed : fed ≡ c.pieces.feed.bytes ++ c.pieces.window.unread =
    (rw c.in-Ok-More.field-0-is at (c.in-Ok-More.ensures.bytes c.pieces.invariant.going)) refl
    ∙ ap (λ (u : List ℕ). c.pieces.feed.bytes ++ u) c.unread.ensures.value in
    let used : c.take_all.new.self.had ≡ c.pieces.window.had = ap (λ (w : WindowOf). w.had) c.take_all.ensures in
    let had : c.had.result ≡ c.pieces.window.had = omega (arith, c.had.ensures.value, m.come.had, m.size, used) in
    tx_place told old fed c.had.result c.place-start.result
    (so_at told old c.pieces.window.had c.had.result (c.pieces.feed.bytes ++ c.pieces.window.unread) fed had pushed c.pieces.invariant.so_far)
    c.pieces.invariant.start

pub overflow_add-start : goal.overflow_add-start
overflow_add-start g c = grind (arith, common_steps)

pub bad-requires : goal.bad-requires
bad-requires g c = grind (arith, common_steps)

pub returns-in-Ok-Done-clause-same : goal.returns-in-Ok-Done-clause-same
returns-in-Ok-Done-clause-same g c = c.pieces.invariant.same

pub returns-in-Ok-Done-clause-later : goal.returns-in-Ok-Done-clause-later
returns-in-Ok-Done-clause-later g c = c.pieces.invariant.later

pub returns-in-Err-Bad-clause-same : goal.returns-in-Err-Bad-clause-same
returns-in-Err-Bad-clause-same g c = c.pieces.invariant.same

pub returns-in-Err-Bad-clause-later : goal.returns-in-Err-Bad-clause-later
returns-in-Err-Bad-clause-later g c = c.pieces.invariant.later

pub returns-in-Err-Memory-clause-same : goal.returns-in-Err-Memory-clause-same
returns-in-Err-Memory-clause-same g c = c.pieces.invariant.same

pub returns-in-Err-Memory-clause-later : goal.returns-in-Err-Memory-clause-later
returns-in-Err-Memory-clause-later g c = c.pieces.invariant.later

pub returns-in_err-more-in-Ok-More-clause-fault : goal.returns-in_err-more-in-Ok-More-clause-fault
returns-in_err-more-in-Ok-More-clause-fault g c =
    let name = c.args.name.now in
    let told = g.I.Inbox.file c.args.inbox.now name in
    let old = c.args.window.now in
    stops_out c.from_residual.result _ (λ bad. ⊥) (λ bad. OfRead told old.had (MeetsBadField told transaction_at old.unread bad))
    (g.I.Inbox.count c.args.inbox.now name) (g.I.Inbox.count c.pieces.inbox name) (g.I.Inbox.count c.more.new.inbox name)
    (g.I.Inbox.count c.more.new.inbox name) c.from_residual.ensures.1
    (λ bad none. absurd none) (c.pieces.invariant.later name) (le_refl _) c.in_err-more-in-Ok-More.ensures.fault

pub returns-in_err-more-in-Ok-More-clause-same : goal.returns-in_err-more-in-Ok-More-clause-same
returns-in_err-more-in-Ok-More-clause-same g c = λ other. c.more.ensures.same other ∙ c.pieces.invariant.same other

pub returns-in_err-more-in-Ok-More-clause-later : goal.returns-in_err-more-in-Ok-More-clause-later
returns-in_err-more-in-Ok-More-clause-later g c = λ other. le_trans (c.pieces.invariant.later other) (c.more.ensures.later other)

pub returns-then-branch-eq0-clause-same : goal.returns-then-branch-eq0-clause-same
returns-then-branch-eq0-clause-same g c = λ other. c.cut_tx.ensures.same other ∙ (c.more.ensures.same other ∙ c.pieces.invariant.same other)

pub returns-then-branch-eq0-clause-later : goal.returns-then-branch-eq0-clause-later
returns-then-branch-eq0-clause-later g c = λ other. le_trans (c.pieces.invariant.later other)
    (le_trans (c.more.ensures.later other) (c.cut_tx.ensures.later other))
