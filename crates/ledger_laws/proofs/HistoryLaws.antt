-- Laws of one history, as the functions state them.
use Rattle.std.proofs.Common.{inl, inr, List, [], ◌∷◌, sym, ◌∙◌, subst}
use Rattle.std.proofs.lemmas.List.{append_cancel_right}
use Rattle.cbdc_model.specs.Records.{Compact, Record, journal, lock_of, Prepare}
use Rattle.cbdc_model.specs.Replies.{entries}
use Rattle.cbdc_model.specs.Ranges.{shard_node}
use Rattle.cbdc_model.specs.Outcomes.{decisions}
use Rattle.ledger_laws.proofs.Answered.{LockAnswered, FinishAnswered, ForgetAnswered}
use Rattle.cbdc_model.specs.Coins.{genesis_hashes}
use Rattle.cbdc_model.specs.Clean.{IsProperCompact}
use Rattle.cbdc_model.specs.World.{Lock_call, Finish_call, Forget_call}
use Rattle.cbdc_model.specs.History.{minted, first_rows, history_of, won_of, all_outputs}
pub use Rattle.ledger_laws.proofs.Rows.{journal-append}
use Rattle.ledger_laws.specs.Laws.{ReachLaw, MoreLaw, OneHistoryLaw, CutLaw, MakerLaw, AnswerLaw}
use Rattle.ledger_laws.proofs.Ledger.{steady, proper_of, passes_of}
use Rattle.ledger_laws.proofs.Next.{Each, AllProper}
use Rattle.ledger_laws.proofs.Older.{made_earlier}
use Rattle.ledger_laws.proofs.Reaching.{reach}
use Rattle.ledger_laws.proofs.OneHistory.{one_history}
use Rattle.ledger_laws.proofs.Members.{apart, contains_in, count_in}
use Rattle.ledger_laws.proofs.Makers.{was_made}
use Rattle.ledger_laws.proofs.Repeats.{lock_answered, finish_answered, forget_answered}
use Rattle.ledger_laws.proofs.Granted.{lock_granted, finish_granted, forget_granted}

pub reach_law : ReachLaw
reach_law K mint txs later shards kept = reach K (minted mint) (IsProperCompact txs) shards later
    (steady K (minted mint) (IsProperCompact txs) later kept)

pub one_history_law : OneHistoryLaw
one_history_law K m J one other a b =
    one_history one other a.ordered b.ordered (λ n. append_cancel_right (journal n one) (journal n other) (journal n (first_rows K m))
    (sym (journal-append n one (first_rows K m)) ∙ a.journals_are n ∙ sym (b.journals_are n) ∙ journal-append n other (first_rows K m)))

pub cut_law : CutLaw
cut_law K mint txs [] older kept = kept
cut_law K mint txs (row ∷ newer) older kept = cut_law K mint txs newer older kept.3

pub maker_law : MakerLaw
maker_law K mint txs later x shards clean kept there =
    let k = steady K (minted mint) (IsProperCompact txs) later kept in
    elim (was_made K (minted mint) (IsProperCompact txs) shards (apart mint txs clean) later k x there) [
      | inl n ↦ inl (contains_in (genesis_hashes mint) x (count_in x (genesis_hashes mint) n))
      | inr m ↦ inr (
        m.0,
        record {
          makes = contains_in (all_outputs (won_of K (history_of K mint later) m.0)) x
              (count_in x (all_outputs (won_of K (history_of K mint later) m.0)) m.1);
          finished = m.2;
          commit_older = λ c e. (made_earlier K (minted mint) (IsProperCompact txs) shards later k x m.0 c m.1 m.2 e).0;
          finish_older = λ c e. (made_earlier K (minted mint) (IsProperCompact txs) shards later k x m.0 c m.1 m.2 e).1;
        },
      )
    ]

-- more submissions
each_more : (P Q : Compact → Type 0) → ((t : Compact) → P t → Q t) → (r : Record) → AllProper P r → AllProper Q r
each_more P Q f (Prepare stamp b txs) h = all_more txs h
  where
    all_more : (ts : List Compact) → Each P ts → Each Q ts
    all_more [] h = tt
    all_more (t ∷ ts) h = (f t h.0, all_more ts h.1)
each_more P Q f other h = tt

pub more_law : MoreLaw
more_law K mint txs more [] sub kept = tt
more_law K mint txs more (row ∷ later) sub kept = (
  kept.0,
  kept.1,
  passes_of (IsProperCompact more) row.what
      (each_more (IsProperCompact txs) (IsProperCompact more) (λ k p. (p.0, sub p.0 p.1, p.2, p.3)) row.what
      (proper_of (IsProperCompact txs) row.what kept.2)),
  more_law K mint txs more later sub kept.3,
)

pub answer_law : AnswerLaw
answer_law K mint txs later node (Lock_call c) shards kept at stands =
    let k = steady K (minted mint) (IsProperCompact txs) later kept in
    lock_granted (journal node (history_of K mint later)) c.batch c.part c.cause (
    subst (λ n. LockAnswered (journal n (history_of K mint later)) c.batch c.part c.cause) (sym at.1)
    (subst (λ p. LockAnswered (journal (shard_node K at.0) (history_of K mint later)) c.batch p c.cause) (sym (stands.2 at.0 at.1))
    (lock_answered K (minted mint) (IsProperCompact txs) shards later k c.batch c.cause stands.0 stands.1 at.0 at.2.0)))
answer_law K mint txs later node (Finish_call c) shards kept at stands =
    let k = steady K (minted mint) (IsProperCompact txs) later kept in
    finish_granted (journal node (history_of K mint later)) c.batch c.decisions c.cause (
    subst (λ ds. FinishAnswered (journal node (history_of K mint later)) c.batch ds c.cause) (sym stands.2)
    (subst (λ n. FinishAnswered (journal n (history_of K mint later)) c.batch
    (decisions stands.0 (entries (lock_of (journal n (history_of K mint later)) c.batch))) c.cause) (sym at.1)
    (finish_answered K (minted mint) (IsProperCompact txs) shards later k c.batch c.cause stands.0 stands.1 at.0 at.2)))
answer_law K mint txs later node (Forget_call c) shards kept at stands =
    let k = steady K (minted mint) (IsProperCompact txs) later kept in
    forget_granted (journal node (history_of K mint later)) c.batch c.cause (
    subst (λ n. ForgetAnswered (journal n (history_of K mint later)) c.batch c.cause) (sym at.1)
    (forget_answered K (minted mint) (IsProperCompact txs) shards later k c.batch c.cause stands at.0 at.2))
