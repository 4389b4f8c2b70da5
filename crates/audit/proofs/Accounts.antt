-- A sound verdict accounts for all money.
use Rattle.std.proofs.Common.{◌≡◌, ℕ, zero, suc, ◌+◌, ◌*◌, ◌/◌, ◌<◌, true, List, [], ◌∷◌, ◌++◌, map, length, reverse, refl, sym, ap, ◌∙◌, subst}
use Rattle.std.proofs.Common.{arith}
use Rattle.std.specs.List.{IsDistinct, AllByRecursion}
use Rattle.std.proofs.Math.Nat.{div-lt_iff_lt-mul}
use Rattle.std.proofs.lemmas.List.{reverse-reverse}
use Rattle.std.proofs.lemmas.List.Elements.{recursion_from_All}
use Rattle.cbdc_model.specs.Records.{Digest, same_digest, Shape, Batch, Record, Row, journal}
use Rattle.cbdc_model.specs.Ranges.{shard_of, shard_node}
use Rattle.cbdc_model.specs.Status.{status}
use Rattle.cbdc_model.specs.Slots.{slot, Idle}
use Rattle.cbdc_model.specs.Coins.{Output, FullTx, compact}
use Rattle.cbdc_model.specs.Book.{InBook, genesis_book, total}
use Rattle.cbdc_model.specs.Money.{taken_sum, made_sum, issued, redeemed}
use Rattle.cbdc_model.specs.Clean.{Clean}
use Rattle.cbdc_model.specs.History.{minted, first_rows, history_of, committed, IsOrdered, AreHandedIn}
use Rattle.cbdc_model.specs.World.{IsHistory, IsUnspent, AreIdle}
use Rattle.ledger_laws.proofs.Next.{Steady, has_prepare}
use Rattle.ledger_laws.proofs.Ledger.{SteadyJournals, steady_lists, after_of}
use Rattle.ledger_laws.proofs.Together.{steady_journals}
use Rattle.ledger_laws.proofs.Alikes.{alike}
use Rattle.ledger_laws.proofs.More.{has_done}
use Rattle.cbdc_types.specs.declared.answer.Totals.{Totals}
use Rattle.audit.specs.Laws.{AllAfter}
use Rattle.audit.specs.Spending.{AreSpent}
use Rattle.audit.specs.Verdicts.{Passes, IsSoundHistory, journals_of}
use Rattle.ledger_laws.proofs.Issuing.{EachKeeps, is_issued}
use Rattle.ledger_laws.proofs.Recovery.{one_list}
use Rattle.audit.proofs.Once.{SoFar, AreReady, fold_so_far, mint_worth, EachBalanced, all_balanced, fold_flow}
use Rattle.audit.proofs.Unspent.{done_of, forms_are}
use Rattle.audit.proofs.Sound.{unspent_is_book, spends_of, all_done}
use Rattle.audit.proofs.Ordered.{ordered_rows}
use Rattle.audit.specs.Journals.{AreLedgerJournals, BeginAs}
use Rattle.audit.specs.Accounts.{IsBalanced, IsKeeping, EachSpends, IsAccounted}
use Rattle.audit.specs.AccountLaws.{AnyForm, AccountLaw}
use Rattle.audit.proofs.Begun.{caused_lists}
use Rattle.audit.proofs.Twice.{none_twice, no_id_twice}
use Rattle.audit.proofs.AtRest.{at_rest}

balanced_of : (ts : List FullTx) → AllByRecursion IsBalanced ts → EachBalanced ts
balanced_of [] h = tt
balanced_of (t ∷ ts) h = (h.0, balanced_of ts h.1)

keeping_of : (ts : List FullTx) → AllByRecursion IsKeeping ts → EachKeeps ts
keeping_of [] h = tt
keeping_of (t ∷ ts) h = (h.0, keeping_of ts h.1)

afters : (K : Shape) (mint : List Output) (later : List Row) → Steady K (minted mint) AnyForm later → AllAfter K (minted mint) later
afters K mint [] kept = tt
afters K mint (row ∷ later) kept = (
  after_of K (minted mint).id row.node (journal row.node (later ++ first_rows K (minted mint))) row.what kept.0 kept.4,
  afters K mint later kept.3,
)

same_length : {A B : Type 0} (f : A → B) (xs : List A) → length (map f xs) ≡ length xs
same_length f [] = refl
same_length f (x ∷ xs) = ap suc (same_length f xs)

module _ (K : Shape) (mint : List Output) (handed : List FullTx) (rows : List Row) (totals : Totals) (shards : 0 < K.shards)
    (are : AreLedgerJournals K (minted mint).id (journals_of rows))
    (ordered : IsOrdered (reverse rows)) (begin : BeginAs K (minted mint) (journals_of rows)) (clean : Clean mint handed)
    (each : EachSpends (reverse rows)) (sound : IsSoundHistory K mint handed rows totals) where
  abbrev J : ℕ → List Record
  J = journals_of rows

  steady : SteadyJournals K (minted mint) AnyForm J
  steady = steady_journals K (minted mint) AnyForm shards J
      (steady_lists K (minted mint) AnyForm J (caused_lists K (minted mint) (reverse rows) are begin sound.pass.caused))

  abbrev past : List Row
  past = history_of K mint steady.later

  is_history : IsHistory K (minted mint) J steady.later
  is_history = record { ordered = steady.ordered; journals_are = steady.history }

  same_past : reverse rows ≡ past
  same_past = ordered_rows K mint J steady.later (reverse rows) (afters K mint steady.later steady.kept) is_history ordered (λ n. refl)

  same_rows : rows ≡ reverse past
  same_rows = sym (reverse-reverse rows) ∙ ap reverse same_past

  sound_past : IsSoundHistory K mint handed (reverse past) totals
  sound_past = subst (λ r. IsSoundHistory K mint handed r totals) same_rows sound

  spends : EachSpends past
  spends = subst EachSpends same_past each

  unspent : (x : Digest) → (IsUnspent K J x → InBook sound_past.book x) × (InBook sound_past.book x → IsUnspent K J x)
  unspent x =
      let law = unspent_is_book K mint handed steady.later totals shards clean (afters K mint steady.later steady.kept) spends sound_past x in
      let at : journal (shard_node K (shard_of K x)) past ≡ J (shard_node K (shard_of K x)) = steady.history (shard_node K (shard_of K x)) in
      (λ u. law.0 (ap (λ I. status I x) at ∙ u), λ i. ap (λ I. status I x) (sym at) ∙ law.1 i)

  done_past : (b : Batch) → has_prepare (journal (b.lane / K.lanes) past) b ≡ true → has_done (journal (b.lane / K.lanes) past) b ≡ true
  done_past b h = done_of K (λ n. journal n past) past (b.lane / K.lanes) b (all_done K past sound_past.done) h

  done : (b : Batch) → has_prepare (J (b.lane / K.lanes)) b ≡ true → has_done (J (b.lane / K.lanes)) b ≡ true
  done b h =
      let at : journal (b.lane / K.lanes) past ≡ J (b.lane / K.lanes) = steady.history (b.lane / K.lanes) in
      subst (λ I. has_done I b ≡ true) at (done_past b (subst (λ I. has_prepare I b ≡ true) (sym at) h))

  idle_past : (lane : ℕ) → lane / K.lanes < K.coordinators → (slot (journal (lane / K.lanes) past) lane).phase ≡ Idle
  idle_past = at_rest K (minted mint) AnyForm shards steady.later steady.kept done_past

  idle : AreIdle K J
  idle lane lt = ap (λ I. (slot I lane).phase) (sym (steady.history (lane / K.lanes))) ∙ idle_past lane (below K.lanes K.coordinators lane lt)
    where
      below : (lanes coordinators lane : ℕ) → lane < coordinators * lanes → lane / lanes < coordinators
      below zero coordinators lane h = absurd (omega (arith, h))
      below (suc lanes) coordinators lane h = (div-lt_iff_lt-mul (omega arith)).1 h

  pass : Passes K mint handed past sound_past.book
  pass = subst (λ r. Passes K mint handed r sound_past.book) (reverse-reverse past) sound_past.pass

  spent : AreSpent mint handed (committed past) sound_past.book
  spent = pass.spent

  forms : AreReady mint handed clean spent.txs × (map compact spent.txs ≡ committed past)
  forms = forms_are mint handed clean (committed past) spent.txs spent.handed_in
      (spends_of (committed past) (recursion_from_All (λ k. 0 < length k.inputs) (committed past) spends))

  so : SoFar mint handed clean spent.txs sound_past.book
  so = fold_so_far mint handed clean spent.txs sound_past.book forms.0 spent.folds

  counted : totals.committed ≡ length spent.txs
  counted = sound_past.committed ∙ ap (λ r. length (committed r)) (reverse-reverse past) ∙ ap length (sym forms.1) ∙ same_length compact spent.txs

  flow : (f : Output → ℕ) → total f sound_past.book + taken_sum f spent.txs ≡ total f (genesis_book mint) + made_sum f spent.txs
  flow = fold_flow mint handed clean spent.txs sound_past.book forms.0 spent.folds

  spent_same : sound_past.pass.spent.txs ≡ spent.txs
  spent_same = one_list handed (committed past) sound_past.pass.spent.txs spent.txs
      (subst (λ r. AreHandedIn handed (committed r) sound_past.pass.spent.txs) (reverse-reverse past) sound_past.pass.spent.handed_in) spent.handed_in

  pub is_accounted : IsAccounted K mint handed J totals
  is_accounted = record {
    later = steady.later;
    history = is_history;
    caused = pass.caused;
    done = done;
    txs = spent.txs;
    committed = spent.handed_in;
    book = sound_past.book;
    folds = spent.folds;
    unspent = unspent;
    flow = flow;
    value_kept = λ balanced. omega (
      arith,
      flow (λ o. o.value),
      all_balanced spent.txs (balanced_of spent.txs (recursion_from_All IsBalanced spent.txs balanced)),
    );
    issuance = λ keeping. is_issued mint spent.txs sound_past.book (keeping_of spent.txs (recursion_from_All IsKeeping spent.txs keeping)) flow;
    none_twice = none_twice mint handed clean spent.txs sound_past.book so;
    no_id_twice = subst (λ ks. IsDistinct same_digest (map (λ k. k.id) ks)) forms.1
        (no_id_twice mint handed clean spent.txs sound_past.book so forms.0);
    idle = idle;
    alike = alike K (minted mint) AnyForm shards J steady idle_past;
    totals_are = λ i. record {
      coins = sound_past.coins i;
      value = sound_past.value i;
      minted = (sound_past.minted ∙ sym (mint_worth mint handed clean)) i;
      committed = counted i;
      money = sound_past.money i;
      issued = (sound_past.issued ∙ ap issued spent_same) i;
      redeemed = (sound_past.redeemed ∙ ap redeemed spent_same) i;
    };
  }

pub account : AccountLaw
account K mint handed rows totals shards are ordered begin clean each sound =
    is_accounted K mint handed rows totals shards are ordered begin clean each sound
