-- Of a kept history in which no hashes clash an audit of a part finds nothing wrong.
use Rattle.std.proofs.Common.{◌≡◌, inl, inr, ℕ, zero, suc, ◌+◌, ◌<◌, List, [], ◌∷◌, ◌++◌, length, reverse, sym, ap, ◌∙◌, subst, arith}
use Rattle.std.specs.FinMap.{len}
use Rattle.std.proofs.lemmas.List.{reverse-reverse}
use Rattle.cbdc_types.specs.declared.answer.UnsoundKind.{UnsoundKind}
use Rattle.cbdc_types.specs.declared.answer.UnsoundKind.TheVariants.{Cause, Unknown, Unfunded, Unfinished}
use Rattle.cbdc_model.specs.Records.{Digest, Shape, Compact, Row}
use Rattle.cbdc_model.specs.Book.{InBook, value}
use Rattle.cbdc_model.specs.Coins.{Output, FullTx}
use Rattle.cbdc_model.specs.Clean.{Clean, IsNamed, IsProperCompact}
use Rattle.cbdc_model.specs.History.{Minted, minted, starts, geneses, first_rows, history_of, committed, IsSteady, IsKept}
use Rattle.ledger_laws.specs.Sets.{Folds, IsPlaced}
use Rattle.ledger_laws.proofs.Folding.{fold_law, kept_each}
use Rattle.ledger_laws.proofs.Ledger.{steady}
use Rattle.ledger_laws.proofs.Next.{Each}
use Rattle.ledger_laws.proofs.Members.{apart, coins_apart}
use Rattle.audit.specs.declared.parts.Part.{Part}
use Rattle.audit.specs.declared.parts.PartVerdict.{PartVerdict}
use Rattle.audit.specs.declared.parts.PartVerdict.TheVariants.{Sound, Unsound}
use Rattle.audit.specs.Spending.{AreSpent}
use Rattle.audit.specs.Walks.{AllCaused}
use Rattle.audit.specs.Verdicts.{Passes, IsFirstUnsound}
use Rattle.audit.specs.Parts.{HasSizes, IsSoundPart, IsPartVerdict}
use Rattle.audit.specs.PartLaws.{IsPartOf, IsFoldedPart, KeptPartLaw}
use Rattle.audit.proofs.Once.{SoFar, fold_so_far, mint_worth}
use Rattle.audit.proofs.Coins.{AllFrom, three_less}
use Rattle.audit.proofs.Single.{one_book, fault_not_passed}
use Rattle.audit.proofs.Unspent.{EachSpends, forms_are, length_hashes}

module _ (K : Shape) (m : Minted) where
  starts_caused : (n : ℕ) → AllCaused K (starts K m n)
  starts_caused zero = tt
  starts_caused (suc n) = (tt, starts_caused n)

  geneses_caused : (s : ℕ) → AllCaused K (geneses K m s ++ starts K m K.coordinators)
  geneses_caused zero = starts_caused K.coordinators
  geneses_caused (suc s) = (tt, geneses_caused s)

  steady_caused : (P : Compact → Type 0) (later : List Row) → IsSteady K m P later → AllCaused K (later ++ first_rows K m)
  steady_caused P [] kept = geneses_caused K.shards
  steady_caused P (row ∷ later) kept = (kept.1, steady_caused P later kept.3)

module _ (K : Shape) (mint : List Output) (txs : List FullTx) (later : List Row) (shards : 0 < K.shards) (clean : Clean mint txs)
    (kept : IsKept K mint txs later) where
  abbrev past : List Row
  past = history_of K mint later

  abbrev folds : Folds K mint txs past
  folds = fold_law K mint txs later shards clean kept

  spent : AreSpent mint txs (committed past) folds.book
  spent = record { txs = folds.txs; handed_in = folds.committed; folds = folds.folds }

  passes : Passes K mint txs (reverse (reverse past)) folds.book
  passes =
      subst (λ rows. Passes K mint txs rows folds.book) (sym (reverse-reverse past))
      (record { caused = steady_caused K (minted mint) (IsProperCompact txs) later kept; spent = spent })

  no_fault : (place : ℕ) (kind : UnsoundKind) → IsFirstUnsound K mint txs (reverse past) place kind → ⊥
  no_fault place kind f = fault_not_passed K mint txs (reverse past) place kind folds.book f passes

  spends : (ks : List Compact) → Each (IsProperCompact txs) ks → EachSpends ks
  spends [] each = tt
  spends (k ∷ ks) each =
      let p : IsProperCompact txs k = each.0 in
      (omega (arith, length_hashes p.0.inputs, p.2.has_input, ap (λ j. length j.inputs) p.3), spends ks each.1)

  -- the coins of the book were made by the mint or by a submission
  all_from : AllFrom (IsNamed mint txs) folds.book
  all_from q o e =
      let each : Each (IsProperCompact txs) (committed past)
      = kept_each K (IsProperCompact txs) (minted mint) shards (apart mint txs clean) later (steady K (minted mint) (IsProperCompact txs) later kept)
      in
      let ready = forms_are mint txs clean (committed past) folds.txs folds.committed (spends (committed past) each) in
      let so : SoFar mint txs clean folds.txs folds.book = fold_so_far mint txs clean folds.txs folds.book ready.0 folds.folds in
      let from = so.stands.origin q o e in
      (from.coin, (coins_apart mint txs clean).made_named from.coin from.made, from.at_point, from.output)

  coins_are : (unspent held owed : ℕ) → HasSizes K past unspent held owed → unspent + held + owed ≡ len folds.book
  coins_are unspent held owed s =
      let us = s.unspent_are in
      let hs = s.held_are in
      let os = s.owed_are in
      let in_book : (x : Digest) → IsPlaced K past x → InBook folds.book x = λ x i. (folds.places x).1 i in
      let all = three_less (IsNamed mint txs) clean.hashes folds.book all_from us.hashes hs.hashes os.hashes us.once hs.once os.once
      (λ x i. elim ((folds.places x).0 i) [
        | inl u ↦ inl ((us.all x).1 u)
        | inr r ↦ elim r [ inl w ↦ inr (inl ((hs.all x).1 w)) | inr c ↦ inr (inr ((os.all x).1 c)) ]
      ])
      (λ x u. (
        in_book x (inl ((us.all x).0 u)),
        λ w. folds.unspent_or_waiting x ((us.all x).0 u) ((hs.all x).0 w),
        λ c. folds.unspent_or_coming x ((us.all x).0 u) ((os.all x).0 c),
      ))
      (λ x w. (in_book x (inr (inl ((hs.all x).0 w))), λ c. folds.waiting_or_coming x ((hs.all x).0 w) ((os.all x).0 c)))
      (λ x c. in_book x (inr (inr ((os.all x).0 c)))) in
      let u = us.count in
      let h = hs.count in
      let o = os.count in
      omega (arith, u, h, o, all)

  part_of : (part : Part) → IsSoundPart K mint txs (reverse past) part → IsPartOf K mint txs past folds part
  part_of part p =
      let own : AreSpent mint txs (committed past) p.book =
      subst (λ rows. AreSpent mint txs (committed rows) p.book) (reverse-reverse past) p.pass.spent in
      let same : p.book ≡ folds.book = one_book mint txs (committed past) p.book folds.book own spent in
      let is : part.value ≡ value folds.book = p.value_is ∙ ap value same in
      let minted_is = p.minted_is ∙ sym (mint_worth mint txs clean) in
      let sizes : HasSizes K past part.unspent part.held part.owed =
      subst (λ rows. HasSizes K rows part.unspent part.held part.owed) (reverse-reverse past) p.sizes in
      record {
        sizes = sizes;
        coins_are = coins_are part.unspent part.held part.owed sizes;
        value_is = is;
        minted_is = minted_is;
        kept = is ∙ folds.value_kept ∙ sym minted_is;
      }

  verdict_of : (v : PartVerdict) → IsPartVerdict K mint txs (reverse past) v → IsFoldedPart K mint txs past folds v
  verdict_of (Sound part) p = part_of part p
  verdict_of (Unsound place Cause) f = no_fault place Cause f
  verdict_of (Unsound place (Unknown id)) f = no_fault place (Unknown id) f
  verdict_of (Unsound place (Unfunded id)) f = no_fault place (Unfunded id) f
  verdict_of (Unsound place Unfinished) f = f

pub kept_part : KeptPartLaw
kept_part K mint txs later shards clean kept = (folds K mint txs later shards clean kept, verdict_of K mint txs later shards clean kept)
