-- A submission that is placed: what the lanes have then, and what is said of it.
use Rattle.std.proofs.Common.{◌≡◌, ◌≢◌, ◌⊎◌, inl, inr, ℕ, suc, ◌+◌, ◌*◌, ◌%◌, ◌<◌, Bool, true, false, ◌==◌, List, [], ◌∷◌, ◌++◌, length, refl, ap}
use Rattle.std.proofs.Common.{sym, ◌∙◌, subst, arith, Option, Some, None}
use Rattle.std.specs.Prelude.{slice_get, take, All, Contains}
use Rattle.std.proofs.lemmas.List.Elements.{All-append, All-cons, All-nil}
use Rattle.std.specs.Global.{Vec}
use Rattle.std.proofs.lemmas.Bool.Decides.{eqb_tells}
use Rattle.std.proofs.lemmas.List.{append-nil}
use Rattle.std.proofs.lemmas.Option.{slice_get-get_or, slice_get_cases}
use Rattle.std.proofs.Common.{get_or, zero, ◌≤◌, add-one, length-append}
use Rattle.std.proofs.Math.Seq.{take-suc}
use Rattle.std.proofs.lemmas.Option.{get_or_from_slice_get}
use Rattle.std.proofs.lemmas.List.{length-take-le}
use Rattle.cbdc_types.specs.declared.tx.CompactTx.{CompactTx}
use Rattle.cbdc_model.specs.Records.{Shape, Compact}
use Rattle.cbdc_model.specs.Coins.{FullTx, compact, tx_id}
use Rattle.cbdc_model.specs.Waves.{sent_to}
use Rattle.sentinel.specs.FirstRefusal.{IsSoundTx, IsFirstRefusal}
use Rattle.std.specs.List.{AllZip}
use Rattle.std.specs.Option.{IsSomeAnd}
use Rattle.std.specs.Prelude.{MatchOption}
use Rattle.std.proofs.lemmas.Slice.Zip.{AllZip-right}
use Rattle.std.proofs.lemmas.Option.{slice_get_within}
use Rattle.submissions.specs.Checks.{VerdictsOf, AllEmpty, TellsSound, IsRuled, IsRuling, IsDealtBy, IsDealtAt, AreSent, IsSentFrom, AreSentFrom}
use Rattle.submissions.specs.Checks.{IsSaid}
use Rattle.submissions.specs.declared.Ruled.{Ruled}
use Rattle.submissions.specs.declared.Ruling.{Ruling}
use Rattle.submissions.specs.declared.Ruling.TheVariants as ruling
use Rattle.submissions.specs.declared.Checked.{Checked}
use Rattle.submissions.specs.declared.Judgement.{Judgement}
use Rattle.submissions.specs.declared.Judgement.TheVariants.{Refused, Sound}
use Rattle.submissions.proofs.Shares.{sent_if, sent_more}

-- one empty list more
pub empty_more : (lists all : List (Vec CompactTx)) (last : Vec CompactTx) → all ≡ lists ++ last ∷ [] → last.items ≡ [] → AllEmpty lists
    → AllEmpty all
empty_more lists all last is none so = subst AllEmpty (sym is) (behind lists so)
  where
    behind : (xs : List (Vec CompactTx)) → AllEmpty xs → AllEmpty (xs ++ last ∷ [])
    behind [] empty zero list at = let same : last ≡ list = cc in subst (λ (v : Vec CompactTx). v.items ≡ []) same none
    behind [] empty (suc n) list at = absurd cc
    behind (x ∷ xs) empty zero list at = empty zero list at
    behind (x ∷ xs) empty (suc n) list at = behind xs (λ lane v there. empty (suc lane) v there) n list at

-- a sentinel's judgement of a transaction: the first reason to refuse it; or it is sound, and its compact form goes to the end of a lane's list
abbrev IsGiven : VerdictsOf → FullTx → ℕ → List CompactTx → List CompactTx → Judgement → Type 0
IsGiven verdicts t at before after (Refused r) = IsFirstRefusal t (verdicts (tx_id t)) r × (after ≡ before)
IsGiven verdicts t at before after (Sound lane place) =
    IsSoundTx t (verdicts (tx_id t)) × (lane ≡ at) × (place ≡ length before) × (after ≡ before ++ compact t ∷ [])

abbrev IsJudged : VerdictsOf → FullTx → ℕ → List CompactTx → List CompactTx → Checked → Type 0
IsJudged verdicts t at before after c = (c.id ≡ tx_id t) × IsGiven verdicts t at before after c.judgement

-- the same in the list of one lane, with those of the others as before
pub record IsPlaced (verdicts : VerdictsOf) (t : FullTx) (at : ℕ) (old new : List (Vec CompactTx)) (c : Checked) : Type 0 where
  pub count : length new ≡ length old
  pub own : (was list : Vec CompactTx) → slice_get old at ≡ Some was → slice_get new at ≡ Some list → IsJudged verdicts t at was.items list.items c
  pub others : (lane : ℕ) → lane ≢ at → slice_get new lane ≡ slice_get old lane

-- what was made of the transaction at a place
pub ruled_at : (verdicts : VerdictsOf) (txs : List FullTx) (all : List Ruled) (i : ℕ) (one : Ruled) → AllZip (IsRuled verdicts) txs all
    → i < length all → one ≡ get_or all i one
    → (t : FullTx) × (i < length txs) × (t ≡ get_or txs i t) × IsRuled verdicts t one
ruled_at verdicts txs all i one so within item = go (slice_get txs i) refl both
  where
    here : slice_get all i ≡ Some one
    here = slice_get-get_or all i one within ∙ ap (λ x. Some x) (sym item)

    both : IsSomeAnd (slice_get txs i) (λ x. IsRuled verdicts x one)
    both = subst (λ o. MatchOption o (Unit {0}) (λ y. IsSomeAnd (slice_get txs i) (λ x. IsRuled verdicts x y))) here
        (AllZip-right (IsRuled verdicts) txs all so i)

    go : (o : Option FullTx) → slice_get txs i ≡ o → IsSomeAnd o (λ x. IsRuled verdicts x one)
        → (t : FullTx) × (i < length txs) × (t ≡ get_or txs i t) × IsRuled verdicts t one
    go (Some t) e p = (t, slice_get_within txs i t e, sym (get_or_from_slice_get txs i t t e), p)
    go None e p = absurd p

-- what is kept of a transaction is a sentinel's judgement of it
given_by : (verdicts : VerdictsOf) (t : FullTx) (r : Ruling) (at : ℕ) (before after : List CompactTx) (j : Judgement)
    → IsRuling verdicts t r → IsDealtBy r at before after j → IsGiven verdicts t at before after j
given_by verdicts t (ruling.Refused why) at before after j first (e, same) = subst (λ j. IsGiven verdicts t at before after j) (sym e) (first, same)
given_by verdicts t (ruling.Sound k) at before after j (is, form) (e, grown) =
    subst (λ j. IsGiven verdicts t at before after j) (sym e) (is, refl, refl, grown ∙ ap (λ x. before ++ x ∷ []) form)

pub placed_by : (verdicts : VerdictsOf) (t : FullTx) (r : Ruled) (at : ℕ) (old new : List (Vec CompactTx)) (c : Checked)
    → IsRuled verdicts t r → IsDealtAt r at old new c → IsPlaced verdicts t at old new c
placed_by verdicts t r at old new c (id, ruled) dealt = record {
  count = dealt.count;
  own = λ was list had has. (
    (dealt.own was list had has).0 ∙ id,
    given_by verdicts t r.ruling at was.items list.items c.judgement ruled (dealt.own was list had has).1,
  );
  others = dealt.others;
}

-- the list behind the judgement is what is sent there then
given_list : (verdicts : VerdictsOf) (sound : FullTx → Bool) → TellsSound verdicts sound
    → (t : FullTx) (at : ℕ) (before after : List Compact) (j : Judgement)
    → IsGiven verdicts t at before after j → after ≡ before ++ sent_if true (sound t) t
given_list verdicts sound tells t at before after (Refused r) (first, same) = go (sound t) refl
  where
    go : (b : Bool) → sound t ≡ b → after ≡ before ++ sent_if true b t
    go true e = absurd ((tells t).0 e r first.applies)
    go false e = same ∙ sym (append-nil before)
given_list verdicts sound tells t at before after (Sound lane place) (is, e0, e1, grown) =
    subst (λ b. after ≡ before ++ sent_if true b t) (sym ((tells t).1 is)) grown

pub placed_sent : (K : Shape) (verdicts : VerdictsOf) (file : List FullTx) (t : FullTx) (at : ℕ) (old new : List (Vec CompactTx)) (c : Checked)
    → at ≡ length file % (K.coordinators * K.lanes) → at < length old
    → AreSent K verdicts file old → IsPlaced verdicts t at old new c → AreSent K verdicts (file ++ t ∷ []) new
placed_sent K verdicts file t at old new c is within sent placed sound tells lane list there = go (eqb_tells (length file % n) lane)
  where
    n : ℕ
    n = K.coordinators * K.lanes

    grown : (b : Bool) → (length file % n == lane) ≡ b → list.items ≡ sent_to K sound file lane ++ sent_if b (sound t) t
        → list.items ≡ sent_to K sound (file ++ t ∷ []) lane
    grown b e so = (so ∙ ap (λ x. sent_to K sound file lane ++ sent_if x (sound t) t) (sym e)) ∙ sym (sent_more K sound file t lane)

    go : (((length file % n == lane) ≡ true) × (length file % n ≡ lane)) ⊎ (((length file % n == lane) ≡ false) × (length file % n ≢ lane))
        → list.items ≡ sent_to K sound (file ++ t ∷ []) lane
    go (inl (b, e)) =
        let here : lane ≡ at = sym e ∙ sym is in
        let was = get_or old at list in
        let had : slice_get old at ≡ Some was = slice_get-get_or old at list within in
        let own = placed.own was list had (subst (λ m. slice_get new m ≡ Some list) here there) in
        let before : was.items ≡ sent_to K sound file lane = subst (λ m. was.items ≡ sent_to K sound file m) (sym here) (sent sound tells at was had)
        in
        grown true b (given_list verdicts sound tells t at was.items list.items c.judgement own.1 ∙ ap (λ l. l ++ sent_if true (sound t) t) before)
    go (inr (b, e)) =
        let other : lane ≢ at = λ h. e (sym is ∙ sym h) in
        let same : slice_get old lane ≡ Some list = sym (placed.others lane other) ∙ there in
        grown false b (sent sound tells lane list same ∙ sym (append-nil (sent_to K sound file lane)))

said_by : (K : Shape) (verdicts : VerdictsOf) (all file : List FullTx) (t : FullTx) (at : ℕ) (was : Vec CompactTx) (after : List Compact)
    (j : Judgement)
    → at ≡ length file % (K.coordinators * K.lanes) → ((sound : FullTx → Bool) → TellsSound verdicts sound → was.items ≡ sent_to K sound file at)
    → IsGiven verdicts t at was.items after j → file ≡ take (length file) all → IsSaid K verdicts all (length file) t j
said_by K verdicts all file t at was after (Refused r) is had (first, same) front = first
said_by K verdicts all file t at was after (Sound lane place) is had (sound_is, e0, e1, grown) front = (
  sound_is,
  e0 ∙ is,
  λ sound tells. e1 ∙ ap (λ l. length l) (had sound tells) ∙ ap (λ l. length (sent_to K sound file l)) (sym e0)
      ∙ ap (λ f. length (sent_to K sound f lane)) front,
)

pub placed_said : (K : Shape) (verdicts : VerdictsOf) (all file : List FullTx) (t : FullTx) (at : ℕ) (old new : List (Vec CompactTx)) (c : Checked)
    → at ≡ length file % (K.coordinators * K.lanes) → at < length old → length new ≡ length old → file ≡ take (length file) all
    → AreSent K verdicts file old → IsPlaced verdicts t at old new c → (c.id ≡ tx_id t) × IsSaid K verdicts all (length file) t c.judgement
placed_said K verdicts all file t at old new c is within count front sent placed = go (slice_get_cases old at).1
  where
    behind : (was : Vec CompactTx) → slice_get old at ≡ Some was
        → ((now : Vec CompactTx) × (at < length new) × (slice_get new at ≡ Some now) × (get_or new at now ≡ now))
        ⊎ ((length new ≤ at) × (slice_get new at ≡ None))
        → (c.id ≡ tx_id t) × IsSaid K verdicts all (length file) t c.judgement
    behind was had (inl (now, w, has, e)) =
        let own = placed.own was now had has in
        (own.0, said_by K verdicts all file t at was now.items c.judgement is (λ sound tells. sent sound tells at was had) own.1 front)
    behind was had (inr (past, e)) = absurd (omega (arith, past, within, count))

    go : ((was : Vec CompactTx) × (at < length old) × (slice_get old at ≡ Some was) × (get_or old at was ≡ was))
        ⊎ ((length old ≤ at) × (slice_get old at ≡ None))
        → (c.id ≡ tx_id t) × IsSaid K verdicts all (length file) t c.judgement
    go (inl (was, w, had, e)) = behind was had (slice_get_cases new at).1
    go (inr (past, e)) = absurd (omega (arith, past, within))

-- an item of a list with one more at its end
pub snoc_get : {A : Type 0} (xs : List A) (x c : A) (j : ℕ) → slice_get (xs ++ x ∷ []) j ≡ Some c
    → (slice_get xs j ≡ Some c) ⊎ ((j ≡ length xs) × (c ≡ x))
snoc_get [] x c zero e = inr (refl, cc)
snoc_get [] x c (suc j) e = inl e
snoc_get (y ∷ ys) x c zero e = inl e
snoc_get (y ∷ ys) x c (suc j) e = elim (snoc_get ys x c j e) [ inl h ↦ inl h | inr (a, b) ↦ inr (ap (λ n. suc n) a, b) ]

-- what is known when the submissions before place i are placed
pub record PlacedTo (K : Shape) (verdicts : VerdictsOf) (all : List FullTx) (i : ℕ) (lanes : List (Vec CompactTx)) (checked : List Checked) : Type 0
  where
    pub sent : AreSent K verdicts (take i all) lanes
    pub count : length checked ≡ i
    pub each : (j : ℕ) (t : FullTx) (c : Checked) → slice_get all j ≡ Some t → slice_get checked j ≡ Some c
        → (c.id ≡ tx_id t) × IsSaid K verdicts all j t c.judgement

pub goes_on : (K : Shape) (verdicts : VerdictsOf) (all : List FullTx) (i : ℕ) (t : FullTx) (at : ℕ) (old new : List (Vec CompactTx))
    (checked : List Checked) (c : Checked)
    → i < length all → t ≡ get_or all i t → at ≡ i % (K.coordinators * K.lanes) → at < length old
    → PlacedTo K verdicts all i old checked → IsPlaced verdicts t at old new c → PlacedTo K verdicts all (i + 1) new (checked ++ c ∷ [])
goes_on K verdicts all i t at old new checked c inside item is within so placed =
    let size : length (take i all) ≡ i = length-take-le i all (omega arith) in
    let front : take (i + 1) all ≡ take i all ++ t ∷ [] =
    ap (λ n. take n all) (add-one i) ∙ take-suc all i t inside ∙ ap (λ x. take i all ++ x ∷ []) (sym item) in
    let at_is : at ≡ length (take i all) % (K.coordinators * K.lanes) = is ∙ ap (λ n. n % (K.coordinators * K.lanes)) (sym size) in
    let said = placed_said K verdicts all (take i all) t at old new c at_is within placed.count (ap (λ n. take n all) (sym size)) so.sent placed in
    record {
      sent = subst (λ f. AreSent K verdicts f new) (sym front) (placed_sent K verdicts (take i all) t at old new c at_is within so.sent placed);
      count = length-append checked (c ∷ []) ∙ ap (λ n. n + 1) so.count;
      each = λ j u d there has. elim (snoc_get checked c d j has) [
        | inl h ↦ so.each j u d there h
        | inr (j_is, d_is) ↦
            let place : j ≡ i = j_is ∙ so.count in
            let same : u ≡ t = sym (get_or_from_slice_get all i u t (subst (λ m. slice_get all m ≡ Some u) place there)) ∙ sym item in
            let a = subst (λ m. (c.id ≡ tx_id t) × IsSaid K verdicts all m t c.judgement) size said in
            let b = subst (λ m. (c.id ≡ tx_id t) × IsSaid K verdicts all m t c.judgement) (sym place) a in
            let e = subst (λ v. (c.id ≡ tx_id v) × IsSaid K verdicts all j v c.judgement) (sym same) b in
            subst (λ d. (d.id ≡ tx_id u) × IsSaid K verdicts all j u d.judgement) (sym d_is) e
      ];
    }

-- ---- what goes to the lanes is sound

more_from : (verdicts : VerdictsOf) (all : List FullTx) (t : FullTx) (at : ℕ) (before after : List Compact) (j : Judgement) → Contains all t
    → IsGiven verdicts t at before after j → All (IsSentFrom verdicts all) before → All (IsSentFrom verdicts all) after
more_from verdicts all t at before after (Refused r) inside (first, same) so = subst (λ l. All (IsSentFrom verdicts all) l) (sym same) so
more_from verdicts all t at before after (Sound lane place) inside (is, e0, e1, grown) so =
    subst (λ l. All (IsSentFrom verdicts all) l) (sym grown)
    (All-append (IsSentFrom verdicts all) before (compact t ∷ []) so
    (All-cons (IsSentFrom verdicts all) (compact t) [] (t, inside, is, refl) (All-nil (IsSentFrom verdicts all))))

pub placed_from : (verdicts : VerdictsOf) (all : List FullTx) (t : FullTx) (at : ℕ) (old new : List (Vec CompactTx)) (c : Checked) → Contains all t
    → at < length old
    → AreSentFrom verdicts all old → IsPlaced verdicts t at old new c → AreSentFrom verdicts all new
placed_from verdicts all t at old new c inside within so placed lane list there = go (eqb_tells lane at)
  where
    go : (((lane == at) ≡ true) × (lane ≡ at)) ⊎ (((lane == at) ≡ false) × (lane ≢ at)) → All (IsSentFrom verdicts all) list.items
    go (inl (b, e)) =
        let was = get_or old at list in
        let had : slice_get old at ≡ Some was = slice_get-get_or old at list within in
        more_from verdicts all t at was.items list.items c.judgement inside
        (placed.own was list had (subst (λ m. slice_get new m ≡ Some list) e there)).1 (so at was had)
    go (inr (b, d)) = so lane list (sym (placed.others lane d) ∙ there)
