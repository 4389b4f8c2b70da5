use Rattle.std.proofs.Common.{◌≡◌, ℕ, zero, suc, ◌<◌, List, [], ◌∷◌, length, get_or, arith, refl, sym, ap, ◌∙◌}
use Rattle.cbdc_model.specs.Records.{Answered, Reply}
use Rattle.cbdc_model.specs.Replies.{replies}
use Rattle.shard_core.proofs.copying.same_replies.Goals as goal

replies_are : (es : List Answered) (rs : List Reply) → length es ≡ length rs
    → ((i : ℕ) (a : Answered) (r : Reply) → i < length rs → (get_or es i a).reply ≡ get_or rs i r) → rs ≡ replies es
replies_are [] [] n all = refl
replies_are [] (r ∷ rs) n all = absurd (omega arith)
replies_are (a ∷ es) [] n all = absurd (omega arith)
replies_are (a ∷ es) (r ∷ rs) n all =
    let head : a.reply ≡ r = all 0 a r (omega arith) in
    let rest : rs ≡ replies es = replies_are es rs (omega arith) (λ i b s h. all (suc i) b s (omega arith)) in
    cc

replies_at : (es : List Answered) (rs : List Reply) → rs ≡ replies es → length es ≡ length rs
replies_at es rs e = sym (ap length e ∙ replies_length es) where
  replies_length : (xs : List Answered) → length (replies xs) ≡ length xs
  replies_length [] = refl
  replies_length (x ∷ xs) = let rest = replies_length xs in omega (arith, rest)

reply_at : (es : List Answered) (i : ℕ) (a : Answered) (r : Reply) → i < length es → a ≡ get_or es i a → r ≡ get_or (replies es) i r → a.reply ≡ r
reply_at [] i a r lt x y = absurd (omega arith)
reply_at (e ∷ es) zero a r lt x y = ap (λ (b : Answered). b.reply) x ∙ sym y
reply_at (e ∷ es) (suc i) a r lt x y = reply_at es i a r (omega arith) x y

pub returns : goal.returns
returns c = (λ t. replies_are c.args.entries.now c.args.replies.now (omega arith) (λ i a r h. c.loop-at.invariant i a r (omega arith)), λ e. refl)

pub returns-then-not-is_same_reply : goal.returns-then-not-is_same_reply
returns-then-not-is_same_reply c = (
  λ t. absurd (cc),
  λ e.
      let count = replies_at c.args.entries.now c.args.replies.now e in
      let same = reply_at c.args.entries.now c.loop-at.at (get_or c.args.entries.now c.loop-at.at c.index-entries-at.result)
      c.index-replies-at.result (omega arith)
      (ap (λ a. get_or c.args.entries.now c.loop-at.at a) c.index-entries-at.is)
      (c.index-replies-at.is ∙ ap (λ rs. get_or rs c.loop-at.at c.index-replies-at.result) e) in
      sym c.if-not-is_same_reply.true ∙ c.is_same_reply.ensures.1 same,
)

pub returns-then-entries-replies : goal.returns-then-entries-replies
returns-then-entries-replies c = (λ t. absurd (cc), λ e. absurd (c.if-entries-replies.true (replies_at c.args.entries.now c.args.replies.now e)))
