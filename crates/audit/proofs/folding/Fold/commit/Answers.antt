use Rattle.std.proofs.Common.{◌∙◌, ◌<◌, ◌+◌, ◌++◌, ◌∷◌, [], length, take, subst, sym, arith}
use Rattle.std.specs.Prelude.{MatchOption}
use Rattle.cbdc_model.specs.Book.{Book}
use Rattle.cbdc_model.specs.Outcomes.{won_txs}
use Rattle.audit.specs.Spending.{AreSpent, IsFormWrong}
use Rattle.audit.specs.Keeping.{HasSpent}
use Rattle.audit.proofs.Spendings.{won_spent, won_skipped, won_all, first_wrong, there}
use Rattle.audit.proofs.folding.Fold.commit.Goals as goal
use Rattle.audit.proofs.folding.Fold.commit.Goals.{then-is_won+in_ok-kind+in_default, else-is_won}

pub txs-preserved : goal.txs-preserved
txs-preserved c = λ mint forms index h.
    let lt : c.txs.at < length c.args.txs.now = omega arith in
    let less : c.txs.at < length c.args.outcomes.now = omega arith in
    elim c.if-is_won.branch [
      | then-is_won+in_ok-kind+in_default w ↦
          subst (λ fold. HasSpent mint c.args.handed.now
          (forms ++ won_txs (take (c.txs.at + 1) c.args.txs.now) (take (c.txs.at + 1) c.args.outcomes.now)) fold) (sym w.self-is)
          (won_spent mint c.args.handed.now forms c.args.txs.now c.args.outcomes.now c.txs.at w.index-txs-at.result c.index-outcomes-at.result
          w.spend.new.self lt less w.index-txs-at.is c.index-outcomes-at.is
          (sym c.is_won.ensures ∙ w.if-is_won.true)
          (subst (λ o. MatchOption o (HasSpent mint c.args.handed.now
          ((forms ++ won_txs (take c.txs.at c.args.txs.now) (take c.txs.at c.args.outcomes.now)) ++ w.index-txs-at.result ∷ []) w.spend.new.self)
          (λ kind. (b : Book) × AreSpent mint c.args.handed.now (forms ++ won_txs (take c.txs.at c.args.txs.now) (take c.txs.at c.args.outcomes.now))
          b × IsFormWrong c.args.handed.now b w.index-txs-at.result kind)) w.in_default.is
          (w.in_ok-kind.ensures mint (forms ++ won_txs (take c.txs.at c.args.txs.now) (take c.txs.at c.args.outcomes.now)) index
          (c.txs.invariant mint forms index h))))
      | else-is_won w ↦
          subst (λ fold. HasSpent mint c.args.handed.now
          (forms ++ won_txs (take (c.txs.at + 1) c.args.txs.now) (take (c.txs.at + 1) c.args.outcomes.now)) fold) (sym w.self-is)
          (won_skipped mint c.args.handed.now forms c.args.txs.now c.args.outcomes.now c.txs.at _ c.index-outcomes-at.result c.txs.self lt less
          (there c.args.txs.now c.txs.at lt).1 c.index-outcomes-at.is
          (sym c.is_won.ensures ∙ w.if-is_won.false) (c.txs.invariant mint forms index h))
    ]

pub returns-in-Some : goal.returns-in-Some
returns-in-Some c = λ mint forms index h.
    let lt : c.txs.at < length c.args.txs.now = omega arith in
    let less : c.txs.at < length c.args.outcomes.now = omega arith in
    first_wrong mint c.args.handed.now forms c.args.txs.now c.args.outcomes.now c.txs.at c.index-txs-at.result c.index-outcomes-at.result
    c.in-Some.kind lt less c.index-txs-at.is c.index-outcomes-at.is
    (sym c.is_won.ensures ∙ c.if-is_won.true)
    (subst (λ o. MatchOption o (HasSpent mint c.args.handed.now
    ((forms ++ won_txs (take c.txs.at c.args.txs.now) (take c.txs.at c.args.outcomes.now)) ++ c.index-txs-at.result ∷ []) c.spend.new.self)
    (λ kind. (b : Book) × AreSpent mint c.args.handed.now (forms ++ won_txs (take c.txs.at c.args.txs.now) (take c.txs.at c.args.outcomes.now)) b
    × IsFormWrong c.args.handed.now b c.index-txs-at.result kind)) c.in-Some.is
    (c.in_ok-kind.ensures mint (forms ++ won_txs (take c.txs.at c.args.txs.now) (take c.txs.at c.args.outcomes.now)) index
    (c.txs.invariant mint forms index h)))

pub returns : goal.returns
returns c = λ mint forms index h. won_all mint c.args.handed.now forms c.args.txs.now c.args.outcomes.now c.txs.at c.txs.self (omega arith)
    (c.txs.invariant mint forms index h)
