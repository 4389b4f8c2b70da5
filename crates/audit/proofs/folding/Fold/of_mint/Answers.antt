use Rattle.std.proofs.Common.{[], refl}
use Rattle.cbdc_model.specs.Book.{genesis_book}
use Rattle.audit.proofs.folding.Fold.of_mint.Goals as goal

pub returns : goal.returns
returns c = record {
  left = genesis_book c.args.mint.now;
  are_spent = record { txs = []; handed_in = tt; folds = refl };
  keeps = c.in_ok-book.ensures;
  count = refl;
  issued = refl;
  redeemed = refl;
}
