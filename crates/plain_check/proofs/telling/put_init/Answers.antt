use Rattle.line_text.specs.Lines.{init_text}
use Rattle.plain_check.proofs.Pages.{printed}
use Rattle.plain_check.proofs.telling.put_init.Goals as goal

pub returns : goal.returns
returns c = printed c.args.page.now.text.items c.write_init.new.out.text.items (init_text c.args.coins c.args.minted c.args.genesis.now)
    c.write_init.result c.write_init.ensures.prints
