use Rattle.byte_laws.proofs.FileBytes.{mint_file}
use Rattle.byte_laws.proofs.files.mint_file_law.Goals as goal

pub returns : goal.returns
returns c = mint_file
