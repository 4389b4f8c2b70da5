use Rattle.byte_laws.proofs.FileBytes.{client_file}
use Rattle.byte_laws.proofs.files.client_file_law.Goals as goal

pub returns : goal.returns
returns c = client_file
