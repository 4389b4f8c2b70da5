-- What the pieces of a text come to, round the name of a file.
use Rattle.std.specs.Prelude.{◌≡◌, ◌++◌}
use Rattle.line_text.specs.Lines.{Text}
use Rattle.line_text.specs.declared.faults.Pieces.{Pieces}
use Rattle.line_text.specs.declared.faults.Pieces.TheVariants.{Whole, Around}

-- the pieces with the name between them are the text that belongs to that name
abbrev pub Spells : Pieces → (Text → Text) → Type 0
Spells (Whole text) wanted = (name : Text) → text.items ≡ wanted name
Spells (Around front end) wanted = (name : Text) → (front.items ++ name) ++ end.items ≡ wanted name
