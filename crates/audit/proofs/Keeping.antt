-- A history whose rows are caused is kept, where they follow their journals.
use Rattle.std.proofs.Common.{List, [], ◌∷◌, ◌++◌}
use Rattle.cbdc_model.specs.Records.{Shape, Compact, Row}
use Rattle.cbdc_model.specs.Clean.{IsProperCompact}
use Rattle.cbdc_model.specs.History.{Minted, minted, first_rows, IsSteady}
use Rattle.audit.specs.Walks.{AllCaused, AllFollow, CausedLaw}

steady : (K : Shape) (m : Minted) (P : Compact → Type 0) (later : List Row) → AllCaused K (later ++ first_rows K m) → AllFollow K m P later
    → IsSteady K m P later
steady K m P [] caused follow = tt
steady K m P (row ∷ later) caused follow = (follow.0, caused.0, follow.1, steady K m P later caused.1 follow.2)

pub caused_law : CausedLaw
caused_law K mint submissions later caused follow = steady K (minted mint) (IsProperCompact submissions) later caused follow
