-- The lines of batches that were brought to their end.
use Rattle.std.specs.Prelude.{◌++◌, List, [], ◌∷◌}
use Rattle.line_text.specs.Lines.{Text}
use Rattle.line_text.specs.Reports.{resumed_line}
use Rattle.recovery.specs.declared.resumed.ResumedBatch.{ResumedBatch}
use Rattle.printed_lines.specs.Recoveries.{won_in, lost_in}

-- the line of a resumed batch
abbrev pub batch_text : ResumedBatch → Text
batch_text r = resumed_line r.batch r.phase (won_in r.outcomes) (lost_in r.outcomes)

-- the lines of resumed batches, in order
abbrev pub batch_texts : List ResumedBatch → Text
batch_texts [] = []
batch_texts (r ∷ rs) = batch_text r ++ batch_texts rs
