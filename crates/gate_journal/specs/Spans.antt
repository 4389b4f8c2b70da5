-- Where the bodies of a journal lie in its bytes.
use Rattle.std.specs.Prelude.{ℕ, ◌+◌, ◌≤◌, List, length, take, drop}
use Rattle.gate_journal.specs.declared.bodies.Span.{Span}

-- the bytes of a span
abbrev pub span_body : List ℕ → Span → List ℕ
span_body bytes span = take span.len (drop span.at bytes)

-- the span lies within the bytes
abbrev pub IsSpanWithin : List ℕ → Span → Type 0
IsSpanWithin bytes span = span.at + span.len ≤ length bytes
