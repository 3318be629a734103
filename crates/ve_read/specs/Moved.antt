-- The reading of a body by itself, moved to where it stands in the page: its bytes are counted from
-- the first byte of the page. These serve private functions.
use Rattle.std.specs.Prelude.{ℕ, ◌+◌, map}
use Rattle.model_page.specs.Pieces.{SourceSpan, Piece, Owner, Made, Progress}
use Rattle.model_page.specs.Limits.{Limit, TooDeep, TooManyMarks}
use Rattle.ve_origin.specs.declared.origin.OriginRow.{OriginRow}

abbrev pub span_moved : ℕ → SourceSpan → SourceSpan
span_moved d s = record { from = d + s.from; to = d + s.to }

abbrev pub owner_moved : ℕ → Owner → Owner
owner_moved d o = record { at = d + o.at; key = o.key; html = o.html }

abbrev pub piece_moved : ℕ → Piece → Piece
piece_moved d p = record { items = p.items; spans = map (span_moved d) p.spans }

abbrev pub made_moved : ℕ → Made → Made
made_moved d m = record {
  run = piece_moved d m.run;
  source = m.source;
  later = piece_moved d m.later;
  pre = m.pre;
  owners = map (owner_moved d) m.owners;
}

abbrev pub place_moved : ℕ → Progress → Progress
place_moved d w = record { at = d + w.at; owners = map (owner_moved d) w.owners; editable = w.editable }

abbrev pub limit_moved : ℕ → Limit → Limit
limit_moved d (TooDeep at) = TooDeep (d + at)
limit_moved d (TooManyMarks at) = TooManyMarks (d + at)

abbrev pub row_moved : ℕ → OriginRow → OriginRow
row_moved d row = record { span = record { from = d + row.span.from; to = d + row.span.to }; from = row.from; to = row.to }
